-- Which rules never hold from an event that begins now to one that has begun, and so put no record
-- out of order.
use Rattle.std.proofs.Common.{◌≡◌, ℕ, ◌<◌, Bool, true, false, List, [], ◌∷◌, ◌++◌, length, Option, Some, None, refl, ap, ◌∙◌, arith, inl, inr}
use Rattle.std.specs.Prelude.{◌==◌, ◌||◌, ◌&&◌, not}
use Rattle.std.specs.List.{list_any}
use Rattle.std.proofs.lemmas.Bool.{ne_eqb}
use Rattle.std.proofs.lemmas.Bool.Decides.{nat_tests}
use Rattle.er_trace.specs.declared.record.Record.{Record}
use Rattle.er_trace.specs.declared.record.Record.TheVariants.{Back}
use Rattle.er_trace.specs.declared.version.Version.{Version}
use Rattle.er_trace.specs.declared.version.Version.TheVariants.{One, Two, Three}
use Rattle.er_history.specs.History.{Element, Timeout, Task, Delivery, DclOf, LoadOf, EloadOf, FireAt, InlineAt, WindowFire, ReplyOf, What, ParseStep, ScriptRun, TimeoutRun, TickRun, BeginOf, HandlerOf, CloseOf, MessageRun, AnimRun, JobRun, Unnamed, Event, Action, History, told, begins, event_begun}
use Rattle.er_history.specs.Rules.{Rule, any_holds, recorded, made_by, is_some_and, parse_rules, timer_rules, request_rules, parse_steps_in_order, document_before_its_steps, script_made_before_run, static_loads_before_load, inner_load_before_frame_load, target_before_dispatch, registered_before_run, dispatches_of_one_type_in_order, set_before_timer, timers_in_order, ticks_in_order, replies_in_order, task_rules, post_before_message, messages_in_order, ask_before_anim, anims_in_order, queue_before_job, jobs_in_order, jobs_before_callbacks, jobs_before_close}
use Rattle.er_history.specs.Laws.{Among}
use Rattle.er_history.specs.Facts.{DeliveryStays, WhatStays}
use Rattle.er_history.specs.Edges.{path}
use Rattle.er_history.specs.Handed.{HasFamily}
use Rattle.er_history.specs.Sound.{leads_back, out_of_order, NeverLeadBack}
use Rattle.er_history.proofs.HistoryLemmas.{event_below, told_before, goes_on}
use Rattle.er_history.proofs.DeclaredLemmas.{or_none}
use Rattle.er_history.proofs.FactsLemmas.{facts_stay}
use Rattle.er_history.proofs.MakersLemmas.{ElementBelow, TimeoutBelow, TaskBelow, task_below, maker_below, element_below, element_maker_below, timeout_below}

-- the makers that an event kept are numbers below n

abbrev pub MadeBefore : ℕ → Option ℕ → Type 0
MadeBefore n m = (k : ℕ) → m ≡ Some k → k < n

abbrev pub ElementBefore : ℕ → Option Element → Type 0
ElementBefore n made = (x : Element) → made ≡ Some x → ElementBelow n x

abbrev pub TimeoutBefore : ℕ → Option Timeout → Type 0
TimeoutBefore n made = (x : Timeout) → made ≡ Some x → TimeoutBelow n x

abbrev pub TaskBefore : ℕ → Option Task → Type 0
TaskBefore n made = (x : Task) → made ≡ Some x → TaskBelow n x

abbrev pub DeliveryBefore : ℕ → Delivery → Type 0
DeliveryBefore n (DclOf d m) = MadeBefore n m
DeliveryBefore n (LoadOf d m) = MadeBefore n m
DeliveryBefore n (EloadOf e made) = ElementBefore n made
DeliveryBefore n (FireAt e name m) = MadeBefore n m
DeliveryBefore n (InlineAt e name m) = MadeBefore n m
DeliveryBefore n (WindowFire d name m) = MadeBefore n m
DeliveryBefore n (ReplyOf r m) = MadeBefore n m

abbrev pub WhatBefore : ℕ → What → Type 0
WhatBefore n (ParseStep d m) = MadeBefore n m
WhatBefore n (ScriptRun e made) = ElementBefore n made
WhatBefore n (TimeoutRun t made) = TimeoutBefore n made
WhatBefore n (TickRun i m) = MadeBefore n m
WhatBefore n (BeginOf d) = DeliveryBefore n d.delivers
WhatBefore n (HandlerOf d g x m) = DeliveryBefore n d.delivers × MadeBefore n m
WhatBefore n (CloseOf d) = DeliveryBefore n d.delivers
WhatBefore n (MessageRun m made) = TaskBefore n made
WhatBefore n (AnimRun a made) = TaskBefore n made
WhatBefore n (JobRun j made within) = TaskBefore n made
WhatBefore n Unnamed = Unit {0}

-- an event that began before the n-th action
abbrev pub BeganBefore : ℕ → Event → Type 0
BeganBefore n v = (v.number < n) × WhatBefore n v.what

pub delivery_before : (h : List Record) (d : Delivery) → DeliveryStays (told h).entries d → DeliveryBefore (length (told h).actions) d
delivery_before h (DclOf d m) stays = λ k e. maker_below h _ k (stays k e)
delivery_before h (LoadOf d m) stays = λ k e. maker_below h _ k (stays k e)
delivery_before h (EloadOf y made) stays = λ x e. element_below h y x (stays x e)
delivery_before h (FireAt y n m) stays = λ k e. element_maker_below h y k (stays k e)
delivery_before h (InlineAt y n m) stays = λ k e. element_maker_below h y k (stays k e)
delivery_before h (WindowFire d n m) stays = λ k e. maker_below h _ k (stays k e)
delivery_before h (ReplyOf r m) stays = λ k e. maker_below h _ k (stays k e)

pub what_before : (h : List Record) (w : What) → WhatStays (told h).entries w → WhatBefore (length (told h).actions) w
what_before h (ParseStep d m) stays = λ k e. maker_below h _ k (stays k e)
what_before h (ScriptRun y made) stays = λ x e. element_below h y x (stays x e)
what_before h (TimeoutRun t made) stays = λ x e. timeout_below h t x (stays x e)
what_before h (TickRun i m) stays = λ k e. maker_below h _ k (stays k e)
what_before h (BeginOf d) stays = delivery_before h d.delivers stays
what_before h (HandlerOf d g x m) stays = (delivery_before h d.delivers stays.0, λ k e. maker_below h _ k (stays.1 k e))
what_before h (CloseOf d) stays = delivery_before h d.delivers stays
what_before h (MessageRun m made) stays = λ x e. task_below h _ x (stays x e)
what_before h (AnimRun a made) stays = λ x e. task_below h _ x (stays x e)
what_before h (JobRun j made within) stays = λ x e. task_below h _ x (stays x e)
what_before h Unnamed stays = tt

-- each action is a piece of such an event
pub events_began : (h : List Record) (a : Action) → Among a (told h).actions → BeganBefore (length (told h).actions) a.event
events_began h a among = (event_below (told h).actions a (told_before h) among, what_before h a.event.what (facts_stay h a among))

-- the words of the rules, from an event that begins now

-- It never holds from an event to one that began before it.
abbrev pub NeverBack : Rule → Type 0
NeverBack rule = (joined : ℕ → ℕ → Bool) (u v : Event) → BeganBefore u.number v → rule joined u v ≡ false

pub not_recorded : (u v : Event) → v.number < u.number → recorded u v ≡ false
not_recorded u v before = grind (arith, nat_tests)

pub not_maker : (m : Option ℕ) (u : Event) → MadeBefore u.number m → made_by m u ≡ false
not_maker None u before = refl
not_maker (Some k) u before = let below = before k refl in ne_eqb k u.number (λ e. omega arith)

pub not_element_maker : (made : Option Element) (n : ℕ) → ElementBefore n made → is_some_and (λ (x : Element). x.maker == n) made ≡ false
not_element_maker None n before = refl
not_element_maker (Some x) n before = let below = (before x refl).0 in ne_eqb x.maker n (λ e. omega arith)

pub not_timeout_maker : (made : Option Timeout) (n : ℕ) → TimeoutBefore n made → is_some_and (λ (x : Timeout). x.maker == n) made ≡ false
not_timeout_maker None n before = refl
not_timeout_maker (Some x) n before = let below = (before x refl).0 in ne_eqb x.maker n (λ e. omega arith)

-- the rules

pub parse_steps_never_back : NeverBack parse_steps_in_order
parse_steps_never_back joined u v before = rw (not_recorded u v before.0)

pub static_loads_never_back : NeverBack static_loads_before_load
static_loads_never_back joined u v before = rw (not_recorded u v before.0)

pub inner_load_never_back : NeverBack inner_load_before_frame_load
inner_load_never_back joined u v before = rw (not_recorded u v before.0)

pub dispatches_never_back : NeverBack dispatches_of_one_type_in_order
dispatches_never_back joined u v before = rw (not_recorded u v before.0)

pub timers_never_back : (v : Version) → NeverBack (timers_in_order v)
timers_never_back One joined u v before = rw (not_recorded u v before.0)
timers_never_back Two joined u v before = rw (not_recorded u v before.0)
timers_never_back Three joined u v before = rw (not_recorded u v before.0)

pub document_never_back : NeverBack document_before_its_steps
document_never_back joined u v before = by v.what before.1
  where
    by : (w : What) → WhatBefore u.number w → document_before_its_steps joined u (record { number = v.number; what = w }) ≡ false
    by (ParseStep d m) before = not_maker m u before
    by _ before = refl

pub script_made_never_back : NeverBack script_made_before_run
script_made_never_back joined u v before = by v.what before.1
  where
    by : (w : What) → WhatBefore u.number w → script_made_before_run joined u (record { number = v.number; what = w }) ≡ false
    by (ScriptRun e made) before = not_element_maker made u.number before
    by _ before = refl

pub target_never_back : NeverBack target_before_dispatch
target_never_back joined u v before = by v.what before.1
  where
    of : (n p b : ℕ) (d : Delivery) → DeliveryBefore u.number d → target_before_dispatch joined u (record { number = n; what = BeginOf (record { number = p; begin = b; delivers = d }) }) ≡ false
    of n p b (DclOf d m) before = not_maker m u before
    of n p b (LoadOf d m) before = not_maker m u before
    of n p b (FireAt e name m) before = not_maker m u before
    of n p b (InlineAt e name m) before = not_maker m u before
    of n p b (WindowFire d name m) before = not_maker m u before
    of n p b _ before = refl

    by : (w : What) → WhatBefore u.number w → target_before_dispatch joined u (record { number = v.number; what = w }) ≡ false
    by (BeginOf d) before = of v.number d.number d.begin d.delivers before
    by _ before = refl

pub registered_never_back : NeverBack registered_before_run
registered_never_back joined u v before = by v.what before.1
  where
    by : (w : What) → WhatBefore u.number w → registered_before_run joined u (record { number = v.number; what = w }) ≡ false
    by (HandlerOf d g x m) before = not_maker m u before.1
    by _ before = refl

pub set_never_back : NeverBack set_before_timer
set_never_back joined u v before = by v.what before.1
  where
    by : (w : What) → WhatBefore u.number w → set_before_timer joined u (record { number = v.number; what = w }) ≡ false
    by (TimeoutRun t made) before = not_timeout_maker made u.number before
    by _ before = refl

pub ticks_never_back : NeverBack ticks_in_order
ticks_never_back joined u v before = by u.what v.what (not_recorded u v before.0) before.1
  where
    by : (x w : What) → recorded u v ≡ false → WhatBefore u.number w → ticks_in_order joined (record { number = u.number; what = x }) (record { number = v.number; what = w }) ≡ false
    by (TickRun k l) (TickRun i m) later before = rw (not_maker m (record { number = u.number; what = TickRun k l }) before, later) refl
    by x (TickRun i m) later before = rw (not_maker m (record { number = u.number; what = x }) before) refl
    by x _ later before = refl

pub replies_never_back : NeverBack replies_in_order
replies_never_back joined u v before = by v.what before.1
  where
    of : (n p b : ℕ) (d : Delivery) → recorded u (record { number = n; what = BeginOf (record { number = p; begin = b; delivers = d }) }) ≡ false → DeliveryBefore u.number d
        → replies_in_order joined u (record { number = n; what = BeginOf (record { number = p; begin = b; delivers = d }) }) ≡ false
    of n p b (ReplyOf r m) later before = rw (not_maker m u before, later) refl
    of n p b _ later before = refl

    by : (w : What) → WhatBefore u.number w → replies_in_order joined u (record { number = v.number; what = w }) ≡ false
    by (BeginOf d) kept = of v.number d.number d.begin d.delivers (not_recorded u v before.0) kept
    by _ kept = refl

pub not_task_maker : (made : Option Task) (n : ℕ) → TaskBefore n made → is_some_and (λ (x : Task). x.maker == n) made ≡ false
not_task_maker None n before = refl
not_task_maker (Some x) n before = let below = (before x refl).0 in ne_eqb x.maker n (λ e. omega arith)

pub post_never_back : NeverBack post_before_message
post_never_back joined u v before = by v.what before.1
  where
    by : (w : What) → WhatBefore u.number w → post_before_message joined u (record { number = v.number; what = w }) ≡ false
    by (MessageRun m made) before = not_task_maker made u.number before
    by _ before = refl

pub ask_never_back : NeverBack ask_before_anim
ask_never_back joined u v before = by v.what before.1
  where
    by : (w : What) → WhatBefore u.number w → ask_before_anim joined u (record { number = v.number; what = w }) ≡ false
    by (AnimRun a made) before = not_task_maker made u.number before
    by _ before = refl

pub queue_never_back : NeverBack queue_before_job
queue_never_back joined u v before = by v.what before.1
  where
    by : (w : What) → WhatBefore u.number w → queue_before_job joined u (record { number = v.number; what = w }) ≡ false
    by (JobRun j made within) before = not_task_maker made u.number before
    by _ before = refl

pub messages_never_back : NeverBack messages_in_order
messages_never_back joined u v before = rw (not_recorded u v before.0)

pub anims_never_back : NeverBack anims_in_order
anims_never_back joined u v before = rw (not_recorded u v before.0)

pub jobs_never_back : NeverBack jobs_in_order
jobs_never_back joined u v before = rw (not_recorded u v before.0)

pub callbacks_never_back : NeverBack jobs_before_callbacks
callbacks_never_back joined u v before = rw (not_recorded u v before.0)

pub close_never_back : NeverBack jobs_before_close
close_never_back joined u v before = rw (not_recorded u v before.0)

-- tables of rules

abbrev pub NoneBack : List (ℕ × Rule) → Type 0
NoneBack [] = Unit {0}
NoneBack (r ∷ rules) = NeverBack r.1 × NoneBack rules

pub neither : (b c : Bool) → b ≡ false → c ≡ false → (b || c) ≡ false
neither b c e f = rw (e, f) refl

pub not_both : (b c : Bool) → c ≡ false → (b && c) ≡ false
not_both true c e = e
not_both false c e = refl

pub none_holds_back : (rules : List (ℕ × Rule)) (joined : ℕ → ℕ → Bool) (u v : Event) → NoneBack rules → BeganBefore u.number v → any_holds rules joined u v ≡ false
none_holds_back rules joined u v none before = not_both (not (u.number == v.number)) (list_any (λ (r : ℕ × Rule). r.1 joined u v) rules) (all rules none)
  where
    all : (rs : List (ℕ × Rule)) → NoneBack rs → list_any (λ (r : ℕ × Rule). r.1 joined u v) rs ≡ false
    all [] none = refl
    all (r ∷ rs) none = neither (r.1 joined u v) (list_any (λ (r : ℕ × Rule). r.1 joined u v) rs) (none.0 joined u v before) (all rs none.1)

pub none_passes : (test : Action → Bool) (actions : List Action) → ((a : Action) → Among a actions → test a ≡ false) → list_any test actions ≡ false
none_passes test [] none = refl
none_passes test (a ∷ older) none = neither (test a) (list_any test older) (none a (inl refl)) (none_passes test older (λ b among. none b (inr among)))

pub each_fails : (test : Action → Bool) (actions : List Action) → list_any test actions ≡ false → (a : Action) → Among a actions → test a ≡ false
each_fails test [] e a among = absurd among
each_fails test (b ∷ older) e a (inl same) = ap test same ∙ (or_none (test b) (list_any test older) e).0
each_fails test (b ∷ older) e a (inr deeper) = each_fails test older (or_none (test b) (list_any test older) e).1 a deeper

pub any_same : (f g : Action → Bool) (actions : List Action) → ((a : Action) → Among a actions → f a ≡ g a) → list_any f actions ≡ list_any g actions
any_same f g [] same = refl
any_same f g (a ∷ older) same = (λ i. same a (inl refl) i || any_same f g older (λ b among. same b (inr among)) i)

pub any_under : (b : Bool) (test : Action → Bool) (actions : List Action) → list_any (λ a. b && test a) actions ≡ (b && list_any test actions)
any_under true test actions = refl
any_under false test actions = none_passes (λ a. false) actions (λ a among. refl)

pub none_lead_back : (rules : List (ℕ × Rule)) → NoneBack rules → NeverLeadBack rules
none_lead_back rules none joined h (Back p) = refl
none_lead_back rules none joined h x =
    not_both (begins x) (list_any (λ (i : Action). any_holds rules joined (event_begun (told h) x) i.event) (told h).actions)
    (none_passes (λ (i : Action). any_holds rules joined (event_begun (told h) x) i.event) (told h).actions
    (λ a among. none_holds_back rules joined (event_begun (told h) x) a.event none (events_began h a among)))

pub parse_rules_never_lead_back : NeverLeadBack parse_rules
parse_rules_never_lead_back = none_lead_back parse_rules (parse_steps_never_back, (document_never_back, tt))

pub timer_rules_never_lead_back : (v : Version) → NeverLeadBack (timer_rules v)
timer_rules_never_lead_back v = none_lead_back (timer_rules v) (set_never_back, (timers_never_back v, (ticks_never_back, tt)))

pub request_rules_never_lead_back : NeverLeadBack request_rules
request_rules_never_lead_back = none_lead_back request_rules (replies_never_back, tt)

pub task_rules_never_lead_back : NeverLeadBack task_rules
task_rules_never_lead_back = none_lead_back task_rules (post_never_back, (messages_never_back, (ask_never_back, (anims_never_back, (queue_never_back, (jobs_never_back, (callbacks_never_back, (close_never_back, tt))))))))

-- where the table does not hold, no rule of the family does
pub family_fails : (table family : List (ℕ × Rule)) (joined : ℕ → ℕ → Bool) (u v : Event) → HasFamily table family → any_holds table joined u v ≡ false → any_holds family joined u v ≡ false
family_fails table family joined u v has e = by (any_holds family joined u v) (any_holds table joined u v) (has joined u v) e
  where
    by : (b c : Bool) → (b ≡ true → c ≡ true) → c ≡ false → b ≡ false
    by true c f e = absurd (let g = f refl in cc)
    by false c f e = refl

-- from what a record in order begins, the family leads to no event that has begun
pub leads_nowhere : (table family : List (ℕ × Rule)) (h : List Record) (x : Record) → HasFamily table family → goes_on x ≡ false → out_of_order table h x ≡ false → begins x ≡ true
    → (a : Action) → Among a (told h).actions → any_holds family (path table h) (event_begun (told h) x) a.event ≡ false
leads_nowhere table family h (Back p) has new order begin a among = absurd (cc)
leads_nowhere table family h x has new order begin a among =
    let event : Event = event_begun (told h) x in
    family_fails table family (path table h) event a.event has (each_fails (λ (c : Action). any_holds table (path table h) event c.event) (told h).actions (under (begins x) _ begin order) a among)
  where
    under : (b c : Bool) → b ≡ true → (b && c) ≡ false → c ≡ false
    under true c e f = f
    under false c e f = absurd (cc)

-- two tables together

pub any_append : {A : Type 0} → (f : A → Bool) (xs ys : List A) → list_any f (xs ++ ys) ≡ (list_any f xs || list_any f ys)
any_append f [] ys = refl
any_append f (x ∷ xs) ys = rw (any_append f xs ys) (or_assoc (f x) (list_any f xs) (list_any f ys))
  where
    or_assoc : (a b c : Bool) → (a || (b || c)) ≡ ((a || b) || c)
    or_assoc true b c = refl
    or_assoc false b c = refl

pub any_either : {A : Type 0} → (f g : A → Bool) (xs : List A) → list_any (λ x. f x || g x) xs ≡ (list_any f xs || list_any g xs)
any_either f g [] = refl
any_either f g (x ∷ xs) = rw (any_either f g xs) (swap (f x) (g x) (list_any f xs) (list_any g xs))
  where
    swap : (a b c d : Bool) → ((a || b) || (c || d)) ≡ ((a || c) || (b || d))
    swap true b c d = refl
    swap false true true d = refl
    swap false true false d = refl
    swap false false c d = refl

pub and_or : (a b c : Bool) → (a && (b || c)) ≡ ((a && b) || (a && c))
and_or true b c = refl
and_or false b c = refl

pub holds_append : (a b : List (ℕ × Rule)) (joined : ℕ → ℕ → Bool) (u v : Event) → any_holds (a ++ b) joined u v ≡ (any_holds a joined u v || any_holds b joined u v)
holds_append a b joined u v =
    let holds : ℕ × Rule → Bool = λ r. r.1 joined u v in
    ap (λ c. not (u.number == v.number) && c) (any_append holds a b) ∙ and_or (not (u.number == v.number)) (list_any holds a) (list_any holds b)

-- a record leads back by one of two tables exactly where it does by one of them
pub leads_append : (a b : List (ℕ × Rule)) (joined : ℕ → ℕ → Bool) (h : History) (x : Record) → leads_back (a ++ b) joined h x ≡ (leads_back a joined h x || leads_back b joined h x)
leads_append a b joined h (Back p) = refl
leads_append a b joined h x =
    let event : Event = event_begun h x in
    let by : List (ℕ × Rule) → Action → Bool = λ rules i. any_holds rules joined event i.event in
    let each : by (a ++ b) ≡ (λ i. by a i || by b i) = λ at i. holds_append a b joined event i.event at in
    ap (λ f. begins x && list_any f h.actions) each
    ∙ (ap (λ c. begins x && c) (any_either (by a) (by b) h.actions)
    ∙ and_or (begins x) (list_any (by a) h.actions) (list_any (by b) h.actions))

pub ruleset later_events_never_lead_back = (parse_rules_never_lead_back, timer_rules_never_lead_back, request_rules_never_lead_back, task_rules_never_lead_back)
