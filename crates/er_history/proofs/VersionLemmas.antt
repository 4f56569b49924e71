-- Proofs of what the versions of the format share.
use Rattle.std.proofs.Common.{◌≡◌, ℕ, ◌<◌, Bool, true, false, List, [], ◌∷◌, ◌++◌, length, Option, Some, None, refl, sym, ap, subst, ◌∙◌, arith, inl, inr}
use Rattle.std.specs.Prelude.{◌-◌, ◌==◌, ◌||◌, ◌&&◌, not, nat_lt, nat_le, if◌then◌else◌}
use Rattle.std.specs.List.{list_any}
use Rattle.std.proofs.lemmas.Bool.Decides.{nat_tests}
use Rattle.er_text.specs.declared.causes.Cause.{Cause}
use Rattle.er_text.specs.declared.causes.Cause.TheVariants.{OutOfOrder}
use Rattle.er_trace.specs.declared.record.Record.{Record}
use Rattle.er_trace.specs.declared.record.Record.TheVariants.{Back}
use Rattle.er_trace.specs.declared.version.Version.{Version}
use Rattle.er_trace.specs.declared.version.Version.TheVariants.{One, Two, Three}
use Rattle.er_history.specs.History.{Timeout, Task, What, TimeoutRun, MessageRun, AnimRun, JobRun, Unnamed, Dispatch, Event, Action, History, told, begins, find_open, action_at, what_begun, event_resumed, event_begun, action_begun, or_else}
use Rattle.er_history.specs.Rules.{Rule, any_holds, parse_rules, script_rules, load_rules, dispatch_rules, timer_rules, request_rules, task_rules, rules, set_before_timer, timers_of_joined_pieces_in_order, ticks_in_order, declared_in_order, post_before_message, messages_in_order, ask_before_anim, anims_in_order, queue_before_job, jobs_in_order, jobs_before_callbacks, jobs_before_close}
use Rattle.er_history.specs.Edges.{path, up_to, is_ruled}
use Rattle.er_history.specs.Laws.{Among}
use Rattle.er_history.specs.Naming.{naming, room}
use Rattle.er_history.specs.Sound.{leads_back, out_of_order, cause, IsSound}
use Rattle.er_history.specs.Versions.{CausesAreShared, SoundListsAreShared, SetBeforeCallback, PathsBeforeSuffice}
use Rattle.er_history.proofs.HistoryLemmas.{action_at_among}
use Rattle.er_history.proofs.FactsLemmas.{all_keep, begun_keeps}
use Rattle.er_history.proofs.OrderLemmas.{holds_append, leads_append, WhatBefore, TaskBefore, what_before, timer_rules_never_lead_back, request_rules_never_lead_back, task_rules_never_lead_back}

-- families of rules that ask for no paths

abbrev pub AskNoPaths : List (ℕ × Rule) → Type 0
AskNoPaths family = (f g : ℕ → ℕ → Bool) (u v : Event) → any_holds family f u v ≡ any_holds family g u v

pub parse_asks_none : AskNoPaths parse_rules
parse_asks_none f g u v = refl

pub script_asks_none : AskNoPaths script_rules
script_asks_none f g u v = refl

pub load_asks_none : AskNoPaths load_rules
load_asks_none f g u v = refl

pub dispatch_asks_none : AskNoPaths dispatch_rules
dispatch_asks_none f g u v = refl

pub timeouts_ask_none : AskNoPaths ((18, set_before_timer) ∷ [])
timeouts_ask_none f g u v = refl

pub ticks_ask_none : AskNoPaths ((20, ticks_in_order) ∷ [])
ticks_ask_none f g u v = refl

pub requests_ask_none : AskNoPaths request_rules
requests_ask_none f g u v = refl

both_ask_none : (a b : List (ℕ × Rule)) → AskNoPaths a → AskNoPaths b → AskNoPaths (a ++ b)
both_ask_none a b first second f g u v = holds_append a b f u v ∙ (λ i. first f g u v i || second f g u v i) ∙ sym (holds_append a b g u v)

-- those before the rules of timers
abbrev first_rules : List (ℕ × Rule)
first_rules = parse_rules ++ script_rules ++ load_rules ++ dispatch_rules

first_ask_none : AskNoPaths first_rules
first_ask_none =
    both_ask_none (parse_rules ++ script_rules ++ load_rules) dispatch_rules
    (both_ask_none (parse_rules ++ script_rules) load_rules (both_ask_none parse_rules script_rules parse_asks_none script_asks_none) load_asks_none)
    dispatch_asks_none

-- the rules of a version, in four parts
holds_by_parts : (v : Version) (joined : ℕ → ℕ → Bool) (u w : Event)
    → any_holds (rules v) joined u w ≡ (((any_holds first_rules joined u w || any_holds (timer_rules v) joined u w) || any_holds request_rules joined u w) || any_holds task_rules joined u w)
holds_by_parts v joined u w =
    holds_append (first_rules ++ timer_rules v ++ request_rules) task_rules joined u w
    ∙ (ap (λ c. c || any_holds task_rules joined u w) (holds_append (first_rules ++ timer_rules v) request_rules joined u w)
    ∙ ap (λ c. (c || any_holds request_rules joined u w) || any_holds task_rules joined u w) (holds_append first_rules (timer_rules v) joined u w))

-- order

leads_same : (family : List (ℕ × Rule)) (f g : ℕ → ℕ → Bool) (h : History) (x : Record) → AskNoPaths family → leads_back family f h x ≡ leads_back family g h x
leads_same family f g h (Back p) free = refl
leads_same family f g h x free = ap (λ (test : Action → Bool). begins x && list_any test h.actions) (λ k i. free f g (event_begun h x) i.event k)

-- the first families alone decide
leads_by_first : (v : Version) (joined : ℕ → ℕ → Bool) (h : List Record) (x : Record) → leads_back (rules v) joined (told h) x ≡ leads_back first_rules joined (told h) x
leads_by_first v joined h x =
    leads_append (first_rules ++ timer_rules v ++ request_rules) task_rules joined (told h) x
    ∙ (ap (λ c. c || leads_back task_rules joined (told h) x) (leads_append (first_rules ++ timer_rules v) request_rules joined (told h) x)
    ∙ (ap (λ c. (c || leads_back request_rules joined (told h) x) || leads_back task_rules joined (told h) x) (leads_append first_rules (timer_rules v) joined (told h) x)
    ∙ alone _ _ _ _ (timer_rules_never_lead_back v joined h x) (request_rules_never_lead_back joined h x) (task_rules_never_lead_back joined h x)))
  where
    alone : (a b c d : Bool) → b ≡ false → c ≡ false → d ≡ false → (((a || b) || c) || d) ≡ a
    alone true b c d e f g = refl
    alone false b c d e f g = rw (e, f, g) refl

order_shared : (v w : Version) (h : List Record) (x : Record) → out_of_order (rules v) h x ≡ out_of_order (rules w) h x
order_shared v w h x =
    leads_by_first v (path (rules v) h) h x
    ∙ (leads_same first_rules (path (rules v) h) (path (rules w) h) (told h) x first_ask_none
    ∙ sym (leads_by_first w (path (rules w) h) h x))

pub causes_are_shared : CausesAreShared
causes_are_shared v w h x = ap (λ late. or_else (naming h x) (if late then Some OutOfOrder else room h x)) (order_shared v w h x)

pub sound_lists_are_shared : SoundListsAreShared
sound_lists_are_shared v w [] sound = tt
sound_lists_are_shared v w (x ∷ h) sound = (causes_are_shared w v h x ∙ sound.0, sound_lists_are_shared v w h sound.1)

-- what an event kept was declared before it

resumed_knows : (t : History) (p : ℕ) → ((a : Action) → Among a t.actions → WhatBefore a.event.number a.event.what) → WhatBefore (event_resumed t p).number (event_resumed t p).what
resumed_knows t p older = of_found (find_open p t.stack)
  where
    event_of : Option Action → Event
    event_of None = record { number = length t.actions; what = Unnamed }
    event_of (Some a) = a.event

    of : Option Dispatch → Event
    of None = event_of None
    of (Some d) = event_of (action_at (d.begin - 1) t.actions)

    at : (k : ℕ) (found : Option Action) → action_at k t.actions ≡ found → WhatBefore (event_of found).number (event_of found).what
    at k None e = tt
    at k (Some a) e = older a (action_at_among k t.actions a e).0

    of_found : (found : Option Dispatch) → WhatBefore (of found).number (of found).what
    of_found None = tt
    of_found (Some d) = at (d.begin - 1) (action_at (d.begin - 1) t.actions) refl

event_knows : (h : List Record) (x : Record) → ((a : Action) → Among a (told h).actions → WhatBefore a.event.number a.event.what) → WhatBefore (event_begun (told h) x).number (event_begun (told h) x).what
event_knows h (Back p) older = resumed_knows (told h) p older
event_knows h x older = what_before h (what_begun (told h) x) (begun_keeps (told h) x (all_keep h).1)

pub all_know : (h : List Record) (a : Action) → Among a (told h).actions → WhatBefore a.event.number a.event.what
all_know [] a among = absurd among
all_know (x ∷ h) a among = step (begins x) (event_knows h x (all_know h)) (all_know h a) among
  where
    step : (b : Bool) → WhatBefore (event_begun (told h) x).number (event_begun (told h) x).what → (Among a (told h).actions → WhatBefore a.event.number a.event.what)
        → Among a (if b then action_begun (told h) x ∷ (told h).actions else (told h).actions) → WhatBefore a.event.number a.event.what
    step true new older (inl same) = subst (λ (c : Action). WhatBefore c.event.number c.event.what) (sym same) new
    step true new older (inr deeper) = older deeper
    step false new older deeper = older deeper

pub set_before_callback : SetBeforeCallback
set_before_callback h a t x among e = (subst (WhatBefore a.event.number) e (all_know h a among) x refl).1

-- so the rules may be told of all paths

joined_before : (n k m : ℕ) (f : ℕ → ℕ → Bool) → m < n → up_to n f k m ≡ f k m
joined_before n k m f below = ap (λ b. b && f k m) (let is : nat_lt m n ≡ true = grind (arith, nat_tests) in is)

-- a rule that is told of the paths before the later event holds exactly where it does by all paths
abbrev pub AllPathsTell : Rule → Type 0
AllPathsTell rule = (joined : ℕ → ℕ → Bool) (u v : Event) → WhatBefore v.number v.what → rule (up_to v.number joined) u v ≡ rule joined u v

abbrev with : ℕ → What → Event
with n w = record { number = n; what = w }

timers_by_all : AllPathsTell timers_of_joined_pieces_in_order
timers_by_all joined u v set = by u.what v.what set
  where
    by : (w z : What) → WhatBefore v.number z
        → timers_of_joined_pieces_in_order (up_to v.number joined) (with u.number w) (with v.number z) ≡ timers_of_joined_pieces_in_order joined (with u.number w) (with v.number z)
    by (TimeoutRun s (Some x)) (TimeoutRun t (Some y)) set =
        ap (λ c. nat_lt u.number v.number && (nat_lt x.place y.place && (nat_le x.delay y.delay && c))) (joined_before v.number x.piece y.piece joined (set y refl).1)
    by (TimeoutRun s None) (TimeoutRun t made) set = refl
    by (TimeoutRun s (Some x)) (TimeoutRun t None) set = refl
    by (TimeoutRun s made) _ set = refl
    by _ z set = refl

tasks_by_all : (joined : ℕ → ℕ → Bool) (n : ℕ) (made made2 : Option Task) → TaskBefore n made2 → declared_in_order (up_to n joined) made made2 ≡ declared_in_order joined made made2
tasks_by_all joined n (Some x) (Some y) set = ap (λ c. nat_lt x.place y.place && c) (joined_before n x.piece y.piece joined (set y refl).1)
tasks_by_all joined n None made2 set = refl
tasks_by_all joined n (Some x) None set = refl

messages_by_all : AllPathsTell messages_in_order
messages_by_all joined u v set = by u.what v.what set
  where
    by : (w z : What) → WhatBefore v.number z → messages_in_order (up_to v.number joined) (with u.number w) (with v.number z) ≡ messages_in_order joined (with u.number w) (with v.number z)
    by (MessageRun m made) (MessageRun n made2) set = ap (λ c. nat_lt u.number v.number && c) (tasks_by_all joined v.number made made2 set)
    by (MessageRun m made) _ set = refl
    by _ z set = refl

anims_by_all : AllPathsTell anims_in_order
anims_by_all joined u v set = by u.what v.what set
  where
    by : (w z : What) → WhatBefore v.number z → anims_in_order (up_to v.number joined) (with u.number w) (with v.number z) ≡ anims_in_order joined (with u.number w) (with v.number z)
    by (AnimRun m made) (AnimRun n made2) set = ap (λ c. nat_lt u.number v.number && c) (tasks_by_all joined v.number made made2 set)
    by (AnimRun m made) _ set = refl
    by _ z set = refl

jobs_by_all : AllPathsTell jobs_in_order
jobs_by_all joined u v set = by u.what v.what set
  where
    by : (w z : What) → WhatBefore v.number z → jobs_in_order (up_to v.number joined) (with u.number w) (with v.number z) ≡ jobs_in_order joined (with u.number w) (with v.number z)
    by (JobRun m made within) (JobRun n made2 around) set = ap (λ c. nat_lt u.number v.number && c) (tasks_by_all joined v.number made made2 set)
    by (JobRun m made within) _ set = refl
    by _ z set = refl

timer_rules_by_all : (version : Version) (joined : ℕ → ℕ → Bool) (u v : Event) → WhatBefore v.number v.what → any_holds (timer_rules version) (up_to v.number joined) u v ≡ any_holds (timer_rules version) joined u v
timer_rules_by_all One joined u v set = refl
timer_rules_by_all Two joined u v set =
    ap (λ c. not (u.number == v.number) && (set_before_timer joined u v || (c || (ticks_in_order joined u v || false)))) (timers_by_all joined u v set)
timer_rules_by_all Three joined u v set =
    ap (λ c. not (u.number == v.number) && (set_before_timer joined u v || (c || (ticks_in_order joined u v || false)))) (timers_by_all joined u v set)

task_rules_by_all : (joined : ℕ → ℕ → Bool) (u v : Event) → WhatBefore v.number v.what → any_holds task_rules (up_to v.number joined) u v ≡ any_holds task_rules joined u v
task_rules_by_all joined u v set = λ i. not (u.number == v.number) && (post_before_message joined u v || (messages_by_all joined u v set i || (ask_before_anim joined u v || (anims_by_all joined u v set i
    || (queue_before_job joined u v || (jobs_by_all joined u v set i || (jobs_before_callbacks joined u v || (jobs_before_close joined u v || false))))))))

pub paths_before_suffice : PathsBeforeSuffice
paths_before_suffice v h a b among =
    let joined = path (rules v) h in
    let told_of = up_to b.event.number joined in
    let knows = all_know h b among in
    holds_by_parts v told_of a.event b.event
    ∙ ((λ i. ((first_ask_none told_of joined a.event b.event i || timer_rules_by_all v joined a.event b.event knows i) || requests_ask_none told_of joined a.event b.event i) || task_rules_by_all joined a.event b.event knows i)
    ∙ sym (holds_by_parts v joined a.event b.event))
