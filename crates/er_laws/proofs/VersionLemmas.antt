-- Proof that each version has the edges and paths of version 1. Lists of records stand
-- newest first.
use Rattle.std.proofs.Common.{◌≡◌, ℕ, zero, suc, ◌<◌, ◌≤◌, Bool, true, false, List, [], ◌∷◌, ◌++◌, length, Option, Some, None, refl, sym, ap, subst, ◌∙◌, arith, inl, inr, ◌⊎◌}
use Rattle.std.specs.Prelude.{◌==◌, ◌||◌, ◌&&◌, not, nat_lt, nat_le, if◌then◌else◌}
use Rattle.std.proofs.lemmas.Bool.{eqb-true, eq-eqb, ltb-true}
use Rattle.std.proofs.lemmas.Bool.Decides.{nat_tests}
use Rattle.er_trace.specs.declared.record.Record.{Record}
use Rattle.er_trace.specs.declared.record.Record.TheVariants.{Set}
use Rattle.er_trace.specs.declared.version.Version.{Version}
use Rattle.er_trace.specs.declared.version.Version.TheVariants.{One, Two, Three}
use Rattle.er_paths.specs.Paths.{joins, is_among, list_of}
use Rattle.er_paths.proofs.Paths.{or_left, or_right, or_cases, paths_stand, paths_go_forward, paths_compose, edge_joins, place_cases}
use Rattle.er_paths.proofs.links.Tests.{both, and_true}
use Rattle.er_paths.proofs.links.Sources.{last_source}
use Rattle.er_history.specs.History.{Timeout, Task, What, TimeoutRun, MessageRun, AnimRun, JobRun, Event, Action, Entry, History, told, begins, or_else, first_to, makes_timeout, running, action_begun, actions_after}
use Rattle.er_history.specs.Rules.{Rule, any_holds, parse_rules, script_rules, load_rules, dispatch_rules, timer_rules, request_rules, task_rules, rules, set_before_timer, timers_in_order, timers_of_one_event_in_order, timers_of_joined_pieces_in_order, ticks_in_order, declared_in_order, post_before_message, messages_in_order, ask_before_anim, anims_in_order, queue_before_job, jobs_in_order, jobs_before_callbacks, jobs_before_close}
use Rattle.er_history.specs.Edges.{edge, edges, path, up_to, around_inline, of_one_event}
use Rattle.er_history.specs.Laws.{Among, IsNumbered}
use Rattle.er_history.specs.Facts.{WhatStays}
use Rattle.er_history.proofs.FactsLemmas.{facts_stay}
use Rattle.er_history.proofs.HistoryLemmas.{edges_length, told_before, event_before, actions_are_numbered, among_below, edges_are_edges, edges_go_forward, edges_join_actions}
use Rattle.er_history.proofs.OrderLemmas.{holds_append}
use Rattle.er_history.proofs.VersionLemmas.{AskNoPaths, parse_asks_none, script_asks_none, load_asks_none, dispatch_asks_none, requests_ask_none, set_before_callback}
use Rattle.er_laws.specs.Versions as laws

-- The entry that a look-up finds.

abbrev IsEntry : Entry → List Entry → Type 0
IsEntry e [] = ⊥
IsEntry e (x ∷ es) = (e ≡ x) ⊎ IsEntry e es

entry_found : {B : Type 0} (f : Entry → Option B) (es : List Entry) (b : B) → first_to f es ≡ Some b → (e : Entry) × IsEntry e es × (f e ≡ Some b)
entry_found f [] b is = absurd (cc)
entry_found f (x ∷ es) b is = by (first_to f es) (entry_found f es b) is
  where
    by : (o : Option _) → (o ≡ Some b → (e : Entry) × IsEntry e es × (f e ≡ Some b)) → or_else o (f x) ≡ Some b → (e : Entry) × IsEntry e (x ∷ es) × (f e ≡ Some b)
    by None older is = (x, inl refl, is)
    by (Some c) older is = let found = older is in (found.0, inr found.1, found.2)

-- what it says of the timeout: the piece is the action that runs there, and the maker its event
abbrev IsSetBy : Entry → Timeout → Type 0
IsSetBy e x = (a : Action) × (e.action ≡ Some a) × (e.place ≡ x.place) × (a.number ≡ x.piece) × (a.event.number ≡ x.maker)

set_by : (t : ℕ) (e : Entry) (x : Timeout) → makes_timeout t e ≡ Some x → IsSetBy e x
set_by t e x is = by e.action e.read is refl
  where
    of : Option Action → Record → Option Timeout
    of o r = makes_timeout t (record { read = r; place = e.place; action = o })

    by : (o : Option Action) (r : Record) → of o r ≡ Some x → e.action ≡ o → IsSetBy e x
    by (Some a) (Set s n) is at = step (s == t) is
      where
        step : (b : Bool) → (if b then Some (record { delay = n; place = e.place; maker = a.event.number; piece = a.number }) else None) ≡ Some x → IsSetBy e x
        step true is =
            let same : record { delay = n; place = e.place; maker = a.event.number; piece = a.number } ≡ x = cc in
            (a, at, ap (λ (y : Timeout). y.place) same, ap (λ (y : Timeout). y.piece) same, ap (λ (y : Timeout). y.maker) same)
        step false is = absurd (cc)
    by _ _ is at = absurd (cc)

-- The entries of a list stand in the order of their actions.

place_below : (h : List Record) (e : Entry) → IsEntry e (told h).entries → e.place < length (told h).entries
place_below [] e is = absurd is
place_below (x ∷ h) e (inl same) = let at = ap (λ (y : Entry). y.place) same in omega (arith, at)
place_below (x ∷ h) e (inr older) = let below = place_below h e older in omega (arith, below)

runs_among : (actions : List Action) (a : Action) → running actions ≡ Some a → Among a actions
runs_among [] a is = absurd (cc)
runs_among (b ∷ older) a is = let same : a ≡ b = cc in inl same

still_among : (t : History) (x : Record) (a : Action) → Among a t.actions → Among a (actions_after t x)
still_among t x a among = by (begins x)
  where
    by : (b : Bool) → Among a (if b then action_begun t x ∷ t.actions else t.actions)
    by true = inr among
    by false = among

action_among : (h : List Record) (e : Entry) (a : Action) → IsEntry e (told h).entries → e.action ≡ Some a → Among a (told h).actions
action_among [] e a is runs = absurd is
action_among (x ∷ h) e a (inl same) runs = runs_among (told (x ∷ h)).actions a (sym (ap (λ (y : Entry). y.action) same) ∙ runs)
action_among (x ∷ h) e a (inr older) runs = still_among (told h) x a (action_among h e a older runs)

-- the action that runs has the greatest number
runs_last : (actions : List Action) (a b : Action) → IsNumbered actions → Among a actions → running actions ≡ Some b → a.number ≤ b.number
runs_last [] a b n among runs = absurd among
runs_last (c ∷ older) a b n among runs =
    let same : c ≡ b = cc in
    let below = among_below (c ∷ older) a n among in
    omega (arith, ap (λ (d : Action). d.number) same, n.0, below)

entries_in_order : (h : List Record) (d e : Entry) (a b : Action) → IsEntry d (told h).entries → IsEntry e (told h).entries → d.action ≡ Some a → e.action ≡ Some b → d.place < e.place → a.number ≤ b.number
entries_in_order [] d e a b first second at_first at_second before = absurd first
entries_in_order (x ∷ h) d e a b (inl same) (inl too) at_first at_second before =
    absurd (omega (arith, before, ap (λ (y : Entry). y.place) same, ap (λ (y : Entry). y.place) too))
entries_in_order (x ∷ h) d e a b (inl same) (inr older) at_first at_second before =
    absurd (omega (arith, before, ap (λ (y : Entry). y.place) same, place_below h e older))
entries_in_order (x ∷ h) d e a b (inr older) (inl same) at_first at_second before =
    runs_last (told (x ∷ h)).actions a b (actions_are_numbered (x ∷ h)) (still_among (told h) x a (action_among h d a older at_first)) (sym (ap (λ (y : Entry). y.action) same) ∙ at_second)
entries_in_order (x ∷ h) d e a b (inr first) (inr second) at_first at_second before = entries_in_order h d e a b first second at_first at_second before

-- A path leads from a piece of an event to each later piece of it, and to itself.
pieces_joined : (table : List (ℕ × Rule)) (h : List Record) (a b : Action) → Among a (told h).actions → Among b (told h).actions → a.event.number ≡ b.event.number → a.number ≤ b.number → path table h a.number b.number ≡ true
pieces_joined table h a b first second one le =
    let lists = edges table (told h).actions in
    let below : b.number < length lists = omega (arith, edges_length table (told h).actions, among_below (told h).actions b (actions_are_numbered h) second) in
    elim (place_cases a.number b.number) [
      | inl less ↦
          let earlier : nat_lt a.number b.number ≡ true = grind (arith, nat_tests) in
          let pieces : of_one_event a b ≡ true = eq-eqb a.event.number b.event.number one in
          let is : edge table (path table h) a b ≡ true =
          and_true (nat_lt a.number b.number) (any_holds table (up_to b.event.number (path table h)) a.event b.event || (around_inline a b || of_one_event a b)) earlier
          (or_right (any_holds table (up_to b.event.number (path table h)) a.event b.event) (around_inline a b || of_one_event a b) (or_right (around_inline a b) (of_one_event a b) pieces)) in
          edge_joins lists a.number b.number less (edges_are_edges table h a b first second ∙ is)
      | inr rest ↦
          let same : a.number ≡ b.number = omega (arith, le, rest) in
          ap (λ (m : ℕ). joins lists m b.number) same ∙ paths_stand lists b.number below
    ]

-- So a path leads from the piece that set a timeout to the piece of the same event that
-- set another one later.
set_joined : (table : List (ℕ × Rule)) (h : List Record) (s t : ℕ) (x y : Timeout) → first_to (makes_timeout s) (told h).entries ≡ Some x → first_to (makes_timeout t) (told h).entries ≡ Some y → x.maker ≡ y.maker → x.place < y.place → path table h x.piece y.piece ≡ true
set_joined table h s t x y first second one before =
    let d = entry_found (makes_timeout s) (told h).entries x first in
    let e = entry_found (makes_timeout t) (told h).entries y second in
    let p = set_by s d.0 x d.2 in
    let q = set_by t e.0 y e.2 in
    let le : p.0.number ≤ q.0.number = entries_in_order h d.0 e.0 p.0 q.0 d.1 e.1 p.1 q.1 (omega (arith, before, p.2, q.2)) in
    let event : p.0.event.number ≡ q.0.event.number = p.4 ∙ (one ∙ sym q.4) in
    sym (λ i. path table h (p.3 i) (q.3 i)) ∙ pieces_joined table h p.0 q.0 (action_among h d.0 p.0 d.1 p.1) (action_among h e.0 q.0 e.1 q.1) event le

-- What holds where fewer paths are told of holds where more are.

abbrev Carries : (ℕ → ℕ → Bool) → (ℕ → ℕ → Bool) → Type 0
Carries f g = (k m : ℕ) → f k m ≡ true → g k m ≡ true

abbrev Gives : Bool → Bool → Type 0
Gives b c = b ≡ true → c ≡ true

or_gives : (a b c d : Bool) → Gives a c → Gives b d → Gives (a || b) (c || d)
or_gives a b c d first second e = elim (or_cases a b e) [
  | inl is ↦ or_left c d (first is)
  | inr is ↦ or_right c d (second is)
]

and_gives : (a b c : Bool) → Gives b c → Gives (a && b) (a && c)
and_gives a b c gives e = let parts = both a b e in and_true a c parts.0 (gives parts.1)

-- tasks

tasks_gives : (f g : ℕ → ℕ → Bool) → Carries f g → (made made2 : Option Task) → Gives (declared_in_order f made made2) (declared_in_order g made made2)
tasks_gives f g more (Some x) (Some y) = and_gives (nat_lt x.place y.place) (f x.piece y.piece) (g x.piece y.piece) (more x.piece y.piece)
tasks_gives f g more None made2 = λ e. e
tasks_gives f g more (Some x) None = λ e. e

abbrev with : ℕ → What → Event
with n w = record { number = n; what = w }

messages_gives : (f g : ℕ → ℕ → Bool) → Carries f g → (u v : Event) → Gives (messages_in_order f u v) (messages_in_order g u v)
messages_gives f g more u v = by u.what v.what
  where
    by : (w z : What) → Gives (messages_in_order f (with u.number w) (with v.number z)) (messages_in_order g (with u.number w) (with v.number z))
    by (MessageRun m made) (MessageRun n made2) = and_gives (nat_lt u.number v.number) (declared_in_order f made made2) (declared_in_order g made made2) (tasks_gives f g more made made2)
    by (MessageRun m made) _ = λ e. e
    by _ z = λ e. e

anims_gives : (f g : ℕ → ℕ → Bool) → Carries f g → (u v : Event) → Gives (anims_in_order f u v) (anims_in_order g u v)
anims_gives f g more u v = by u.what v.what
  where
    by : (w z : What) → Gives (anims_in_order f (with u.number w) (with v.number z)) (anims_in_order g (with u.number w) (with v.number z))
    by (AnimRun m made) (AnimRun n made2) = and_gives (nat_lt u.number v.number) (declared_in_order f made made2) (declared_in_order g made made2) (tasks_gives f g more made made2)
    by (AnimRun m made) _ = λ e. e
    by _ z = λ e. e

jobs_gives : (f g : ℕ → ℕ → Bool) → Carries f g → (u v : Event) → Gives (jobs_in_order f u v) (jobs_in_order g u v)
jobs_gives f g more u v = by u.what v.what
  where
    by : (w z : What) → Gives (jobs_in_order f (with u.number w) (with v.number z)) (jobs_in_order g (with u.number w) (with v.number z))
    by (JobRun m made within) (JobRun n made2 around) = and_gives (nat_lt u.number v.number) (declared_in_order f made made2) (declared_in_order g made made2) (tasks_gives f g more made made2)
    by (JobRun m made within) _ = λ e. e
    by _ z = λ e. e

-- the timeouts that two events are, the one set before the other by one event, were set in pieces
-- that g joins
abbrev AreJoined : (ℕ → ℕ → Bool) → What → What → Type 0
AreJoined g w z = (s t : ℕ) (x y : Timeout) → w ≡ TimeoutRun s (Some x) → z ≡ TimeoutRun t (Some y) → x.maker ≡ y.maker → x.place < y.place → g x.piece y.piece ≡ true

timers_gives : (f g : ℕ → ℕ → Bool) (u v : Event) → AreJoined g u.what v.what → Gives (timers_of_one_event_in_order f u v) (timers_of_joined_pieces_in_order g u v)
timers_gives f g u v joined = by u.what v.what joined
  where
    of : (x y : Timeout) (rec one later less : Bool) (reached : Bool) → (one ≡ true → later ≡ true → reached ≡ true) → Gives (rec && (one && (later && less))) (rec && (later && (less && reached)))
    of x y true true true true reached there e = there refl refl
    of x y true true true false reached there e = e
    of x y true true false less reached there e = e
    of x y true false later less reached there e = absurd (cc)
    of x y false one later less reached there e = e

    by : (w z : What) → AreJoined g w z → Gives (timers_of_one_event_in_order f (with u.number w) (with v.number z)) (timers_of_joined_pieces_in_order g (with u.number w) (with v.number z))
    by (TimeoutRun s (Some x)) (TimeoutRun t (Some y)) joined =
        of x y (nat_lt u.number v.number) (x.maker == y.maker) (nat_lt x.place y.place) (nat_le x.delay y.delay) (g x.piece y.piece)
        (λ one later. joined s t x y refl refl (eqb-true x.maker y.maker one) (ltb-true x.place y.place later))
    by (TimeoutRun s None) (TimeoutRun t made) joined = λ e. e
    by (TimeoutRun s (Some x)) (TimeoutRun t None) joined = λ e. e
    by (TimeoutRun s made) _ joined = λ e. e
    by _ z joined = λ e. e

nineteen : (w : Version) (f g : ℕ → ℕ → Bool) (u v : Event) → AreJoined g u.what v.what → Gives (timers_in_order One f u v) (timers_in_order w g u v)
nineteen One f g u v joined = λ e. e
nineteen Two f g u v joined = timers_gives f g u v joined
nineteen Three f g u v joined = timers_gives f g u v joined

-- families of rules

abbrev GroupGives : (ℕ → ℕ → Bool) → (ℕ → ℕ → Bool) → Event → Event → List (ℕ × Rule) → List (ℕ × Rule) → Type 0
GroupGives f g u v one other = Gives (any_holds one f u v) (any_holds other g u v)

append_gives : (f g : ℕ → ℕ → Bool) (u v : Event) (a b c d : List (ℕ × Rule)) → GroupGives f g u v a c → GroupGives f g u v b d → GroupGives f g u v (a ++ b) (c ++ d)
append_gives f g u v a b c d first second e =
    holds_append c d g u v ∙ or_gives (any_holds a f u v) (any_holds b f u v) (any_holds c g u v) (any_holds d g u v) first second (sym (holds_append a b f u v) ∙ e)

same_gives : (family : List (ℕ × Rule)) → AskNoPaths family → (f g : ℕ → ℕ → Bool) (u v : Event) → GroupGives f g u v family family
same_gives family asks f g u v e = asks g f u v ∙ e

timer_rules_give : (w : Version) (f g : ℕ → ℕ → Bool) (u v : Event) → AreJoined g u.what v.what → GroupGives f g u v (timer_rules One) (timer_rules w)
timer_rules_give w f g u v joined =
    and_gives (not (u.number == v.number)) (set_before_timer f u v || (timers_in_order One f u v || (ticks_in_order f u v || false))) (set_before_timer g u v || (timers_in_order w g u v || (ticks_in_order g u v || false)))
    (or_gives (set_before_timer f u v) (timers_in_order One f u v || (ticks_in_order f u v || false)) (set_before_timer g u v) (timers_in_order w g u v || (ticks_in_order g u v || false)) (λ e. e)
    (or_gives (timers_in_order One f u v) (ticks_in_order f u v || false) (timers_in_order w g u v) (ticks_in_order g u v || false) (nineteen w f g u v joined) (λ e. e)))

task_rules_give : (f g : ℕ → ℕ → Bool) → Carries f g → (u v : Event) → GroupGives f g u v task_rules task_rules
task_rules_give f g more u v =
    and_gives (not (u.number == v.number)) (post_before_message f u v || messages f) (post_before_message g u v || messages g)
    (or_gives (post_before_message f u v) (messages f) (post_before_message g u v) (messages g) (λ e. e)
    (or_gives (messages_in_order f u v) (asks f) (messages_in_order g u v) (asks g) (messages_gives f g more u v)
    (or_gives (ask_before_anim f u v) (anims f) (ask_before_anim g u v) (anims g) (λ e. e)
    (or_gives (anims_in_order f u v) (queues f) (anims_in_order g u v) (queues g) (anims_gives f g more u v)
    (or_gives (queue_before_job f u v) (jobs f) (queue_before_job g u v) (jobs g) (λ e. e)
    (or_gives (jobs_in_order f u v) (callbacks f) (jobs_in_order g u v) (callbacks g) (jobs_gives f g more u v) (λ e. e)))))))
  where
    callbacks : (ℕ → ℕ → Bool) → Bool
    callbacks p = jobs_before_callbacks p u v || (jobs_before_close p u v || false)

    jobs : (ℕ → ℕ → Bool) → Bool
    jobs p = jobs_in_order p u v || callbacks p

    queues : (ℕ → ℕ → Bool) → Bool
    queues p = queue_before_job p u v || jobs p

    anims : (ℕ → ℕ → Bool) → Bool
    anims p = anims_in_order p u v || queues p

    asks : (ℕ → ℕ → Bool) → Bool
    asks p = ask_before_anim p u v || anims p

    messages : (ℕ → ℕ → Bool) → Bool
    messages p = messages_in_order p u v || asks p

-- all rules
rules_give : (w : Version) (f g : ℕ → ℕ → Bool) (u v : Event) → Carries f g → AreJoined g u.what v.what → GroupGives f g u v (rules One) (rules w)
rules_give w f g u v more joined =
    append_gives f g u v (parse_rules ++ script_rules ++ load_rules ++ dispatch_rules ++ timer_rules One ++ request_rules) task_rules (parse_rules ++ script_rules ++ load_rules ++ dispatch_rules ++ timer_rules w ++ request_rules) task_rules
    (append_gives f g u v (parse_rules ++ script_rules ++ load_rules ++ dispatch_rules ++ timer_rules One) request_rules (parse_rules ++ script_rules ++ load_rules ++ dispatch_rules ++ timer_rules w) request_rules
    (append_gives f g u v (parse_rules ++ script_rules ++ load_rules ++ dispatch_rules) (timer_rules One) (parse_rules ++ script_rules ++ load_rules ++ dispatch_rules) (timer_rules w)
    (append_gives f g u v (parse_rules ++ script_rules ++ load_rules) dispatch_rules (parse_rules ++ script_rules ++ load_rules) dispatch_rules
    (append_gives f g u v (parse_rules ++ script_rules) load_rules (parse_rules ++ script_rules) load_rules
    (append_gives f g u v parse_rules script_rules parse_rules script_rules (same_gives parse_rules parse_asks_none f g u v) (same_gives script_rules script_asks_none f g u v))
    (same_gives load_rules load_asks_none f g u v))
    (same_gives dispatch_rules dispatch_asks_none f g u v))
    (timer_rules_give w f g u v joined))
    (same_gives request_rules requests_ask_none f g u v))
    (task_rules_give f g more u v)

-- Edges and paths.

up_to_carries : (n : ℕ) (f g : ℕ → ℕ → Bool) → ((k m : ℕ) → m < n → f k m ≡ true → g k m ≡ true) → Carries (up_to n f) (up_to n g)
up_to_carries n f g more k m e = let parts = both (nat_lt m n) (f k m) e in and_true (nat_lt m n) (g k m) parts.0 (more k m (ltb-true m n parts.0) parts.1)

-- timeouts that events of a list are
joined_in : (w : Version) (h : List Record) (a b : Action) → Among a (told h).actions → Among b (told h).actions → AreJoined (up_to b.event.number (path (rules w) h)) a.event.what b.event.what
joined_in w h a b first second s t x y is_a is_b one before =
    let kept_x : first_to (makes_timeout s) (told h).entries ≡ Some x = subst (WhatStays (told h).entries) is_a (facts_stay h a first) x refl in
    let kept_y : first_to (makes_timeout t) (told h).entries ≡ Some y = subst (WhatStays (told h).entries) is_b (facts_stay h b second) y refl in
    let below : y.piece < b.event.number = set_before_callback h b t y second is_b in
    let earlier : nat_lt y.piece b.event.number ≡ true = grind (arith, nat_tests) in
    and_true (nat_lt y.piece b.event.number) (path (rules w) h x.piece y.piece) earlier (set_joined (rules w) h s t x y kept_x kept_y one before)

edge_remains : (w : Version) (h : List Record) (a b : Action) → Among a (told h).actions → Among b (told h).actions → ((k m : ℕ) → m < b.event.number → path (rules One) h k m ≡ true → path (rules w) h k m ≡ true)
    → edge (rules One) (path (rules One) h) a b ≡ true → edge (rules w) (path (rules w) h) a b ≡ true
edge_remains w h a b first second more =
    let n = b.event.number in
    let f = up_to n (path (rules One) h) in
    let g = up_to n (path (rules w) h) in
    let pieces = around_inline a b || of_one_event a b in
    and_gives (nat_lt a.number b.number) (any_holds (rules One) f a.event b.event || pieces) (any_holds (rules w) g a.event b.event || pieces)
    (or_gives (any_holds (rules One) f a.event b.event) pieces (any_holds (rules w) g a.event b.event) pieces
    (rules_give w f g a.event b.event (up_to_carries n (path (rules One) h) (path (rules w) h) more) (joined_in w h a b first second)) (λ e. e))

paths_before : (w : Version) (h : List Record) (n i j : ℕ) → j < n → path (rules One) h i j ≡ true → path (rules w) h i j ≡ true
paths_before w h zero i j below e = absurd (omega (arith, below))
paths_before w h (suc n) i j below e =
    let acts = (told h).actions in
    let lists = edges (rules One) acts in
    let other = edges (rules w) acts in
    let long : j < length other = omega (arith, edges_length (rules One) acts, edges_length (rules w) acts, (paths_go_forward lists i j e).1) in
    elim (last_source lists i j e) [
      | inl same ↦ ap (λ (k : ℕ). joins other k j) same ∙ paths_stand other j long
      | inr step ↦
          let s = step.0 in
          let less : s < j = edges_go_forward (rules One) h s j step.1 in
          let ends = edges_join_actions (rules One) h s j step.1 in
          let a : Action = ends.0.0 in
          let b : Action = ends.1.0 in
          let source : a.number ≡ s = ends.0.2 in
          let target : b.number ≡ j = ends.1.2 in
          let listed : is_among a.number (list_of lists b.number) ≡ true = (λ k. is_among (source k) (list_of lists (target k))) ∙ step.1 in
          let is : edge (rules One) (path (rules One) h) a b ≡ true = sym (edges_are_edges (rules One) h a b ends.0.1 ends.1.1) ∙ listed in
          let begun : b.event.number ≤ b.number = (event_before acts b (told_before h) ends.1.1).1 in
          let stands : edge (rules w) (path (rules w) h) a b ≡ true =
          edge_remains w h a b ends.0.1 ends.1.1 (λ k m l p. paths_before w h n k m (omega (arith, l, begun, target, below)) p) is in
          let there : is_among s (list_of other j) ≡ true = sym (λ k. is_among (source k) (list_of other (target k))) ∙ (edges_are_edges (rules w) h a b ends.0.1 ends.1.1 ∙ stands) in
          paths_compose other i s j (paths_before w h n i s (omega (arith, less, below)) step.2) (edge_joins other s j less there)
    ]

pub paths_remain : laws.PathsRemain
paths_remain w h i j e = paths_before w h (suc j) i j (omega arith) e

pub edges_remain : laws.EdgesRemain
edges_remain w h a b first second = edge_remains w h a b first second (λ k m l e. paths_remain w h k m e)
