-- Handlers of one group of one dispatch that one event registered have the same sources of edges.
-- Lists of records stand newest first.
use Rattle.std.proofs.Common.{◌≡◌, ℕ, ◌<◌, ◌≤◌, Bool, true, false, List, [], ◌∷◌, ◌++◌, length, Option, Some, None, refl, sym, ap, subst, ◌∙◌, arith, inl, inr}
use Rattle.std.specs.Prelude.{◌==◌, ◌||◌, ◌&&◌, not, nat_lt, if◌then◌else◌, map, filter}
use Rattle.std.proofs.lemmas.Bool.{ne_eqb}
use Rattle.std.proofs.lemmas.Bool.Decides.{nat_tests}
use Rattle.er_trace.specs.declared.record.Record.{Record}
use Rattle.er_trace.specs.declared.record.Record.TheVariants.{Run}
use Rattle.er_trace.specs.declared.version.Version.{Version}
use Rattle.er_trace.specs.declared.version.Version.TheVariants.{One, Two, Three}
use Rattle.er_paths.specs.Paths.{joins, is_among}
use Rattle.er_paths.proofs.Paths.{list_newest}
use Rattle.er_history.specs.History.{Task, Dispatch, What, BeginOf, HandlerOf, JobRun, Unnamed, Event, Action, told, running, maker_by, declares_handler, action_begun}
use Rattle.er_history.specs.Rules.{Rule, any_holds, made_by, rules, parse_rules, script_rules, load_rules, dispatch_rules, timer_rules, request_rules, task_rules}
use Rattle.er_history.specs.Edges.{around_inline, of_one_event, up_to, edge, edges, sources, is_ruled}
use Rattle.er_history.specs.Laws.{Among, IsNumbered}
use Rattle.er_history.specs.Facts.{WhatIs}
use Rattle.er_history.specs.Naming.{naming, misplaced, IsNamed}
use Rattle.er_history.proofs.HistoryLemmas.{BeginsBefore, event_before, told_before, actions_are_numbered, forward}
use Rattle.er_history.proofs.OrderLemmas.{MadeBefore, not_both, not_maker, holds_append}
use Rattle.er_history.proofs.MakersLemmas.{maker_below}
use Rattle.er_history.proofs.NamedLemmas.{none_holds}
use Rattle.er_history.proofs.ExactLemmas.{facts_are_exact}
use Rattle.er_pieces.proofs.StackLemmas.{top_is}
use Rattle.er_pieces.proofs.CallerLemmas.{among_cases}
use Rattle.er_graph.proofs.AgainLemmas.{FollowsPeer}

-- what the rules ask

abbrev event_with : ℕ → What → Event
event_with n w = record { number = n; what = w }

-- the event is the begin of the dispatch, or a handler of it in a lesser group
abbrev pub runs_before : What → ℕ → ℕ → Bool
runs_before (BeginOf q) p g = q.number == p
runs_before (HandlerOf q k x m) p g = (q.number == p) && nat_lt k g
runs_before _ p g = false

-- the event comes before a handler of the group of the dispatch, which this event registered
abbrev pub leads_to_run : Event → ℕ → ℕ → Option ℕ → Bool
leads_to_run u p g m = made_by m u || runs_before u.what p g

-- no rule but those of dispatches leads to a handler

abbrev NoneLead : List (ℕ × Rule) → Type 0
NoneLead family = (joined : ℕ → ℕ → Bool) (u : Event) (k : ℕ) (d : Dispatch) (g x : ℕ) (m : Option ℕ)
    → any_holds family joined u (event_with k (HandlerOf d g x m)) ≡ false

none_of_one : (b c : Bool) → (b && (c && false || (false || false))) ≡ false
none_of_one true true = refl
none_of_one true false = refl
none_of_one false c = refl

none_parse : NoneLead parse_rules
none_parse joined u k d g x m = by u.what
  where
    by : (w : What) → any_holds parse_rules joined (event_with u.number w) (event_with k (HandlerOf d g x m)) ≡ false
    by (BeginOf q) = none_of_one (not (u.number == k)) (nat_lt u.number k)
    by _ = none_of_one (not (u.number == k)) (nat_lt u.number k)

none_script : NoneLead script_rules
none_script joined u k d g x m = by u.what
  where
    by : (w : What) → any_holds script_rules joined (event_with u.number w) (event_with k (HandlerOf d g x m)) ≡ false
    by (BeginOf q) = not_both (not (u.number == k)) false refl
    by _ = not_both (not (u.number == k)) false refl

none_of_two : (b c : Bool) → (b && (false || (false || (false || (c && false || (false || (c && false || false))))))) ≡ false
none_of_two true true = refl
none_of_two true false = refl
none_of_two false c = refl

none_load : NoneLead load_rules
none_load joined u k d g x m = by u.what
  where
    by : (w : What) → any_holds load_rules joined (event_with u.number w) (event_with k (HandlerOf d g x m)) ≡ false
    by (BeginOf q) = none_of_two (not (u.number == k)) (nat_lt u.number k)
    by _ = none_of_two (not (u.number == k)) (nat_lt u.number k)

none_of_three : (b c : Bool) → (b && (false || (c && false || (false || false)))) ≡ false
none_of_three true true = refl
none_of_three true false = refl
none_of_three false c = refl

none_timer : (v : Version) → NoneLead (timer_rules v)
none_timer v joined u k d g x m = by v u.what
  where
    by : (v : Version) (w : What) → any_holds (timer_rules v) joined (event_with u.number w) (event_with k (HandlerOf d g x m)) ≡ false
    by One (BeginOf q) = none_of_three (not (u.number == k)) (nat_lt u.number k)
    by One _ = none_of_three (not (u.number == k)) (nat_lt u.number k)
    by Two (BeginOf q) = none_of_three (not (u.number == k)) (nat_lt u.number k)
    by Two _ = none_of_three (not (u.number == k)) (nat_lt u.number k)
    by Three (BeginOf q) = none_of_three (not (u.number == k)) (nat_lt u.number k)
    by Three _ = none_of_three (not (u.number == k)) (nat_lt u.number k)

none_request : NoneLead request_rules
none_request joined u k d g x m = by u.what
  where
    by : (w : What) → any_holds request_rules joined (event_with u.number w) (event_with k (HandlerOf d g x m)) ≡ false
    by (BeginOf q) = not_both (not (u.number == k)) false refl
    by _ = not_both (not (u.number == k)) false refl

none_of_tasks : (b c : Bool) → (b && (false || (c && false || (false || (c && false || (false || (c && false || (c && false || (c && false || false))))))))) ≡ false
none_of_tasks true true = refl
none_of_tasks true false = refl
none_of_tasks false c = refl

none_task : NoneLead task_rules
none_task joined u k d g x m = by u.what
  where
    by : (w : What) → any_holds task_rules joined (event_with u.number w) (event_with k (HandlerOf d g x m)) ≡ false
    by (JobRun j made within) = of made
      where
        of : (made : Option Task) → any_holds task_rules joined (event_with u.number (JobRun j made within)) (event_with k (HandlerOf d g x m)) ≡ false
        of None = none_of_tasks (not (u.number == k)) (nat_lt u.number k)
        of (Some made) = none_of_tasks (not (u.number == k)) (nat_lt u.number k)
    by _ = none_of_tasks (not (u.number == k)) (nat_lt u.number k)

-- and of these two alone

two_of_four : (b c d e : Bool) → (b && (false || (d || (e || (c && false || false))))) ≡ (b && (d || e))
two_of_four true true true e = refl
two_of_four true true false true = refl
two_of_four true true false false = refl
two_of_four true false true e = refl
two_of_four true false false true = refl
two_of_four true false false false = refl
two_of_four false c d e = refl

dispatch_leads : (joined : ℕ → ℕ → Bool) (u : Event) (k : ℕ) (d : Dispatch) (g x : ℕ) (m : Option ℕ)
    → any_holds dispatch_rules joined u (event_with k (HandlerOf d g x m)) ≡ (not (u.number == k) && leads_to_run u d.number g m)
dispatch_leads joined u k d g x m = by u.what
  where
    by : (w : What) → any_holds dispatch_rules joined (event_with u.number w) (event_with k (HandlerOf d g x m)) ≡ (not (u.number == k) && leads_to_run (event_with u.number w) d.number g m)
    by (BeginOf q) = two_of_four (not (u.number == k)) (nat_lt u.number k) (made_by m (event_with u.number (BeginOf q))) (q.number == d.number)
    by (HandlerOf q j y l) = two_of_four (not (u.number == k)) (nat_lt u.number k) (made_by m (event_with u.number (HandlerOf q j y l))) ((q.number == d.number) && nat_lt j g)
    by w = two_of_four (not (u.number == k)) (nat_lt u.number k) (made_by m (event_with u.number w)) false

-- the whole table

left_alone : (a b : List (ℕ × Rule)) (joined : ℕ → ℕ → Bool) (u v : Event) → any_holds b joined u v ≡ false → any_holds (a ++ b) joined u v ≡ any_holds a joined u v
left_alone a b joined u v none = holds_append a b joined u v ∙ ap (λ c. any_holds a joined u v || c) none ∙ or_false (any_holds a joined u v)
  where
    or_false : (c : Bool) → (c || false) ≡ c
    or_false true = refl
    or_false false = refl

right_alone : (a b : List (ℕ × Rule)) (joined : ℕ → ℕ → Bool) (u v : Event) → any_holds a joined u v ≡ false → any_holds (a ++ b) joined u v ≡ any_holds b joined u v
right_alone a b joined u v none = holds_append a b joined u v ∙ ap (λ c. c || any_holds b joined u v) none

all_lead : (v : Version) (joined : ℕ → ℕ → Bool) (u : Event) (k : ℕ) (d : Dispatch) (g x : ℕ) (m : Option ℕ)
    → any_holds (rules v) joined u (event_with k (HandlerOf d g x m)) ≡ (not (u.number == k) && leads_to_run u d.number g m)
all_lead v joined u k d g x m =
    let z : Event = event_with k (HandlerOf d g x m) in
    left_alone (parse_rules ++ script_rules ++ load_rules ++ dispatch_rules ++ timer_rules v ++ request_rules) task_rules joined u z (none_task joined u k d g x m)
    ∙ left_alone (parse_rules ++ script_rules ++ load_rules ++ dispatch_rules ++ timer_rules v) request_rules joined u z (none_request joined u k d g x m)
    ∙ left_alone (parse_rules ++ script_rules ++ load_rules ++ dispatch_rules) (timer_rules v) joined u z (none_timer v joined u k d g x m)
    ∙ right_alone (parse_rules ++ script_rules ++ load_rules) dispatch_rules joined u z
    (left_alone (parse_rules ++ script_rules) load_rules joined u z (none_load joined u k d g x m)
    ∙ left_alone parse_rules script_rules joined u z (none_script joined u k d g x m)
    ∙ none_parse joined u k d g x m)
    ∙ dispatch_leads joined u k d g x m

-- an action that runs a handler

pub record IsRun (a : Action) (p g x : ℕ) : Type 0 where
  pub first : a.event.number ≡ a.number
  pub begun : a.begin ≡ Run p g x
  pub dispatch : Dispatch
  pub maker : Option ℕ
  pub what : a.event.what ≡ HandlerOf dispatch g x maker
  pub number : dispatch.number ≡ p
  pub before : MadeBefore a.number maker

run_now : (h : List Record) (p g x : ℕ) → misplaced (told h) (Run p g x) ≡ false → (is : IsRun (action_begun (told h) (Run p g x)) p g x) × (is.maker ≡ maker_by (declares_handler x) (told h).entries)
run_now h p g x placed =
    let top = top_is false p (told h).stack placed in (
      record {
        first = refl;
        begun = refl;
        dispatch = top.top.dispatch;
        maker = maker_by (declares_handler x) (told h).entries;
        what = ap (λ o. handler g x o (maker_by (declares_handler x) (told h).entries)) top.found;
        number = top.number;
        before = λ k e. maker_below h (declares_handler x) k e;
      },
      refl,
    )
  where
    handler : ℕ → ℕ → Option Dispatch → Option ℕ → What
    handler g x (Some d) m = HandlerOf d g x m
    handler g x None m = Unnamed

run_begun : (h : List Record) (a : Action) (p g x : ℕ) → IsNamed h → Among a (told h).actions → a.begin ≡ Run p g x → IsRun a p g x
run_begun [] a p g x named among e = absurd among
run_begun (y ∷ h) a p g x named among e =
    elim (among_cases h y a among) [
      | inl now ↦
          let is : y ≡ Run p g x = ap (λ (c : Action). c.begin) (sym now.1) ∙ e in
          let placed = subst (λ (z : Record). misplaced (told h) z ≡ false) is (none_holds h y named.0).placed in
          subst (λ (c : Action). IsRun c p g x) (sym now.1) (subst (λ (z : Record). IsRun (action_begun (told h) z) p g x) (sym is) (run_now h p g x placed).0)
      | inr older ↦ run_begun h a p g x named.1 older e
    ]

-- the edges to it

closes : (b c d e l : Bool) → b ≡ true → c ≡ (not e && l) → d ≡ false → e ≡ false → (b && (c || (d || e))) ≡ l
closes true c false false l eb ec ed ee = or_none c ∙ ec
  where
    or_none : (c : Bool) → (c || false) ≡ c
    or_none true = refl
    or_none false = refl
closes false c d e l eb ec ed ee = absurd (cc)
closes true c true e l eb ec ed ee = absurd (cc)
closes true c false true l eb ec ed ee = absurd (cc)

edge_to_run : (v : Version) (joined : ℕ → ℕ → Bool) (i j : Action) (p g x : ℕ) (is : IsRun j p g x) → i.number < j.number → i.event.number ≤ i.number
    → edge (rules v) joined i j ≡ leads_to_run i.event p g is.maker
edge_to_run v joined i j p g x is before own =
    let first = is.first in
    let ruled : is_ruled (rules v) joined i j ≡ (not (i.event.number == j.event.number) && leads_to_run i.event p g is.maker) =
    ap (λ (w : What). any_holds (rules v) (up_to j.event.number joined) i.event (event_with j.event.number w)) is.what
    ∙ all_lead v (up_to j.event.number joined) i.event j.event.number is.dispatch g x is.maker
    ∙ ap (λ (n : ℕ). not (i.event.number == j.event.number) && leads_to_run i.event n g is.maker) is.number in
    let around : around_inline i j ≡ false = ap (λ (y : Record). around_inline i (record { number = j.number; begin = y; event = j.event })) is.begun in
    closes (nat_lt i.number j.number) (is_ruled (rules v) joined i j) (around_inline i j) (of_one_event i j) (leads_to_run i.event p g is.maker)
    (grind (arith, nat_tests)) ruled around (ne_eqb i.event.number j.event.number (λ e. omega (arith, first, before, own)))

-- handlers of one group, which one event registered, one behind the other

filter_same : (p q : Action → Bool) (xs : List Action) → ((i : Action) → Among i xs → p i ≡ q i) → filter p xs ≡ filter q xs
filter_same p q [] same = refl
filter_same p q (x ∷ xs) same =
    ap (λ (b : Bool). if b then x ∷ filter p xs else filter p xs) (same x (inl refl))
    ∙ ap (λ (ys : List Action). if q x then x ∷ ys else ys) (filter_same p q xs (λ i among. same i (inr among)))

none_registers : (m : Option ℕ) (u : Event) (d : Dispatch) (p g x : ℕ) → u.what ≡ HandlerOf d g x m → MadeBefore u.number m → leads_to_run u p g m ≡ false
none_registers m u d p g x what before =
    ap (λ (b : Bool). b || runs_before u.what p g) (not_maker m u before) ∙ ap (λ (w : What). runs_before w p g) what ∙ not_both (d.number == p) (nat_lt g g) (grind (arith, nat_tests))

same_edges : (v : Version) (f k : ℕ → ℕ → Bool) (older : List Action) (a b : Action) (p g x y : ℕ) (first : IsRun a p g x) (second : IsRun b p g y) → second.maker ≡ first.maker
    → BeginsBefore (b ∷ a ∷ older) → sources (rules v) f (a ∷ older) b ≡ sources (rules v) k older a
same_edges v f k older a b p g x y first second maker begun =
    let itself : edge (rules v) f a b ≡ false =
    edge_to_run v f a b p g y second (omega (arith, begun.0, begun.2.0)) (omega (arith, first.first))
    ∙ ap (leads_to_run a.event p g) maker
    ∙ none_registers first.maker a.event first.dispatch p g x first.what (λ n e. let less = first.before n e in omega (arith, less, first.first)) in
    let each : (i : Action) → Among i older → edge (rules v) f i b ≡ edge (rules v) k i a = λ i among.
    let low = event_before older i begun.2.2 among in
    edge_to_run v f i b p g y second (omega (arith, low.0, begun.0, begun.2.0)) low.1
    ∙ ap (leads_to_run i.event p g) maker
    ∙ sym (edge_to_run v k i a p g x first (omega (arith, low.0, begun.2.0)) low.1) in
    ap (λ (c : Bool). map (λ (i : Action). i.number) (if c then a ∷ filter (λ i. edge (rules v) f i b) older else filter (λ i. edge (rules v) f i b) older)) itself
    ∙ ap (λ (is : List Action). map (λ (i : Action). i.number) is) (filter_same (λ i. edge (rules v) f i b) (λ i. edge (rules v) k i a) older each)

newest_is : (actions : List Action) (a : Action) → running actions ≡ Some a → (older : List Action) × (actions ≡ a ∷ older)
newest_is [] a e = absurd (cc)
newest_is (x ∷ older) a e = let same : x ≡ a = cc in (older, ap (λ (c : Action). c ∷ older) same)

first_listed : (v : Version) (a : Action) (older : List Action) → IsNumbered (a ∷ older) → (k : ℕ) → is_among k (sources (rules v) (joins (edges (rules v) older)) older a) ≡ true → k < length (edges (rules v) older)
first_listed v a older numbered k e =
    let p : List ℕ = sources (rules v) (joins (edges (rules v) older)) older a in
    let rest : List (List ℕ) = edges (rules v) older in
    forward (rules v) (a ∷ older) numbered k (length rest) (ap (is_among k) (list_newest p rest (length rest) refl) ∙ e)

-- The newest action and the next have one list of sources.
pub record HaveOneList (v : Version) (h : List Record) (x : Record) : Type 0 where
  pub list : List ℕ
  pub older : List (List ℕ)
  pub newest : edges (rules v) (told h).actions ≡ list ∷ older
  pub below : (k : ℕ) → is_among k list ≡ true → k < length older
  pub next : edges (rules v) (told (x ∷ h)).actions ≡ list ∷ list ∷ older

pub runs_have_one_list : (v : Version) (h : List Record) (x : Record) → IsNamed h → naming h x ≡ None → FollowsPeer h x → HaveOneList v h x
runs_have_one_list v h x named legal is =
    let a : Action = is.newest in
    let p = is.dispatch in
    let g = is.group in
    let y = is.handler in
    let run : Record = Run p g y in
    let b : Action = action_begun (told h) run in
    let at = newest_is (told h).actions a is.runs in
    let older : List Action = at.0 in
    let placed : misplaced (told h) run ≡ false = subst (λ (z : Record). misplaced (told h) z ≡ false) is.next (none_holds h x legal).placed in
    let among : Among a (told h).actions = subst (Among a) (sym at.1) (inl refl) in
    let first = run_begun h a p g is.other named among is.begun in
    let second = run_now h p g y placed in
    let kept = subst (WhatIs (told h).entries) first.what (facts_are_exact h a named among) in
    let maker : second.0.maker ≡ first.maker = second.1 ∙ is.maker ∙ sym kept.1 in
    let begun : BeginsBefore (b ∷ a ∷ older) = subst (λ (actions : List Action). BeginsBefore (b ∷ actions)) at.1 (told_before (run ∷ h)) in
    let rest : List (List ℕ) = edges (rules v) older in
    record {
      list = sources (rules v) (joins rest) older a;
      older = rest;
      newest = ap (edges (rules v)) at.1;
      below = first_listed v a older (subst IsNumbered at.1 (actions_are_numbered h));
      next =
          ap (λ (z : Record). edges (rules v) (told (z ∷ h)).actions) is.next
          ∙ ap (λ (actions : List Action). edges (rules v) (b ∷ actions)) at.1
          ∙ ap (λ (list : List ℕ). list ∷ edges (rules v) (a ∷ older))
          (same_edges v (joins (edges (rules v) (a ∷ older))) (joins rest) older a b p g is.other y first second.0 maker begun);
    }
