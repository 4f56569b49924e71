-- The runs of the greatest group of a dispatch stand for its begin and for its runs of lesser
-- groups. Lists of records stand newest first.
use Rattle.std.proofs.Common.{◌≡◌, ℕ, ◌<◌, ◌≤◌, Bool, true, false, List, [], ◌∷◌, Option, Some, None, refl, sym, ap, ◌∙◌, arith, inl, inr}
use Rattle.std.specs.Prelude.{◌==◌, ◌&&◌, nat_lt, if◌then◌else◌}
use Rattle.std.proofs.lemmas.Bool.{eqb-true, eq-eqb}
use Rattle.std.proofs.lemmas.Bool.Decides.{nat_tests}
use Rattle.er_trace.specs.declared.record.Record.{Record}
use Rattle.er_paths.proofs.Paths.{or_cases, or_left, or_right, place_cases}
use Rattle.er_history.specs.History.{Dispatch, What, BeginOf, HandlerOf, Event, Action, told}
use Rattle.er_history.specs.Rules.{Rule}
use Rattle.er_history.specs.Edges.{path}
use Rattle.er_history.specs.Laws.{Among}
use Rattle.er_history.specs.Latest.{newest, latest_of_each}
use Rattle.er_history.specs.Kinds.{is_begin_of, is_handler_of}
use Rattle.er_history.specs.Latest.{greater, group_of, greatest_group}
use Rattle.er_pieces.specs.HandedPieces.{runs_or_begin, group_handed}
use Rattle.er_pieces.specs.Enough.{IsSteady}
use Rattle.er_history.proofs.HistoryLemmas.{and_left, actions_are_numbered}
use Rattle.er_pieces.proofs.PathLemmas.{both, and_right, path_on, piece_path, Reaches, reach_each, reach_newest}
use Rattle.er_pieces.proofs.ChainLemmas.{event_with}
use Rattle.er_pieces.proofs.DispatchLemmas.{begin_begun, begin_number, same_dispatch}
use Rattle.er_pieces.proofs.ServeLemmas.{begin_path, serves_handler, handler_to_later}
use Rattle.er_pieces.proofs.DispatchRules.{Ran}

-- the greatest of the groups

-- some handler is of the group
abbrev pub HasRun : ℕ → List Action → ℕ → Type 0
HasRun p actions g = (b : Action) × Among b actions × (is_handler_of p (λ k. k == g) b.event ≡ true)

run_more : (p g : ℕ) (a : Action) (older : List Action) → HasRun p older g → HasRun p (a ∷ older) g
run_more p g a older is = (is.0, inr is.1, is.2)

group_run : (p g : ℕ) (test : ℕ → Bool) (u : Event) → group_of p test u.what ≡ Some g → is_handler_of p (λ k. k == g) u ≡ true
group_run p g test u e = by u.what e
  where
    by : (w : What) → group_of p test w ≡ Some g → is_handler_of p (λ k. k == g) (event_with u.number w) ≡ true
    by (HandlerOf q k x m) e = of (q.number == p) (test k) e
      where
        of : (b c : Bool) → (if b && c then Some k else None) ≡ Some g → (b && (k == g)) ≡ true
        of true true e = let same : k ≡ g = cc in eq-eqb k g same
        of true false e = absurd (cc)
        of false c e = absurd (cc)
    by _ e = absurd (cc)

pub greatest_runs : (p g : ℕ) (test : ℕ → Bool) (actions : List Action) → greatest_group p test actions ≡ Some g → HasRun p actions g
greatest_runs p g test [] e = absurd (cc)
greatest_runs p g test (a ∷ older) e = step (group_of p test a.event.what) (greatest_group p test older) refl (λ k f. greatest_runs p k test older f) e
  where
    step : (o r : Option ℕ) → group_of p test a.event.what ≡ o → ((k : ℕ) → r ≡ Some k → HasRun p older k) → greater o r ≡ Some g → HasRun p (a ∷ older) g
    step None r is rest e = run_more p g a older (rest g e)
    step (Some k) None is rest e = (a, inl refl, group_run p g test a.event (is ∙ e))
    step (Some k) (Some j) is rest e = of (nat_lt k j) e
      where
        of : (b : Bool) → (if b then Some j else Some k) ≡ Some g → HasRun p (a ∷ older) g
        of true e = run_more p g a older (rest g e)
        of false e = (a, inl refl, group_run p g test a.event (is ∙ e))

-- the greatest is no less than any
pub greatest_bounds : (p : ℕ) (test : ℕ → Bool) (actions : List Action) (i : Action) (k : ℕ) → Among i actions → group_of p test i.event.what ≡ Some k → (g : ℕ) × (greatest_group p test actions ≡ Some g) × (k ≤ g)
greatest_bounds p test [] i k among e = absurd among
greatest_bounds p test (a ∷ older) i k (inl same) e = step (group_of p test a.event.what) (greatest_group p test older) (ap (λ (c : Action). group_of p test c.event.what) (sym same) ∙ e)
  where
    step : (o r : Option ℕ) → o ≡ Some k → (g : ℕ) × (greater o r ≡ Some g) × (k ≤ g)
    step None r e = absurd (cc)
    step (Some j) None e = let is : j ≡ k = cc in (j, refl, omega (arith, is))
    step (Some j) (Some m) e = let is : j ≡ k = cc in of (nat_lt j m) refl is
      where
        of : (b : Bool) → nat_lt j m ≡ b → j ≡ k → (g : ℕ) × ((if b then Some m else Some j) ≡ Some g) × (k ≤ g)
        of true lt is = let less : j < m = grind (arith, nat_tests) in (m, refl, omega (arith, is, less))
        of false lt is = (j, refl, omega (arith, is))
greatest_bounds p test (a ∷ older) i k (inr deeper) e = step (group_of p test a.event.what) (greatest_bounds p test older i k deeper e)
  where
    step : (o : Option ℕ) → ((g : ℕ) × (greatest_group p test older ≡ Some g) × (k ≤ g)) → (g : ℕ) × (greater o (greatest_group p test older) ≡ Some g) × (k ≤ g)
    step None rest = rest
    step (Some j) rest = of (nat_lt j rest.0) refl
      where
        of : (b : Bool) → nat_lt j rest.0 ≡ b → (g : ℕ) × (greater (Some j) (greatest_group p test older) ≡ Some g) × (k ≤ g)
        of true lt = (rest.0, ap (greater (Some j)) rest.1 ∙ ap (λ b. if b then Some rest.0 else Some j) lt, rest.2)
        of false lt = let le : rest.0 ≤ j = grind (arith, nat_tests) in (j, ap (greater (Some j)) rest.1 ∙ ap (λ b. if b then Some rest.0 else Some j) lt, omega (arith, le, rest.2))

-- a path to an action that reaches them
pub reach_on : (table : List (ℕ × Rule)) (h : List Record) (i k : ℕ) (ks : List ℕ) → path table h i k ≡ true → Reaches (path table h) k ks → Reaches (path table h) i ks
reach_on table h i k [] e to = absurd (cc)
reach_on table h i k (m ∷ ks) e to =
    elim (or_cases (path table h k m) _ to) [
      | inl here ↦ or_left (path table h i m) _ (path_on table h i k m e here)
      | inr deeper ↦ or_right (path table h i m) _ (reach_on table h i k ks e deeper)
    ]

-- what the tests say

pub record HandlerIs (p : ℕ) (test : ℕ → Bool) (u : Event) : Type 0 where
  pub dispatch : Dispatch
  pub group : ℕ
  pub handler : ℕ
  pub maker : Option ℕ
  pub is : u.what ≡ HandlerOf dispatch group handler maker
  pub number : dispatch.number ≡ p
  pub passes : test group ≡ true
  pub found : group_of p test u.what ≡ Some group

pub handler_is : (p : ℕ) (test : ℕ → Bool) (u : Event) → is_handler_of p test u ≡ true → HandlerIs p test u
handler_is p test u e = by u.what refl e
  where
    by : (w : What) → u.what ≡ w → is_handler_of p test (event_with u.number w) ≡ true → HandlerIs p test u
    by (HandlerOf q g x m) what e = record {
      dispatch = q;
      group = g;
      handler = x;
      maker = m;
      is = what;
      number = eqb-true q.number p (and_left (q.number == p) _ e);
      passes = and_right (q.number == p) _ e;
      found = ap (group_of p test) what ∙ ap (λ b. if b then Some g else None) e;
    }
    by _ what e = absurd (cc)

pub begin_is : (p : ℕ) (u : Event) → is_begin_of p u ≡ true → (q : Dispatch) × (u.what ≡ BeginOf q) × (q.number ≡ p)
begin_is p u e = by u.what refl e
  where
    by : (w : What) → u.what ≡ w → is_begin_of p (event_with u.number w) ≡ true → (q : Dispatch) × (u.what ≡ BeginOf q) × (q.number ≡ p)
    by (BeginOf q) what e = (q, what, eqb-true q.number p e)
    by _ what e = absurd (cc)

-- the begin, or a run of the dispatch in a family that passes, reaches what is handed
pub reach_group : (table : List (ℕ × Rule)) (h : List Record) → IsSteady table h → (p : ℕ) (test : ℕ → Bool) (i : Action) → Among i (told h).actions → Ran p test i.event → Reaches (path table h) i.number (group_handed p test (told h).actions)
reach_group table h steady p test i among ran = by (greatest_group p test (told h).actions) refl ran
  where
    acts : List Action
    acts = (told h).actions

    alone : is_begin_of p i.event ≡ true → Reaches (path table h) i.number (newest (is_begin_of p) acts)
    alone e = reach_newest (path table h) (is_begin_of p) acts i (actions_are_numbered h) among e (λ a other f le.
        let one = begin_is p i.event e in
        let two = begin_is p a.event f in
        let first = begin_begun h steady.named i one.0 among one.1 in
        let second = begin_begun h steady.named a two.0 other two.1 in
        let same = ap (λ (d : Dispatch). d.begin) (same_dispatch h steady.named one.0 two.0 first second (one.2 ∙ sym two.2)) in
        piece_path table h i a among other (own i one.0 among one.1 ∙ (same ∙ sym (own a two.0 other two.1))) le)
      where
        own : (c : Action) (d : Dispatch) → Among c acts → c.event.what ≡ BeginOf d → c.event.number ≡ d.begin
        own c d among is = begin_number h steady.named c d among is

    by : (o : Option ℕ) → greatest_group p test acts ≡ o → Ran p test i.event → Reaches (path table h) i.number (runs_or_begin p acts o)
    by None none (inl begin) = alone begin
    by None none (inr handler) =
        let one = handler_is p test i.event handler in
        let some = greatest_bounds p test acts i one.group among one.found in
        absurd (let clash = sym none ∙ some.1 in cc)
    by (Some g) found (inl begin) =
        let one = begin_is p i.event begin in
        let run = greatest_runs p g test acts found in
        let two = handler_is p (λ k. k == g) run.0.event run.2 in
        reach_on table h i.number run.0.number (latest_of_each (is_handler_of p (λ k. k == g)) acts)
        (begin_path table h steady i run.0 one.0 two.dispatch among run.1 one.1 (serves_handler _ two.dispatch two.group two.handler two.maker two.is) (one.2 ∙ sym two.number))
        (reach_each table h (is_handler_of p (λ k. k == g)) run.0 run.1 run.2)
    by (Some g) found (inr handler) =
        let one = handler_is p test i.event handler in
        let bounds = greatest_bounds p test acts i one.group among one.found in
        let greatest : bounds.0 ≡ g = some_number (sym bounds.1 ∙ found) in
        let run = greatest_runs p g test acts found in
        let two = handler_is p (λ k. k == g) run.0.event run.2 in
        let group : two.group ≡ g = eqb-true two.group g two.passes in
        elim (place_cases one.group g) [
          | inl less ↦
              reach_on table h i.number run.0.number (latest_of_each (is_handler_of p (λ k. k == g)) acts)
              (handler_to_later table h steady i run.0 one.dispatch two.dispatch one.group two.group one.handler two.handler one.maker two.maker among run.1 one.is two.is (one.number ∙ sym two.number) (omega (arith, less, group)))
              (reach_each table h (is_handler_of p (λ k. k == g)) run.0 run.1 run.2)
          | inr rest ↦ elim rest [
            | inl same ↦ reach_each table h (is_handler_of p (λ k. k == g)) i among
                (ap (λ w. is_handler_of p (λ k. k == g) (event_with i.event.number w)) one.is ∙ both (one.dispatch.number == p) _ (eq-eqb one.dispatch.number p one.number) (eq-eqb one.group g same))
            | inr more ↦ absurd (omega (arith, more, bounds.2, greatest))
          ]
        ]
      where
        some_number : {m n : ℕ} → Some m ≡ Some n → m ≡ n
        some_number e = cc
