-- Paths between actions of a list, and paths to the newest of a kind. Lists of records
-- stand newest first.
use Rattle.std.proofs.Common.{◌≡◌, ℕ, ◌<◌, ◌≤◌, Bool, true, false, List, [], ◌∷◌, ◌++◌, Some, refl, sym, ap, subst, ◌∙◌, arith, inl, inr}
use Rattle.std.specs.Prelude.{◌==◌, ◌&&◌, ◌||◌, nat_lt, if◌then◌else◌}
use Rattle.std.specs.List.{list_any}
use Rattle.std.proofs.lemmas.Bool.{eqb-true, eq-eqb}
use Rattle.std.proofs.lemmas.Bool.Decides.{nat_tests}
use Rattle.er_trace.specs.declared.record.Record.{Record}
use Rattle.er_paths.proofs.Paths.{or_left, or_right, paths_compose}
use Rattle.er_history.specs.History.{Event, Action, told}
use Rattle.er_history.specs.Rules.{Rule, any_holds}
use Rattle.er_history.specs.Edges.{around_inline, of_one_event, up_to, is_ruled, edge, edges, path}
use Rattle.er_history.specs.Laws.{Among, IsNumbered}
use Rattle.er_history.specs.Handed.{HasFamily}
use Rattle.er_history.specs.Latest.{newest_by, number_of, newest, latest_of_event, latest_among, latest_of_each}
use Rattle.er_history.proofs.HistoryLemmas.{actions_are_numbered, events_have_first_pieces, paths_lead_over_actions, among_below}
use Rattle.er_history.proofs.OrderLemmas.{any_append}
use Rattle.er_history.proofs.HandedLemmas.{action_stands}

-- an edge is a path
pub edge_path : (table : List (ℕ × Rule)) (h : List Record) (a b : Action) → Among a (told h).actions → Among b (told h).actions → edge table (path table h) a b ≡ true → path table h a.number b.number ≡ true
edge_path table h a b first last e = (paths_lead_over_actions table h a b first last).1 (b ∷ [], (last, e, refl))

pub path_on : (table : List (ℕ × Rule)) (h : List Record) (i k j : ℕ) → path table h i k ≡ true → path table h k j ≡ true → path table h i j ≡ true
path_on table h i k j e f = paths_compose (edges table (told h).actions) i k j e f

pub never : false ≡ true → ⊥
never e = cc

pub less_is : (m n : ℕ) → m < n → nat_lt m n ≡ true
less_is m n e = grind (arith, nat_tests)

pub both : (b c : Bool) → b ≡ true → c ≡ true → (b && c) ≡ true
both true c e f = f
both false c e f = e

pub and_right : (b c : Bool) → (b && c) ≡ true → c ≡ true
and_right true c e = e
and_right false c e = absurd (cc)

-- a rule of a family leads from the event of an earlier action
pub ruled_path : (table family : List (ℕ × Rule)) (h : List Record) (a b : Action) → HasFamily table family → Among a (told h).actions → Among b (told h).actions → a.number < b.number
    → ((joined : ℕ → ℕ → Bool) → any_holds family joined a.event b.event ≡ true) → path table h a.number b.number ≡ true
ruled_path table family h a b has first last before holds =
    edge_path table h a b first last (both (nat_lt a.number b.number) _ (less_is a.number b.number before)
    (or_left (is_ruled table (path table h) a b) (around_inline a b || of_one_event a b) (has (up_to b.event.number (path table h)) a.event b.event (holds (up_to b.event.number (path table h))))))

-- an earlier piece of an event
pub piece_path : (table : List (ℕ × Rule)) (h : List Record) (a b : Action) → Among a (told h).actions → Among b (told h).actions → a.event.number ≡ b.event.number → a.number ≤ b.number
    → path table h a.number b.number ≡ true
piece_path table h a b first last same le = step (nat_lt a.number b.number) refl
  where
    step : (c : Bool) → nat_lt a.number b.number ≡ c → path table h a.number b.number ≡ true
    step true lt = edge_path table h a b first last (both (nat_lt a.number b.number) _ lt
        (or_right (is_ruled table (path table h) a b) _ (or_right (around_inline a b) (of_one_event a b) (eq-eqb a.event.number b.event.number same))))
    step false not_lt = let is : a.number ≡ b.number = grind (arith, nat_tests) in subst (λ n. path table h a.number n ≡ true) is (action_stands table h a first)

-- the newest of a kind

pub record NewestIs (test : Event → Bool) (actions : List Action) (i : Action) : Type 0 where
  pub action : Action
  pub among : Among action actions
  pub passes : test action.event ≡ true
  pub later : i.number ≤ action.number
  pub found : newest_by test actions ≡ Some action

pub newest_is : (test : Event → Bool) (actions : List Action) (i : Action) → IsNumbered actions → Among i actions → test i.event ≡ true → NewestIs test actions i
newest_is test [] i n among e = absurd among
newest_is test (a ∷ older) i n among e = step (test a.event) refl (λ deeper. newest_is test older i n.1 deeper e) among
  where
    le : Among i (a ∷ older) → i.number ≤ a.number
    le (inl same) = omega (arith, ap (λ (c : Action). c.number) same)
    le (inr deeper) = omega (arith, among_below older i n.1 deeper, n.0)

    step : (b : Bool) → test a.event ≡ b → (Among i older → NewestIs test older i) → Among i (a ∷ older) → NewestIs test (a ∷ older) i
    step true t deep among = record { action = a; among = inl refl; passes = t; later = le among; found = ap (λ c. if c then Some a else newest_by test older) t }
    step false t deep (inl same) = absurd (let f = ap (λ (c : Action). test c.event) same in cc)
    step false t deep (inr deeper) =
        let rest = deep deeper in
        record {
          action = rest.action;
          among = inr rest.among;
          passes = rest.passes;
          later = rest.later;
          found = ap (λ c. if c then Some a else newest_by test older) t ∙ rest.found;
        }

-- a path leads to one of these
abbrev pub Reaches : (ℕ → ℕ → Bool) → ℕ → List ℕ → Type 0
Reaches joined i ks = list_any (λ k. joined i k) ks ≡ true

pub reach_left : (joined : ℕ → ℕ → Bool) (i : ℕ) (ks ms : List ℕ) → Reaches joined i ks → Reaches joined i (ks ++ ms)
reach_left joined i ks ms e = any_append (λ k. joined i k) ks ms ∙ or_left (list_any (λ k. joined i k) ks) _ e

pub reach_right : (joined : ℕ → ℕ → Bool) (i : ℕ) (ks ms : List ℕ) → Reaches joined i ms → Reaches joined i (ks ++ ms)
reach_right joined i ks ms e = any_append (λ k. joined i k) ks ms ∙ or_right (list_any (λ k. joined i k) ks) _ e

-- the newest that passes is reached, where each later one is
pub reach_newest : (joined : ℕ → ℕ → Bool) (test : Event → Bool) (actions : List Action) (i : Action) → IsNumbered actions → Among i actions → test i.event ≡ true
    → ((a : Action) → Among a actions → test a.event ≡ true → i.number ≤ a.number → joined i.number a.number ≡ true) → Reaches joined i.number (newest test actions)
reach_newest joined test actions i n among e to =
    let is = newest_is test actions i n among e in
    ap (λ o. list_any (λ k. joined i.number k) (number_of o)) is.found ∙ or_left (joined i.number is.action.number) false (to is.action is.among is.passes is.later)

-- each piece reaches the latest piece of its event
pub reach_latest : (table : List (ℕ × Rule)) (h : List Record) (i : Action) (u : ℕ) → Among i (told h).actions → i.event.number ≡ u → Reaches (path table h) i.number (latest_of_event u (told h).actions)
reach_latest table h i u among e =
    reach_newest (path table h) (λ (v : Event). v.number == u) (told h).actions i (actions_are_numbered h) among (eq-eqb i.event.number u e)
    (λ a other same le. piece_path table h i a among other (e ∙ sym (eqb-true a.event.number u same)) le)

-- and where the handed are those of each event that passes, one of them
pub reach_each : (table : List (ℕ × Rule)) (h : List Record) (test : Event → Bool) (i : Action) → Among i (told h).actions → test i.event ≡ true → Reaches (path table h) i.number (latest_of_each test (told h).actions)
reach_each table h test i among e =
    let first = events_have_first_pieces h i among in
    go (told h).actions first.0 first.1 (first.2 ∙ sym (ap (λ (v : Event). v.number) first.3)) first.3
  where
    all : List Action
    all = (told h).actions

    go : (actions : List Action) (b : Action) → Among b actions → b.number ≡ b.event.number → b.event ≡ i.event → Reaches (path table h) i.number (latest_among test all actions)
    go [] b at number event = absurd at
    go (a ∷ older) b (inl same) number event =
        let is : ((a.number == a.event.number) && test a.event) ≡ true =
        both (a.number == a.event.number) (test a.event)
        (eq-eqb a.number a.event.number (subst (λ (c : Action). c.number ≡ c.event.number) same number))
        (ap (λ (c : Action). test c.event) (sym same) ∙ (ap test event ∙ e)) in
        ap (λ c. list_any (λ k. path table h i.number k) (if c then latest_of_event a.event.number all ++ latest_among test all older else latest_among test all older)) is
        ∙ reach_left (path table h) i.number (latest_of_event a.event.number all) (latest_among test all older)
        (reach_latest table h i a.event.number among (sym (ap (λ (v : Event). v.number) event) ∙ ap (λ (c : Action). c.event.number) same))
    go (a ∷ older) b (inr deeper) number event = step ((a.number == a.event.number) && test a.event) (go older b deeper number event)
      where
        step : (c : Bool) → Reaches (path table h) i.number (latest_among test all older)
            → Reaches (path table h) i.number (if c then latest_of_event a.event.number all ++ latest_among test all older else latest_among test all older)
        step true rest = reach_right (path table h) i.number (latest_of_event a.event.number all) (latest_among test all older) rest
        step false rest = rest
