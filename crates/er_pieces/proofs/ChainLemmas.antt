-- What the proofs of the handed pieces share: events of one kind that rules join in order, and
-- makers. Lists of records stand newest first.
use Rattle.std.proofs.Common.{◌≡◌, ℕ, ◌<◌, ◌≤◌, Bool, true, List, Option, Some, None, sym, ap, arith, inl, inr}
use Rattle.std.specs.Prelude.{not, ◌==◌}
use Rattle.std.specs.List.{list_any}
use Rattle.std.proofs.lemmas.Bool.{eqb-true, ne_eqb}
use Rattle.er_trace.specs.declared.record.Record.{Record}
use Rattle.er_trace.specs.declared.record.Record.TheVariants.{Back}
use Rattle.er_paths.proofs.Paths.{place_cases}
use Rattle.er_history.specs.History.{Event, What, Action, told, running, action_begun}
use Rattle.er_history.specs.Rules.{Rule, any_holds, made_by}
use Rattle.er_history.specs.Edges.{path, is_ruled, up_to}
use Rattle.er_history.specs.Laws.{Among}
use Rattle.er_history.specs.Handed.{HasFamily}
use Rattle.er_history.specs.Naming.{naming}
use Rattle.er_history.specs.Latest.{latest_of}
use Rattle.er_pieces.specs.Enough.{IsSteady, NestedFacts}
use Rattle.er_history.proofs.HistoryLemmas.{told_before, event_before}
use Rattle.er_pieces.proofs.StartsLemmas.{bound}
use Rattle.er_pieces.proofs.InOrderLemmas.{pieces_before}
use Rattle.er_pieces.proofs.PathLemmas.{both, piece_path, Reaches, reach_latest}

abbrev pub event_with : ℕ → What → Event
event_with n w = record { number = n; what = w }

-- a rule of the family holds between two events
pub one_holds : (family : List (ℕ × Rule)) (joined : ℕ → ℕ → Bool) (u v : Event) → (u.number ≡ v.number → ⊥) → list_any (λ (r : ℕ × Rule). r.1 joined u v) family ≡ true → any_holds family joined u v ≡ true
one_holds family joined u v apart e = both (not (u.number == v.number)) _ (ap not (ne_eqb u.number v.number apart)) e

-- An earlier piece of a kind joins a later one, where of two events of the kind that begin with no
-- dispatch open the earlier leads to the later.
pub chain : (table : List (ℕ × Rule)) (h : List Record) → IsSteady table h → (i a : Action) → Among i (told h).actions → Among a (told h).actions → bound i.event ≡ 0 → bound a.event ≡ 0 → i.number ≤ a.number
    → (i.event.number < a.event.number → i.number < a.event.number → a.event.number ≤ a.number → path table h i.number a.number ≡ true) → path table h i.number a.number ≡ true
chain table h steady i a first last clear free le leads =
    elim (place_cases i.event.number a.event.number) [
      | inl before ↦
          let up = event_before (told h).actions a (told_before h) last in
          leads before (pieces_before h steady.named i a first last before (omega (arith, free))) up.1
      | inr rest ↦ elim rest [
        | inl same ↦ piece_path table h i a first last same le
        | inr after ↦
            let up = event_before (told h).actions i (told_before h) first in
            let gone = pieces_before h steady.named a i last first after (omega (arith, clear)) in
            absurd (omega (arith, le, gone, up.1))
      ]
    ]

-- the maker of something
pub reach_maker : (table : List (ℕ × Rule)) (h : List Record) (i : Action) (m : Option ℕ) → Among i (told h).actions → made_by m i.event ≡ true → Reaches (path table h) i.number (latest_of m (told h).actions)
reach_maker table h i None among e = absurd (cc)
reach_maker table h i (Some k) among e = reach_latest table h i k among (sym (eqb-true k i.event.number e))

-- the piece that `back` begins
pub back_enough : (table family : List (ℕ × Rule)) (h : List Record) (p : ℕ) → NestedFacts table → HasFamily table family → IsSteady table h → naming h (Back p) ≡ None
    → (i c : Action) → Among i (told h).actions → running (told h).actions ≡ Some c → is_ruled family (path table h) i (action_begun (told h) (Back p)) ≡ true → path table h i.number c.number ≡ true
back_enough table family h p facts has steady named i c among runs ruled =
    let b : Action = action_begun (told h) (Back p) in
    facts.back h p i c steady named among runs (has (up_to b.event.number (path table h)) i.event b.event ruled)
