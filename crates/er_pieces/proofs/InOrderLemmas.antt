-- Where no record is out of order, a rule leads from an earlier event to a later one, and so is a
-- path. Lists of records stand newest first.
use Rattle.std.proofs.Common.{◌≡◌, ℕ, ◌<◌, ◌≤◌, Bool, true, false, List, [], ◌∷◌, refl, sym, ap, subst, ◌∙◌, arith, inl, inr}
use Rattle.std.specs.Prelude.{not, ◌==◌, ◌&&◌}
use Rattle.std.specs.List.{list_any}
use Rattle.std.proofs.lemmas.Bool.{eq-eqb}
use Rattle.er_trace.specs.declared.record.Record.{Record}
use Rattle.er_history.specs.History.{Event, Action, told, begins, event_begun}
use Rattle.er_history.specs.Rules.{Rule, any_holds}
use Rattle.er_history.specs.Edges.{path}
use Rattle.er_history.specs.Laws.{Among}
use Rattle.er_history.specs.Handed.{HasFamily}
use Rattle.er_history.specs.Naming.{IsNamed, misplaced}
use Rattle.er_pieces.specs.Enough.{AreInOrder, IsSteady}
use Rattle.er_history.proofs.HistoryLemmas.{told_before, event_before, event_below}
use Rattle.er_history.proofs.NamedLemmas.{none_holds}
use Rattle.er_history.proofs.OrderLemmas.{leads_nowhere}
use Rattle.er_history.proofs.VersionLemmas.{AskNoPaths}
use Rattle.er_pieces.proofs.CallerLemmas.{among_cases, event_is}
use Rattle.er_pieces.proofs.StartsLemmas.{bound, is_clear, lt_or_le}
use Rattle.er_pieces.proofs.PathLemmas.{ruled_path}

-- whatever the paths, a rule of the family leads from u to v
abbrev pub Leads : List (ℕ × Rule) → Event → Event → Type 0
Leads family u v = (joined : ℕ → ℕ → Bool) → any_holds family joined u v ≡ true

-- no rule leads from an event to itself
pub not_itself : (family : List (ℕ × Rule)) (joined : ℕ → ℕ → Bool) (u v : Event) → u.number ≡ v.number → any_holds family joined u v ≡ true → ⊥
not_itself family joined u v same e = step (u.number == v.number) (eq-eqb u.number v.number same) e
  where
    step : (b : Bool) → b ≡ true → (not b && list_any (λ (r : ℕ × Rule). r.1 joined u v) family) ≡ true → ⊥
    step true e f = cc
    step false e f = cc

pub not_late : (table family : List (ℕ × Rule)) (h : List Record) → HasFamily table family → AskNoPaths family → IsNamed h → AreInOrder table h → (a b : Action) → Among a (told h).actions → Among b (told h).actions
    → (joined : ℕ → ℕ → Bool) → any_holds family joined a.event b.event ≡ true → a.event.number < b.event.number
not_late table family [] has free named ordered a b first second joined e = absurd first
not_late table family (x ∷ h) has free named ordered a b first second joined e =
    let rest = not_late table family h has free named.1 ordered.1 in
    let placed = (none_holds h x named.0).placed in
    elim (among_cases h x a first) [
      | inl now ↦ elim (among_cases h x b second) [
        | inl other ↦ absurd (not_itself family joined a.event b.event (ap (λ (c : Action). c.event.number) (now.1 ∙ sym other.1)) e)
        | inr older ↦ subst (λ (u : Event). u.number < b.event.number) (sym (ap (λ (c : Action). c.event) now.1))
            (from placed now.0 b older (ap (λ (u : Event). any_holds family joined u b.event) (sym (ap (λ (c : Action). c.event) now.1)) ∙ e) rest)
      ]
      | inr earlier ↦ elim (among_cases h x b second) [
        | inl now ↦ subst (λ (v : Event). a.event.number < v.number) (sym (ap (λ (c : Action). c.event) now.1))
            (to placed a earlier (ap (λ (v : Event). any_holds family joined a.event v) (sym (ap (λ (c : Action). c.event) now.1)) ∙ e) rest)
        | inr older ↦ rest a b earlier older joined e
      ]
    ]
  where
    Rest : Type 0
    Rest = (a b : Action) → Among a (told h).actions → Among b (told h).actions → (joined : ℕ → ℕ → Bool) → any_holds family joined a.event b.event ≡ true → a.event.number < b.event.number

    from : misplaced (told h) x ≡ false → begins x ≡ true → (b : Action) → Among b (told h).actions → any_holds family joined (event_begun (told h) x) b.event ≡ true → Rest → (event_begun (told h) x).number < b.event.number
    from placed begin b older e rest =
        elim (event_is h x named.1 placed) [
          | inl new ↦ absurd (let none = leads_nowhere table family h x has new.0 ordered.0 begin b older in let same = free joined (path table h) (event_begun (told h) x) b.event in cc)
          | inr back ↦
              let event : event_begun (told h) x ≡ back.2.caller.piece.event = ap (event_begun (told h)) back.1 ∙ back.2.event in
              subst (λ (u : Event). u.number < b.event.number) (sym event)
              (rest back.2.caller.piece b back.2.caller.among older joined (ap (λ (u : Event). any_holds family joined u b.event) (sym event) ∙ e))
        ]

    to : misplaced (told h) x ≡ false → (a : Action) → Among a (told h).actions → any_holds family joined a.event (event_begun (told h) x) ≡ true → Rest → a.event.number < (event_begun (told h) x).number
    to placed a older e rest =
        elim (event_is h x named.1 placed) [
          | inl new ↦ let below = event_below (told h).actions a (told_before h) older in omega (arith, new.1)
          | inr back ↦
              let event : event_begun (told h) x ≡ back.2.caller.piece.event = ap (event_begun (told h)) back.1 ∙ back.2.event in
              subst (λ (v : Event). a.event.number < v.number) (sym event)
              (rest a back.2.caller.piece older back.2.caller.among joined (ap (λ (v : Event). any_holds family joined a.event v) (sym event) ∙ e))
        ]

-- the pieces of an event are before those of a later one that is clear of it
pub pieces_before : (h : List Record) → IsNamed h → (a b : Action) → Among a (told h).actions → Among b (told h).actions → a.event.number < b.event.number → bound b.event ≤ a.event.number → a.number < b.event.number
pieces_before h named a b first last before clear =
    let is = is_clear h named b last in
    elim (lt_or_le a.number b.event.number) [
      | inl lt ↦ lt
      | inr le ↦ elim (is.pieces a first le) [
        | inl under ↦ absurd (omega (arith, under, clear))
        | inr since ↦ absurd (omega (arith, since, before))
      ]
    ]

-- a rule that leads to an event that is clear of the other is a path between their pieces
pub rule_path : (table family : List (ℕ × Rule)) (h : List Record) → IsSteady table h → HasFamily table family → AskNoPaths family → (a b : Action) → Among a (told h).actions → Among b (told h).actions
    → bound b.event ≤ a.event.number → Leads family a.event b.event → path table h a.number b.number ≡ true
rule_path table family h steady has free a b first last clear leads =
    let before = not_late table family h has free steady.named steady.ordered a b first last (path table h) (leads (path table h)) in
    let earlier = pieces_before h steady.named a b first last before clear in
    let up = event_before (told h).actions b (told_before h) last in
    ruled_path table family h a b has first last (omega (arith, earlier, up.1)) leads
