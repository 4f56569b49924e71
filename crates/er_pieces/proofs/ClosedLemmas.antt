-- The closes of dispatches that are not inline, and what begins after them. Lists of records stand
-- newest first.
use Rattle.std.proofs.Common.{◌≡◌, ℕ, ◌+◌, ◌<◌, ◌≤◌, Bool, true, false, List, refl, ap, ◌∙◌, arith, inl, inr}
use Rattle.std.specs.Prelude.{if◌then◌else◌}
use Rattle.er_trace.specs.declared.record.Record.{Record}
use Rattle.er_paths.proofs.Paths.{place_cases}
use Rattle.er_history.specs.History.{Dispatch, is_inline, Delivery, What, CloseOf, Action, told}
use Rattle.er_history.specs.Rules.{Rule}
use Rattle.er_history.specs.Laws.{Among}
use Rattle.er_history.specs.Kinds.{closes}
use Rattle.er_pieces.specs.Enough.{IsSteady}
use Rattle.er_pieces.proofs.ClearLemmas.{Clear}
use Rattle.er_pieces.proofs.StartsLemmas.{bound, bound_of, is_clear}
use Rattle.er_pieces.proofs.ChainLemmas.{event_with}
use Rattle.er_pieces.proofs.DispatchLemmas.{HasBegun}
use Rattle.er_pieces.proofs.ServeLemmas.{serves_close}

-- the close of a dispatch that passes

pub record CloseIs (test : Delivery → Bool) (a : Action) : Type 0 where
  pub dispatch : Dispatch
  pub is : a.event.what ≡ CloseOf dispatch
  pub passes : test dispatch.delivers ≡ true

pub close_is : (test : Delivery → Bool) (a : Action) → closes test a.event ≡ true → CloseIs test a
close_is test a e = by a.event.what refl e
  where
    by : (w : What) → a.event.what ≡ w → closes test (event_with a.event.number w) ≡ true → CloseIs test a
    by (CloseOf d) what e = record { dispatch = d; is = what; passes = e }
    by _ what e = absurd (cc)

-- A dispatch that is not inline is closed before another that is not inline begins.
pub closed_before : (table : List (ℕ × Rule)) (h : List Record) → IsSteady table h → (c : Action) (d e : Dispatch) → Among c (told h).actions → c.event.what ≡ CloseOf d → HasBegun (told h).actions e → is_inline e ≡ false → d.begin < e.begin
    → c.number < e.begin
closed_before table h steady c d e among is begun plain before =
    elim (place_cases c.number e.begin) [
      | inl lt ↦ lt
      | inr rest ↦
          let since : e.begin ≤ c.number = elim rest [
            | inl same ↦ omega (arith, same)
            | inr more ↦ omega (arith, more)
          ] in
          elim (clear.pieces c among (omega (arith, since, begun.own))) [
            | inl under ↦ absurd (omega (arith, under, none))
            | inr own ↦ elim (clear.serves c d among own (serves_close _ d is)) [
              | inl under ↦ absurd (omega (arith, under, none))
              | inr later ↦ absurd (omega (arith, later, before, begun.own))
            ]
          ]
    ]
  where
    clear : Clear (bound begun.begin.event) begun.begin.event.number (told h).actions (told h).stack
    clear = is_clear h steady.named begun.begin begun.among

    none : bound begun.begin.event ≡ 0
    none = ap (λ w. bound_of begun.begin.event.number w) begun.is ∙ ap (λ b. if b then begun.begin.event.number + 1 else 0) plain
