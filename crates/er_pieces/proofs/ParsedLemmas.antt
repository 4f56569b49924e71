-- Parse steps, blocking runs and deferred runs of a document reach the handed ones. Lists of
-- records stand newest first.
use Rattle.std.proofs.Common.{◌≡◌, ℕ, true, List, ◌++◌, ◌⊎◌, inl, inr}
use Rattle.er_trace.specs.declared.record.Record.{Record}
use Rattle.er_history.specs.History.{Event, Action, told}
use Rattle.er_history.specs.Rules.{Rule, is_blocking, is_deferred}
use Rattle.er_history.specs.Edges.{path}
use Rattle.er_history.specs.Laws.{Among}
use Rattle.er_history.specs.Latest.{newest}
use Rattle.er_history.specs.Kinds.{is_step_of, is_run_of}
use Rattle.er_pieces.specs.HandedPieces.{dcl_handed}
use Rattle.er_pieces.specs.Enough.{IsSteady}
use Rattle.er_pieces.proofs.PathLemmas.{Reaches, reach_left, reach_right}
use Rattle.er_pieces.proofs.EnoughParse.{reach_step}
use Rattle.er_pieces.proofs.RunLemmas.{reach_blocking, reach_deferred}

-- a parse step, a blocking run or a deferred run of the document
abbrev pub IsParsed : ℕ → Event → Type 0
IsParsed d u = (is_step_of d u ≡ true) ⊎ ((is_run_of is_blocking d u ≡ true) ⊎ (is_run_of is_deferred d u ≡ true))

pub reach_parsed : (table : List (ℕ × Rule)) (h : List Record) → IsSteady table h → (d : ℕ) (i : Action) → Among i (told h).actions → IsParsed d i.event → Reaches (path table h) i.number (dcl_handed (told h) d)
reach_parsed table h steady d i among is =
    let steps : List ℕ = newest (is_step_of d) (told h).actions in
    let blocking : List ℕ = newest (is_run_of is_blocking d) (told h).actions in
    let deferred : List ℕ = newest (is_run_of is_deferred d) (told h).actions in
    elim is [
      | inl step ↦ reach_left (path table h) i.number (steps ++ blocking) deferred (reach_left (path table h) i.number steps blocking (reach_step table h steady d i among step))
      | inr run ↦ elim run [
        | inl blocks ↦ reach_left (path table h) i.number (steps ++ blocking) deferred (reach_right (path table h) i.number steps blocking (reach_blocking table h steady d i among blocks))
        | inr defers ↦ reach_right (path table h) i.number (steps ++ blocking) deferred (reach_deferred table h steady d i among defers)
      ]
    ]
