-- Worked rows: small lists of records, newest first, with the steps between two of their actions.
use Rattle.std.specs.Prelude.{◌≡◌, ℕ, List, [], ◌∷◌, Some, None}
use Rattle.er_trace.specs.declared.record.Record.{Record}
use Rattle.er_trace.specs.declared.record.Record.TheVariants.{Parse, Exec, Set, Timer, On, New, Inline, Run, Close, Back}
use Rattle.er_trace.specs.declared.record.Kind.TheVariants as kinds
use Rattle.er_trace.specs.declared.record.NewKind.TheVariants as new_kinds
use Rattle.er_trace.specs.declared.version.Version.TheVariants.{One, Two}
use Rattle.er_history.specs.Rules.{rules}
use Rattle.er_pieces.specs.steps.Steps.{Step, explanation}

abbrev pub step : ℕ → ℕ → ℕ → Step
step i j n = record { source = i; target = j; rule = n }

-- a step, a script, and two timeouts that it sets, which fire in order
abbrev pub in_order : List Record
in_order = Timer 2 ∷ Timer 1 ∷ Set 2 10 ∷ Set 1 0 ∷ Exec 1 ∷ Parse 0 1 kinds.Inline ∷ []

-- which fire the other way round
abbrev pub apart : List Record
apart = Timer 1 ∷ Timer 2 ∷ Set 2 0 ∷ Set 1 10 ∷ Exec 1 ∷ Parse 0 1 kinds.Inline ∷ []

-- a script that calls an inline dispatch at an element that it made
abbrev pub with_inline : List Record
with_inline = Back 1 ∷ Close 1 ∷ Run 1 0 7 ∷ Inline 1 2 (99 ∷ []) ∷ New 0 2 new_kinds.Plain ∷ On 7
    ∷ Exec 1 ∷ Parse 0 1 kinds.Inline ∷ []

-- a timeout, and one that the callback of another set later, which fire in order
abbrev pub by_paths : List Record
by_paths = Timer 3 ∷ Timer 2 ∷ Set 3 10 ∷ Timer 1 ∷ Set 2 10 ∷ Set 1 0 ∷ Exec 1
    ∷ Parse 0 1 kinds.Inline ∷ []

abbrev pub WorkedSteps : Type 0
WorkedSteps =
    (explanation (rules One) in_order 0 3 ≡ Some (step 0 1 3 ∷ step 1 2 18 ∷ step 2 3 19 ∷ []))
    × (explanation (rules One) with_inline 1 5
    ≡ Some (step 1 2 14 ∷ step 2 3 16 ∷ step 3 4 16 ∷ step 4 5 22 ∷ []))
    × (explanation (rules One) apart 2 3 ≡ None)
    × (explanation (rules One) apart 3 3 ≡ Some [])
    × (explanation (rules One) by_paths 3 4 ≡ None)
    × (explanation (rules Two) by_paths 3 4 ≡ Some (step 3 4 19 ∷ []))
    × (explanation (rules Two) by_paths 1 4 ≡ Some (step 1 2 18 ∷ step 2 3 19 ∷ step 3 4 19 ∷ []))
