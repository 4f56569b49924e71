-- Steps as they are kept, and clocks that stand for something.
use Rattle.std.specs.Prelude.{ℕ, List, map}
use Rattle.er_clocks.specs.Clock.{StandsFor}
use Rattle.er_pieces.specs.steps.Steps as steps
use Rattle.er_explain.specs.declared.steps.Step.{Step}

abbrev pub shown : Step → steps.Step
shown s = record { source = s.from; target = s.to; rule = s.rule }

abbrev pub all_shown : List Step → List steps.Step
all_shown found = map shown found

-- clocks that stand for some list
pub record AreSome (kept : List (List ℕ)) : Type 0 where
  pub lists : List (List ℕ)
  pub stands : StandsFor kept lists
