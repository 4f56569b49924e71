-- The numbers of the rules that hold.
use Rattle.std.specs.Prelude.{ℕ, ◌+◌, Bool, List, [], ◌∷◌, Option, None}
use Rattle.er_pieces.specs.steps.Steps.{lesser, given}

-- of tests with the numbers from k on, the least number of one that passes
abbrev pub least_from : ℕ → List Bool → Option ℕ
least_from k [] = None
least_from k (b ∷ more) = lesser (given b k) (least_from (k + 1) more)
