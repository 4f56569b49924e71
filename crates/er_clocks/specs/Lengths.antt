-- The lengths of chains, lowest first.
use Rattle.std.specs.Prelude.{ℕ, zero, suc, List, [], ◌∷◌}

-- one more at a chain, and at the end a new chain of one
abbrev pub one_more : ℕ → List ℕ → List ℕ
one_more chain [] = 1 ∷ []
one_more zero (l ∷ lengths) = suc l ∷ lengths
one_more (suc chain) (l ∷ lengths) = l ∷ one_more chain lengths
