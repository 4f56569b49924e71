-- What a relation between clocks and lists tells.
use Rattle.std.specs.Prelude.{◌≡◌, ℕ, true, List, ◌∷◌, length}
use Rattle.std.specs.List.{list_any}
use Rattle.er_paths.specs.Paths.{joins, is_among}
use Rattle.er_paths.specs.Laws.{IsEnough}
use Rattle.er_clocks.specs.Clock.{StandsFor}

-- The actions and the paths over the kept links are those over each list that the clocks stand for.
abbrev pub ClocksTellPaths : Type 0
ClocksTellPaths = (kept lists : List (List ℕ)) → StandsFor kept lists
    → (length kept ≡ length lists) × ((i j : ℕ) → joins kept i j ≡ joins lists i j)

-- Clocks that stand for a list stand for each other one with the same actions and paths.
abbrev pub ClocksOfPaths : Type 0
ClocksOfPaths = (kept lists others : List (List ℕ)) → length lists ≡ length others
    → ((i j : ℕ) → joins lists i j ≡ joins others i j) → StandsFor kept lists
    → StandsFor kept others

-- Where enough of the predecessors were handed, the clocks stand for the whole lists.
abbrev pub ClocksOfHanded : Type 0
ClocksOfHanded = (kept handed lists : List (List ℕ)) → IsEnough handed lists → StandsFor kept handed
    → StandsFor kept lists

-- The same of the newest action alone: each handed number is of its list, and from each number of
-- the list a path leads to a handed one.
abbrev pub ClocksOfNewest : Type 0
ClocksOfNewest = (kept older : List (List ℕ)) (handed all : List ℕ)
    → ((k : ℕ) → is_among k handed ≡ true → is_among k all ≡ true)
    → ((i : ℕ) → is_among i all ≡ true → list_any (λ k. joins older i k) handed ≡ true)
    → StandsFor kept (handed ∷ older) → StandsFor kept (all ∷ older)
