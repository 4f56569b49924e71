-- Worked rows: small lists of predecessors, newest first, and the classes of races, in
-- the order of the races.
use Rattle.std.specs.Prelude.{◌≡◌, ℕ, List, [], ◌∷◌}
use Rattle.er_paths.specs.Paths.{joins}
use Rattle.er_cover.specs.declared.class.Class.{Class}
use Rattle.er_cover.specs.Groups.{grouping_by}

-- the races of two actions
abbrev pub of : ℕ → ℕ → Class
of i j = record { first = i; second = j }

-- These races name these groups, which have these representatives and sizes.
abbrev pub Gives : List (List ℕ) → List Class → List ℕ → List ℕ → List ℕ → Type 0
Gives lists by_race names representatives sizes = grouping_by (joins lists) by_race
    ≡ record { names = names; representatives = representatives; sizes = sizes }

abbrev pub NoRace : Type 0
NoRace = Gives ([] ∷ []) [] [] [] []

-- two races of two timeouts
abbrev pub OneClass : Type 0
OneClass = Gives ((1 ∷ []) ∷ (1 ∷ []) ∷ (0 ∷ []) ∷ [] ∷ []) (of 2 3 ∷ of 2 3 ∷ []) (0 ∷ 0 ∷ [])
    (0 ∷ []) (2 ∷ [])

-- two timeouts that race set one each; the race of these two covers the race of the first
-- and the last action
abbrev pub LaterRepresentative : Type 0
LaterRepresentative = Gives ((4 ∷ []) ∷ (1 ∷ []) ∷ (2 ∷ []) ∷ (1 ∷ []) ∷ (0 ∷ []) ∷ [] ∷ [])
    (of 2 5 ∷ of 3 4 ∷ []) (0 ∷ 0 ∷ []) (1 ∷ []) (2 ∷ [])

-- two groups, of which the first covers a wider class too
abbrev pub TwoGroups : Type 0
TwoGroups = Gives ((2 ∷ []) ∷ (1 ∷ []) ∷ (0 ∷ []) ∷ (0 ∷ []) ∷ [] ∷ [])
    (of 1 4 ∷ of 1 2 ∷ of 1 4 ∷ of 2 3 ∷ []) (0 ∷ 0 ∷ 0 ∷ 1 ∷ []) (1 ∷ 3 ∷ []) (3 ∷ 1 ∷ [])

-- both groups cover the class between them, which names the first, though the second is narrower
abbrev pub CoveredTwice : Type 0
CoveredTwice = Gives ((3 ∷ 4 ∷ []) ∷ [] ∷ [] ∷ (0 ∷ []) ∷ [] ∷ [] ∷ [])
    (of 0 3 ∷ of 0 5 ∷ of 2 4 ∷ of 0 5 ∷ []) (0 ∷ 0 ∷ 1 ∷ 0 ∷ []) (0 ∷ 2 ∷ []) (3 ∷ 1 ∷ [])

abbrev pub WorkedRows : Type 0
WorkedRows = NoRace × OneClass × LaterRepresentative × TwoGroups × CoveredTwice
