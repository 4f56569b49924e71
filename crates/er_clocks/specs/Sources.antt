-- Which of the handed numbers are links, and the row that they make.
use Rattle.std.specs.Prelude.{◌≡◌, ◌⊎◌, ◌<◌, ◌≤◌, ℕ, suc, Bool, true, List, [], ◌∷◌, length, reverse, slice_index, if◌then◌else◌}
use Rattle.std.specs.List.{list_any}
use Rattle.er_paths.specs.Paths.{joins, is_among}
use Rattle.er_paths.specs.links.Chains.{chains, members, count_in}
use Rattle.er_paths.specs.links.Links.{links_of}

-- of an ascending list, those that have no path to a later one
abbrev pub uncovered : (ℕ → ℕ → Bool) → List ℕ → List ℕ
uncovered joined [] = []
uncovered joined (i ∷ later) =
    if list_any (λ k. joined i k) later then uncovered joined later else i ∷ uncovered joined later

-- a path leads from i to one of these
abbrev pub reaches : List (List ℕ) → List ℕ → ℕ → Bool
reaches lists xs i = list_any (λ k. joins lists i k) xs

-- the row says, chain by chain, how many members reach one of these
abbrev pub IsReach : List (List ℕ) → List ℕ → List ℕ → Type 0
IsReach lists row xs = (c : ℕ)
    → slice_index row c ≡ count_in (reaches lists xs) (members (chains lists) c)

-- These numbers were gone through: the row reaches them, and those that are links stand last first.
abbrev pub IsTaken : List (List ℕ) → List ℕ → List ℕ → List ℕ → Type 0
IsTaken lists row links xs = IsReach lists row xs × (links ≡ reverse (uncovered (joins lists) xs))

-- One of these has the same links as i.
abbrev pub HasTwin : List (List ℕ) → List ℕ → ℕ → Type 0
HasTwin lists links i =
    (n : ℕ) × (n < length links) × (links_of lists i ≡ links_of lists (slice_index links n))

-- Whatever was taken before it, i is taken now too: the row reaches it.
abbrev pub ReachesToo : List (List ℕ) → ℕ → List ℕ → List ℕ → List ℕ → Type 0
ReachesToo lists i row links new = (later : List ℕ) → IsTaken lists row links later
    → IsReach lists new (i ∷ later)

-- The same of the row and of the links.
abbrev pub TakesToo : List (List ℕ) → ℕ → List ℕ → List ℕ → List ℕ → List ℕ → Type 0
TakesToo lists i row links new found = (later : List ℕ) → IsTaken lists row links later
    → IsTaken lists new found (i ∷ later)

-- Each of these has a path to j.
abbrev pub AllJoin : List (List ℕ) → List ℕ → ℕ → Type 0
AllJoin lists xs j = (k : ℕ) → is_among k xs ≡ true → joins lists k j ≡ true

-- It is one of these, and each other one has a path to it.
abbrev pub IsOnlyLink : List (List ℕ) → List ℕ → ℕ → Type 0
IsOnlyLink lists xs i = (is_among i xs ≡ true) × AllJoin lists xs i

-- Each of these has a path to j, and is not j.
abbrev pub ComeBefore : List (List ℕ) → List ℕ → ℕ → Type 0
ComeBefore lists xs j = (k : ℕ) → is_among k xs ≡ true → (k < j) × (joins lists k j ≡ true)

-- All links of j are among these.
abbrev pub HasLinks : List (List ℕ) → List ℕ → ℕ → Type 0
HasLinks lists xs j = (k : ℕ) → is_among k (links_of lists j) ≡ true → is_among k xs ≡ true

-- k comes before j, and of the links of j it is the next after those that were found, or
-- none of them.
abbrev pub IsFoundWith : List (List ℕ) → ℕ → List ℕ → ℕ → ℕ → ℕ → Type 0
IsFoundWith lists j links k found more =
    ((k < j) × (joins lists k j ≡ true)) × (more ≤ length links)
    × ((more ≡ found) ⊎ ((more ≡ suc found) × (slice_index links found ≡ k)))

-- Each of these comes before the newest action, and they have all its links.
abbrev pub RepeatsNewest : List (List ℕ) → List ℕ → Type 0
RepeatsNewest [] xs = ⊥
RepeatsNewest (p ∷ older) xs =
    ComeBefore (p ∷ older) xs (length older) × HasLinks (p ∷ older) xs (length older)
