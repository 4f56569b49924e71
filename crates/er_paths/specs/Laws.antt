-- What holds of paths.
use Rattle.std.specs.Prelude.{◌≡◌, ◌↔◌, ℕ, ◌<◌, ◌≤◌, true, List, [], ◌∷◌, ◌++◌, length}
use Rattle.std.specs.List.{list_any}
use Rattle.er_paths.specs.Paths.{joins, is_among, list_of, Leads}

-- each list has earlier actions alone
abbrev pub GoForward : List (List ℕ) → Type 0
GoForward lists = (i j : ℕ) → is_among i (list_of lists j) ≡ true → i < j

-- There is a path exactly where a list of steps leads from i to j, each by an edge.
abbrev pub PathsAreSteps : Type 0
PathsAreSteps = (lists : List (List ℕ)) (i j : ℕ) → GoForward lists → j < length lists
    → (joins lists i j ≡ true) ↔ ((steps : List ℕ) × Leads lists i steps j)

-- A path and a path behind it are a path.
abbrev pub PathsCompose : Type 0
PathsCompose = (lists : List (List ℕ)) (i k j : ℕ) → joins lists i k ≡ true → joins lists k j ≡ true
    → joins lists i j ≡ true

-- Paths go forward, among the actions that there are.
abbrev pub PathsGoForward : Type 0
PathsGoForward = (lists : List (List ℕ)) (i j : ℕ) → joins lists i j ≡ true
    → (i ≤ j) × (j < length lists)

-- An action joins itself.
abbrev pub PathsStand : Type 0
PathsStand = (lists : List (List ℕ)) (i : ℕ) → i < length lists → joins lists i i ≡ true

-- Later lists change no path among the earlier.
abbrev pub PathsStay : Type 0
PathsStay = (more lists : List (List ℕ)) (i j : ℕ) → j < length lists
    → joins (more ++ lists) i j ≡ joins lists i j

-- Handed numbers beside whole lists: each handed number is of the list, and from each number of the
-- list a path leads to a handed one.
abbrev pub IsEnough : List (List ℕ) → List (List ℕ) → Type 0
IsEnough [] [] = Unit {0}
IsEnough (handed ∷ rest) (all ∷ older) = IsEnough rest older
    × ((k : ℕ) → is_among k handed ≡ true → is_among k all ≡ true)
    × ((i : ℕ) → is_among i all ≡ true → list_any (λ k. joins older i k) handed ≡ true)
IsEnough _ _ = ⊥

-- Then the paths are the same.
abbrev pub HandedPaths : Type 0
HandedPaths = (handed lists : List (List ℕ)) (i j : ℕ) → IsEnough handed lists
    → joins handed i j ≡ joins lists i j
