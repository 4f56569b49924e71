-- Paths over lists of predecessors. The lists stand newest first, one an action: the list of action
-- j has the actions with an edge to j.
use Rattle.std.specs.Prelude.{◌≡◌, ℕ, Bool, true, false, ◌==◌, ◌||◌, List, [], ◌∷◌, length, if◌then◌else◌}
use Rattle.std.specs.List.{list_any}

-- k is one of these
abbrev pub is_among : ℕ → List ℕ → Bool
is_among k ks = list_any (λ m. m == k) ks

-- a path leads from i to j: the newest is joined from itself, and from where one of its
-- list is joined
abbrev pub joins : List (List ℕ) → ℕ → ℕ → Bool
joins [] i j = false
joins (p ∷ older) i j =
    if j == length older then (i == j) || list_any (λ k. joins older i k) p else joins older i j

-- the list of action j
abbrev pub list_of : List (List ℕ) → ℕ → List ℕ
list_of [] j = []
list_of (p ∷ older) j = if j == length older then p else list_of older j

-- from i these steps lead to j, each by an edge
abbrev pub Leads : List (List ℕ) → ℕ → List ℕ → ℕ → Type 0
Leads lists i [] j = i ≡ j
Leads lists i (k ∷ steps) j = (is_among i (list_of lists k) ≡ true) × Leads lists k steps j
