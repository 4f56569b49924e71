-- Links: pairs of different actions with a path between them and no third action on it. They are
-- the edges of least number with the same paths.
use Rattle.std.specs.Prelude.{ℕ, zero, suc, ◌+◌, Bool, not, ◌==◌, ◌&&◌, List, [], ◌∷◌, ◌++◌, length}
use Rattle.std.specs.List.{list_any, filter}
use Rattle.er_paths.specs.Paths.{joins}

-- the numbers below n, ascending
abbrev pub numbers_below : ℕ → List ℕ
numbers_below zero = []
numbers_below (suc n) = numbers_below n ++ n ∷ []

-- k is a third action on a path from i to j
abbrev pub is_between : (ℕ → ℕ → Bool) → ℕ → ℕ → ℕ → Bool
is_between joined i j k = (not (k == i) && not (k == j)) && (joined i k && joined k j)

-- there is a path from i to j, and no third of the n actions is on any
abbrev pub link_among : (ℕ → ℕ → Bool) → ℕ → ℕ → ℕ → Bool
link_among joined n i j =
    (not (i == j) && joined i j) && not (list_any (is_between joined i j) (numbers_below n))

-- i and j are a link
abbrev pub is_link : List (List ℕ) → ℕ → ℕ → Bool
is_link lists i j = link_among (joins lists) (length lists) i j

-- the sources of the links into j, ascending
abbrev pub links_of : List (List ℕ) → ℕ → List ℕ
links_of lists j = filter (λ i. is_link lists i j) (numbers_below (length lists))

-- those of the first n actions, newest first
abbrev pub links_to : List (List ℕ) → ℕ → List (List ℕ)
links_to lists zero = []
links_to lists (suc n) = links_of lists n ∷ links_to lists n

-- all links: the sources of those into each action, newest first, so that they are lists of
-- predecessors too
abbrev pub links : List (List ℕ) → List (List ℕ)
links lists = links_to lists (length lists)

-- how many numbers there are in all
abbrev pub total : List (List ℕ) → ℕ
total [] = 0
total (p ∷ older) = length p + total older

-- how many links there are
abbrev pub link_count : List (List ℕ) → ℕ
link_count lists = total (links lists)
