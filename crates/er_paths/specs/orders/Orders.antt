-- Orders of all actions: which are lawful, and the two orders of two actions that no path joins.
-- An order stands with its first action first. Lists of predecessors stand newest first.
use Rattle.std.specs.Prelude.{ℕ, Bool, true, false, not, ◌==◌, ◌&&◌, ◌||◌, nat_lt, List, [], ◌∷◌, ◌++◌, length}
use Rattle.std.specs.List.{list_any, list_all, filter}
use Rattle.er_paths.specs.Paths.{is_among, list_of}
use Rattle.er_paths.specs.links.Chains.{count_in}
use Rattle.er_paths.specs.links.Links.{numbers_below}

-- how often k stands among these
abbrev pub times : ℕ → List ℕ → ℕ
times k ks = count_in (λ m. m == k) ks

-- each of the numbers below n stands there once, and nothing else does
abbrev pub has_each_once : ℕ → List ℕ → Bool
has_each_once n order =
    list_all (λ k. times k order == 1) (numbers_below n) && list_all (λ k. nat_lt k n) order

-- the relation leads from no member to an earlier one
abbrev pub none_leads_back : (ℕ → ℕ → Bool) → List ℕ → Bool
none_leads_back leads [] = true
none_leads_back leads (k ∷ later) =
    not (list_any (λ m. leads m k) later) && none_leads_back leads later

-- an edge leads from i to j
abbrev pub has_edge : List (List ℕ) → ℕ → ℕ → Bool
has_edge lists i j = is_among i (list_of lists j)

-- A lawful order: all actions, each once, and no edge leads from a later one to an earlier one.
abbrev pub is_lawful : List (List ℕ) → List ℕ → Bool
is_lawful lists order = has_each_once (length lists) order && none_leads_back (has_edge lists) order

-- a path leads from i to j, which is another
abbrev pub leads_on : (ℕ → ℕ → Bool) → ℕ → ℕ → Bool
leads_on joined i j = not (i == j) && joined i j

-- all n actions, each once, and no path leads from a later one to another, earlier one
abbrev pub keeps_paths : (ℕ → ℕ → Bool) → ℕ → List ℕ → Bool
keeps_paths joined n order = has_each_once n order && none_leads_back (leads_on joined) order

abbrev pub begins_with : ℕ → List ℕ → Bool
begins_with j [] = false
begins_with j (k ∷ later) = k == j

-- i stands directly before j
abbrev pub is_next : ℕ → ℕ → List ℕ → Bool
is_next i j [] = false
is_next i j (k ∷ later) = ((k == i) && begins_with j later) || is_next i j later

-- an order that keeps all paths, in which i stands directly before j
abbrev pub is_schedule : (ℕ → ℕ → Bool) → ℕ → List ℕ → ℕ → ℕ → Bool
is_schedule joined n order i j = keeps_paths joined n order && is_next i j order

-- k is neither, and has a path to one of the two
abbrev pub comes_before : (ℕ → ℕ → Bool) → ℕ → ℕ → ℕ → Bool
comes_before joined i j k = (not (k == i) && not (k == j)) && (joined k i || joined k j)

-- k is neither, and has a path to none of the two
abbrev pub comes_after : (ℕ → ℕ → Bool) → ℕ → ℕ → ℕ → Bool
comes_after joined i j k = (not (k == i) && not (k == j)) && not (joined k i || joined k j)

-- the others, ascending: those that have a path to one of the two, and those that have none
abbrev pub others_before : (ℕ → ℕ → Bool) → ℕ → ℕ → ℕ → List ℕ
others_before joined n i j = filter (comes_before joined i j) (numbers_below n)

abbrev pub others_after : (ℕ → ℕ → Bool) → ℕ → ℕ → ℕ → List ℕ
others_after joined n i j = filter (comes_after joined i j) (numbers_below n)

-- i directly before j, behind all that have a path to one of them
abbrev pub before_order : (ℕ → ℕ → Bool) → ℕ → ℕ → ℕ → List ℕ
before_order joined n i j = others_before joined n i j ++ i ∷ j ∷ others_after joined n i j

-- i directly after j
abbrev pub after_order : (ℕ → ℕ → Bool) → ℕ → ℕ → ℕ → List ℕ
after_order joined n i j = others_before joined n i j ++ j ∷ i ∷ others_after joined n i j
