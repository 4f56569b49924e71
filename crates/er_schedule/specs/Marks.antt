-- How an order is gone through: each action that came is marked.
use Rattle.std.specs.Prelude.{ℕ, Bool, true, false, not, ◌&&◌, nat_lt, List, [], ◌∷◌, length, slice_index_or, slice_set}
use Rattle.std.specs.List.{list_all}

abbrev pub is_marked : List Bool → ℕ → Bool
is_marked marks k = slice_index_or marks k false

-- k is an action that did not come yet, and all its sources came
abbrev pub may_come : (ℕ → List ℕ) → List Bool → ℕ → Bool
may_come sources marks k =
    nat_lt k (length marks) && (not (is_marked marks k) && list_all (is_marked marks) (sources k))

-- from these marks on each member of the order may come, and at the end all are marked
abbrev pub all_come : (ℕ → List ℕ) → List Bool → List ℕ → Bool
all_come sources marks [] = list_all (λ (b : Bool). b) marks
all_come sources marks (k ∷ later) =
    may_come sources marks k && all_come sources (slice_set marks k true) later
