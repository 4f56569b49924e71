-- Worked rows: small lists of predecessors, newest first, with two orders, and orders
-- that are none.
use Rattle.std.specs.Prelude.{◌≡◌, ℕ, Bool, true, false, List, [], ◌∷◌, length}
use Rattle.er_paths.specs.Paths.{joins}
use Rattle.er_paths.specs.orders.Orders.{is_lawful, is_schedule, before_order, after_order}

-- the two orders of these actions
pub record HasOrders (lists : List (List ℕ)) (i j : ℕ) (first second : List ℕ) : Type 0 where
  pub first_is : before_order (joins lists) (length lists) i j ≡ first
  pub second_is : after_order (joins lists) (length lists) i j ≡ second

-- a step, a script and two timeouts that it sets
abbrev pub two_timeouts : List (List ℕ)
two_timeouts = (1 ∷ []) ∷ (1 ∷ []) ∷ (0 ∷ []) ∷ [] ∷ []

-- each of two timeouts sets one more
abbrev pub two_pairs : List (List ℕ)
two_pairs = (4 ∷ []) ∷ (1 ∷ []) ∷ (2 ∷ []) ∷ (1 ∷ []) ∷ (0 ∷ []) ∷ [] ∷ []

abbrev pub WorkedOrders : Type 0
WorkedOrders = HasOrders two_timeouts 2 3 (0 ∷ 1 ∷ 2 ∷ 3 ∷ []) (0 ∷ 1 ∷ 3 ∷ 2 ∷ [])
    × HasOrders two_pairs 2 5 (0 ∷ 1 ∷ 4 ∷ 2 ∷ 5 ∷ 3 ∷ []) (0 ∷ 1 ∷ 4 ∷ 5 ∷ 2 ∷ 3 ∷ [])

-- this order of the two timeouts is one in which action 2 stands directly before action
-- 3, or is none
abbrev pub is_told : List ℕ → Bool → Type 0
is_told order told = is_schedule (joins two_timeouts) 4 order 2 3 ≡ told

abbrev pub WorkedSchedules : Type 0
WorkedSchedules = is_told (0 ∷ 1 ∷ 2 ∷ 3 ∷ []) true × is_told (0 ∷ 1 ∷ 3 ∷ 2 ∷ []) false
    × is_told (1 ∷ 0 ∷ 2 ∷ 3 ∷ []) false × is_told (0 ∷ 1 ∷ 2 ∷ []) false
    × is_told (0 ∷ 1 ∷ 2 ∷ 3 ∷ 1 ∷ []) false × is_told (0 ∷ 1 ∷ 2 ∷ 3 ∷ 4 ∷ []) false

-- moving an action before another without what has a path to it breaks an edge
abbrev pub WorkedLaws : Type 0
WorkedLaws = (is_lawful two_pairs (0 ∷ 1 ∷ 4 ∷ 5 ∷ 2 ∷ 3 ∷ []) ≡ true)
    × (is_lawful two_pairs (0 ∷ 1 ∷ 5 ∷ 2 ∷ 3 ∷ 4 ∷ []) ≡ false)
