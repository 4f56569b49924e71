-- The two orders of a race. An order stands with its first action first; lists of predecessors
-- stand newest first.
use Rattle.std.specs.Prelude.{◌≡◌, ℕ, Bool, true, List}
use Rattle.er_paths.specs.orders.Orders.{is_lawful, before_order, after_order}

-- two orders of all actions
pub record Orders : Type 0 where
  pub first : List ℕ
  pub second : List ℕ

-- in the first i stands directly before j, in the second directly after it
abbrev pub orders_of : (ℕ → ℕ → Bool) → ℕ → ℕ → ℕ → Orders
orders_of joined n i j =
    record { first = before_order joined n i j; second = after_order joined n i j }

-- both are lawful
pub record AreLawful (lists : List (List ℕ)) (orders : Orders) : Type 0 where
  pub first : is_lawful lists orders.first ≡ true
  pub second : is_lawful lists orders.second ≡ true
