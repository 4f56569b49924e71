-- What holds of orders.
use Rattle.std.specs.Prelude.{◌≡◌, ℕ, ◌<◌, Bool, true, false, List, length}
use Rattle.er_paths.specs.Paths.{joins}
use Rattle.er_paths.specs.Laws.{GoForward}
use Rattle.er_paths.specs.links.Links.{links}
use Rattle.er_paths.specs.orders.Orders.{is_lawful, keeps_paths, is_next, before_order, after_order}

-- two actions, the first begun earlier, with no path from it to the second
pub record AreApart (lists : List (List ℕ)) (i j : ℕ) : Type 0 where
  pub earlier : i < j
  pub begun : j < length lists
  pub no_path : joins lists i j ≡ false

-- Where edges go forward, both orders of two such actions are lawful.
abbrev pub BothOrdersAreLawful : Type 0
BothOrdersAreLawful = (lists : List (List ℕ)) (i j : ℕ) → GoForward lists → AreApart lists i j
    → (is_lawful lists (before_order (joins lists) (length lists) i j) ≡ true)
    × (is_lawful lists (after_order (joins lists) (length lists) i j) ≡ true)

-- In the one i stands directly before j, in the other directly after it.
abbrev pub BothOrdersAreShown : Type 0
BothOrdersAreShown = (joined : ℕ → ℕ → Bool) (n i j : ℕ)
    → (is_next i j (before_order joined n i j) ≡ true)
    × (is_next j i (after_order joined n i j) ≡ true)

-- An order is lawful exactly where no path leads back in it.
abbrev pub LawfulOrdersKeepPaths : Type 0
LawfulOrdersKeepPaths = (lists : List (List ℕ)) (order : List ℕ) → GoForward lists
    → is_lawful lists order ≡ keeps_paths (joins lists) (length lists) order

-- So the links alone decide.
abbrev pub LinksDecide : Type 0
LinksDecide = (lists : List (List ℕ)) (order : List ℕ)
    → is_lawful (links lists) order ≡ keeps_paths (joins lists) (length lists) order
