-- The lines of a text: what stands in one, and one behind the other.
use Rattle.std.specs.Prelude.{ℕ, ◌+◌, List, [], ◌∷◌, ◌++◌}
use Rattle.er_trace.specs.Items.{Item, Word, Number, item_spelling, items_spelling}
use Rattle.er_trace.specs.Trace.{line}

-- an item and the space behind it
unfoldable pub item_start : Item → List ℕ
item_start item = item_spelling item ++ 32 ∷ []

-- the line of some items
unfoldable pub item_line : List Item → List ℕ
item_line items = line (items_spelling items)

-- `actions N` and the like
abbrev pub count_line : List ℕ → ℕ → List ℕ
count_line name n = item_line (Word name ∷ Number n ∷ [])

-- a line for each member, with the numbers from k on
abbrev pub lines_from : {A : Type 0} → (ℕ → A → List ℕ) → ℕ → List A → List ℕ
lines_from line_of k [] = []
lines_from line_of k (x ∷ xs) = line_of k x ++ lines_from line_of (k + 1) xs
