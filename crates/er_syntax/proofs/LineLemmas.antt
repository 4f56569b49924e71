-- The parts of a line, as they are written.
use Rattle.std.proofs.Common.{◌≡◌, ℕ, List, [], ◌∷◌, ◌++◌, refl, append_assoc, decimal}
use Rattle.er_trace.specs.Spelling.{loc_items, loc_spelling}
use Rattle.er_trace.specs.Items.{Item, Word, Number}
use Rattle.er_trace.specs.declared.record.Loc.{Loc}
use Rattle.er_trace.specs.declared.record.Loc.TheVariants.{Var, Elem, Slot}
use Rattle.er_syntax.specs.Lines.{item_start, item_line, count_line}

pub word_start : (word : List ℕ) → item_start (Word word) ≡ word ++ 32 ∷ []
unfolding item_start
word_start word = refl

pub number_start : (n : ℕ) → item_start (Number n) ≡ decimal n ++ 32 ∷ []
unfolding item_start
number_start n = refl

pub modes_start : (a b : List ℕ) → item_start (Word (a ++ b)) ≡ a ++ b ++ 32 ∷ []
unfolding item_start
modes_start a b = simp append_assoc

pub number_line : (n : ℕ) → item_line (Number n ∷ []) ≡ decimal n ++ 10 ∷ []
unfolding item_line
number_line n = refl

pub word_line : (word : List ℕ) → item_line (Word word ∷ []) ≡ word ++ 10 ∷ []
unfolding item_line
word_line word = refl

pub loc_line : (l : Loc) → item_line (loc_items l) ≡ loc_spelling l ++ 10 ∷ []
unfolding item_line
loc_line l = refl

-- an item, a space, and the line of the others
pub first_item : (x y : Item) (rest : List Item) → item_line (x ∷ y ∷ rest) ≡ item_start x ++ item_line (y ∷ rest)
unfolding item_line item_start
first_item x y rest = simp append_assoc

pub item_before_loc : (x : Item) (l : Loc) → item_line (x ∷ loc_items l) ≡ item_start x ++ item_line (loc_items l)
item_before_loc x (Var o n) = first_item x _ _
item_before_loc x (Elem d n) = first_item x _ _
item_before_loc x (Slot e n) = first_item x _ _

pub count_parts : (name : List ℕ) (n : ℕ) → count_line name n ≡ item_start (Word name) ++ item_line (Number n ∷ [])
count_parts name n = first_item _ _ _
