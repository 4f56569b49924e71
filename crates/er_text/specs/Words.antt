-- The words of a line: the parts between single spaces. A line with no space is one word.
use Rattle.std.specs.Prelude.{ℕ, List, [], ◌∷◌, ◌++◌, ◌==◌, if◌then◌else◌, Option, Some, None}
use Rattle.std.specs.List.{onto_first}
use Rattle.std.specs.Borrow.{Bor}
use Rattle.er_text.specs.Bytes.{space}

-- a byte before a line of these words: a space begins a new word
abbrev pub with_byte : ℕ → List (List ℕ) → List (List ℕ)
with_byte b later = if b == space then [] ∷ later else onto_first b later

abbrev pub words : List ℕ → List (List ℕ)
words [] = [] ∷ []
words (b ∷ line) = with_byte b (words line)

-- the words with single spaces between
abbrev pub joined : List (List ℕ) → List ℕ
joined [] = []
joined (word ∷ []) = word
joined (word ∷ next ∷ later) = word ++ space ∷ joined (next ∷ later)

-- the words of what is left of a line, and none after its end
abbrev pub words_left : Option (Bor (List ℕ)) → List (List ℕ)
words_left None = []
words_left (Some rest) = words rest.now
