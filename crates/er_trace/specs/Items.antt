-- The tokens of a line, before they are bytes.
use Rattle.std.specs.Prelude.{ℕ, ◌<◌, ◌^◌, List, map, decimal}
use Rattle.er_text.specs.Name.{name_spelling, IsName}
use Rattle.er_text.specs.Words.{joined}

pub data Item : Type 0 where
  Word : (bytes : List ℕ) → Item
  Number : (value : ℕ) → Item
  Named : (name : List ℕ) → Item

abbrev pub item_spelling : Item → List ℕ
item_spelling (Word bytes) = bytes
item_spelling (Number n) = decimal n
item_spelling (Named name) = name_spelling name

-- the items with single spaces between
abbrev pub items_spelling : List Item → List ℕ
items_spelling items = joined (map item_spelling items)

-- what has a spelling: a number below 2 ^ 32, a name of 1 to `most_name` bytes
abbrev pub IsItem : Item → Type 0
IsItem (Word bytes) = Unit {0}
IsItem (Number n) = n < 2 ^ 32
IsItem (Named name) = IsName name
