-- The text of items whose strings need no escape, where the gap behind each comma is nothing or one
-- space.
use Rattle.std.specs.Prelude.{◌≡◌, ℕ, ◌<◌, ◌^◌, List, [], ◌∷◌, ◌++◌, decimal, Bool, true, false, not, ◌&&◌, ◌==◌, nat_le}
use Rattle.std.specs.List.{AllByRecursion, list_all}
use Rattle.json.specs.Ascii.{quote, comma, backslash, open_bracket, close_bracket}
use Rattle.er_text.specs.Bytes.{space, line_end}
use Rattle.er_text.specs.Name.{IsName}
use Rattle.er_trace.specs.Items.{Item, Word, Number, Named, IsItem}

-- 0x20 to 0x7E, but the quote and the backslash
abbrev pub needs_no_escape : ℕ → Bool
needs_no_escape b = nat_le 32 b && nat_le b 126 && not (b == quote) && not (b == backslash)

-- between quotes
abbrev pub string_text : List ℕ → List ℕ
string_text s = quote ∷ (s ++ quote ∷ [])

abbrev pub item_text : Item → List ℕ
item_text (Word word) = string_text word
item_text (Number n) = decimal n
item_text (Named name) = string_text name

-- behind a comma
abbrev pub gap : Bool → List ℕ
gap true = space ∷ []
gap false = []

-- each item after a comma and a gap, and the closing bracket
abbrev pub later_text : Bool → List Item → List ℕ
later_text spaced [] = close_bracket ∷ []
later_text spaced (i ∷ items) = comma ∷ (gap spaced ++ (item_text i ++ later_text spaced items))

-- an array of the items
abbrev pub plain_text : Bool → List Item → List ℕ
plain_text spaced [] = open_bracket ∷ close_bracket ∷ []
plain_text spaced (i ∷ items) = open_bracket ∷ (item_text i ++ later_text spaced items)

abbrev pub is_plain_item : Item → Bool
is_plain_item (Word word) = list_all needs_no_escape word
is_plain_item (Number n) = true
is_plain_item (Named name) = list_all needs_no_escape name

-- what a record may have, and no string of it needs an escape
abbrev pub ArePlain : List Item → Type 0
ArePlain items = AllByRecursion IsItem items × (list_all is_plain_item items ≡ true)

-- the bytes are a number and a name that needs no escape, as the last items of a line, and what
-- stands behind the line
pub record AreLast (spaced : Bool) (bytes : List ℕ) (n : ℕ) (name behind : List ℕ) : Type 0 where
  pub small : n < 2 ^ 32
  pub named : IsName name
  pub plain : list_all needs_no_escape name ≡ true
  pub cut : bytes
      ≡ decimal n ++ comma
      ∷ (gap spaced ++ quote ∷ (name ++ quote ∷ close_bracket ∷ line_end ∷ behind))

-- the most bytes of such a line of an access
abbrev pub most_plain_bytes : ℕ
most_plain_bytes = 284
