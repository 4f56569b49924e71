-- The spelling of a name.
use Rattle.std.specs.Prelude.{◌≡◌, ℕ, ◌+◌, ◌-◌, ◌*◌, ◌++◌, ◌<◌, ◌≤◌, ◌/◌, ◌%◌, List, [], ◌∷◌, Bool, not, ◌&&◌, ◌==◌, nat_lt, nat_le, if◌then◌else◌, All, length}
use Rattle.std.specs.List.{flat_map}

-- how many bytes a name has at most
abbrev pub most_name : ℕ
most_name = 255

-- 1 to `most_name` bytes
pub record IsName (name : List ℕ) : Type 0 where
  pub some : 0 < length name
  pub few : length name ≤ most_name
  pub bytes : All (λ b. b < 256) name

-- 0x21 to 0x7E, but `%`
abbrev pub stands_for_itself : ℕ → Bool
stands_for_itself b = nat_le 33 b && nat_le b 126 && not (b == 37)

-- 0 to 9, then A to F
abbrev pub hex_digit : ℕ → ℕ
hex_digit n = if nat_lt n 10 then 48 + n else 55 + n

-- the byte itself, or `%` and two digits
abbrev pub byte_spelling : ℕ → List ℕ
byte_spelling b =
    if stands_for_itself b then b ∷ [] else 37 ∷ hex_digit (b / 16) ∷ hex_digit (b % 16) ∷ []

abbrev pub name_spelling : List ℕ → List ℕ
name_spelling name = flat_map byte_spelling name

-- the number whose digit this is
abbrev pub hex_value : ℕ → ℕ
hex_value c = if nat_lt c 58 then c - 48 else c - 55

-- where a reader of a spelling stands: before a byte, after `%`, after `%` and a digit of
-- this value
pub data Place : Type 0 where
  Before : Place
  Percent : Place
  Digit : (high : ℕ) → Place

abbrev pub next_place : Place → ℕ → Place
next_place Before c = if c == 37 then Percent else Before
next_place Percent c = Digit (hex_value c)
next_place (Digit high) c = Before

-- the byte whose spelling ends here, if one does
abbrev pub byte_ended : Place → ℕ → List ℕ
byte_ended Before c = if c == 37 then [] else c ∷ []
byte_ended Percent c = []
byte_ended (Digit high) c = (16 * high + hex_value c) ∷ []

abbrev pub bytes_from : Place → List ℕ → List ℕ
bytes_from place [] = []
bytes_from place (c ∷ later) = byte_ended place c ++ bytes_from (next_place place c) later

-- the bytes that a spelling spells
abbrev pub spelled : List ℕ → List ℕ
spelled word = bytes_from Before word

-- the word is the spelling of some bytes
pub record IsSpelling (word : List ℕ) : Type 0 where
  pub bytes : All (λ b. b < 256) (spelled word)
  pub same : word ≡ name_spelling (spelled word)

-- the word is the spelling of a name of this many bytes
pub record IsNameWord (word : List ℕ) (count : ℕ) : Type 0 where
  pub spelling : IsSpelling word
  pub counted : length (spelled word) ≡ count
  pub some : 0 < count
  pub few : count ≤ most_name
