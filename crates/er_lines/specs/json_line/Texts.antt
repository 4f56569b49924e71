-- The line of a trace that members are written as, before it is asked which record it spells.
use Rattle.std.specs.Prelude.{ℕ, ◌<◌, ◌^◌, List, [], ◌∷◌, decimal, Bool, true, false, is_some, IsUtf8}
use Rattle.std.specs.List.{AllByRecursion, flat_map}
use Rattle.serde_json.specs.Data.{Num, unsigned, negative, float, Data, null, boolean, number, string, array, object}
use Rattle.serde_json.specs.Find.{as_number}
use Rattle.er_text.specs.Bytes.{space}
use Rattle.er_text.specs.Name.{name_spelling, IsName}
use Rattle.er_trace.specs.Items.{Item, Word, Number, Named}

abbrev pub num_word : Num → List ℕ
num_word (unsigned n) = decimal n
num_word (negative z) = []
num_word (float x) = []

-- the word that a member is written as: a string as a name is spelled, a number in decimal
abbrev pub member_word : Data → List ℕ
member_word (string s) = name_spelling s
member_word (number n) = num_word n
member_word null = []
member_word (boolean b) = []
member_word (array ds) = []
member_word (object ms) = []

abbrev pub IsNum : Num → Type 0
IsNum (unsigned n) = n < 2 ^ 32
IsNum (negative z) = ⊥
IsNum (float x) = ⊥

-- it has a word: a string that a name can have, or a number that a record can have
abbrev pub HasWord : Data → Type 0
HasWord (string s) = IsName s
HasWord (number n) = IsNum n
HasWord null = ⊥
HasWord (boolean b) = ⊥
HasWord (array ds) = ⊥
HasWord (object ms) = ⊥

abbrev pub HaveWords : List Data → Type 0
HaveWords members = AllByRecursion HasWord members

-- a string is UTF-8
abbrev pub IsText : Data → Type 0
IsText (string s) = IsUtf8 s
IsText (number n) = Unit {0}
IsText null = Unit {0}
IsText (boolean b) = Unit {0}
IsText (array ds) = Unit {0}
IsText (object ms) = Unit {0}

abbrev pub AreTexts : List Data → Type 0
AreTexts members = AllByRecursion IsText members

-- a space and the word
abbrev pub next_word : Data → List ℕ
next_word member = space ∷ member_word member

-- the words, each after a space
abbrev pub text_of : List Data → List ℕ
text_of members = flat_map next_word members

-- whether a member is a number, and whether an item is
abbrev pub is_count : Data → Bool
is_count member = is_some (as_number member)

abbrev pub is_number : Item → Bool
is_number (Word word) = false
is_number (Number n) = true
is_number (Named name) = false
