-- Members against the items of a record.
use Rattle.std.proofs.Common.{◌≡◌, ℕ, zero, suc, ◌<◌, ◌≤◌, ◌^◌, List, [], ◌∷◌, ◌++◌, length, drop, get_or, map, Bool, true, false, ◌&&◌, Some, refl, ap, sym, ◌∙◌, subst, arith, lit<, lit≤, append-nil}
use Rattle.std.specs.Prelude.{nat_lt, nat_le, decimal, All, option_and_then, IsUtf8}
use Rattle.std.specs.List.{AllByRecursion, list_all}
use Rattle.std.proofs.lemmas.Fmt.{decimal_injective}
use Rattle.std.proofs.lemmas.Bool.Decides.{nat_tests}
use Rattle.std.proofs.lemmas.Grind.{common_steps}
use Rattle.serde_json.specs.Data.{unsigned, negative, float, Data, null, boolean, number, string, array, object}
use Rattle.serde_json.specs.Find.{as_str, as_number, as_u64}
use Rattle.er_text.specs.Bytes.{space, has_no_space}
use Rattle.er_text.specs.Words.{words, joined}
use Rattle.er_text.specs.Name.{IsName, name_spelling, byte_spelling, stands_for_itself, most_name}
use Rattle.er_text.proofs.WordLaws.{words-joined}
use Rattle.er_text.proofs.NumberLaws.{lacks-decimal}
use Rattle.er_text.proofs.NameLaws.{lacks-name_spelling, name_spelling_injective}
use Rattle.er_trace.specs.Items.{Item, Word, Number, Named, IsItem, item_spelling}
use Rattle.er_lines.specs.json_line.Members.{IsMember, AreMembers}
use Rattle.er_lines.specs.json_line.Texts.{member_word, text_of, HasWord, HaveWords, IsText, AreTexts, is_count, is_number}

-- a fixed word, which is spelled as the name with its bytes
abbrev pub is_plain : Item → Bool
is_plain (Word word) = list_all stands_for_itself word && (nat_lt 0 (length word) && nat_le (length word) most_name)
is_plain (Number n) = true
is_plain (Named name) = true

abbrev pub are_plain : List Item → Bool
are_plain items = list_all is_plain items

itself : (word : List ℕ) → list_all stands_for_itself word ≡ true → name_spelling word ≡ word
itself [] h = refl
itself (b ∷ word) h =
    let here : stands_for_itself b ≡ true = grind (arith, common_steps) in
    let later : name_spelling word ≡ word = itself word (grind (arith, common_steps)) in
    let one : byte_spelling b ≡ b ∷ [] = rw here refl in
    rw (one, later) refl

below : (b : ℕ) → stands_for_itself b ≡ true → b < 256
below b h = grind (arith, nat_tests)

below_at : (word : List ℕ) (k d : ℕ) → list_all stands_for_itself word ≡ true → k < length word → get_or word k d < 256
below_at [] k d h within = absurd (omega arith)
below_at (b ∷ word) zero d h within = below b (grind (arith, common_steps))
below_at (b ∷ word) (suc k) d h within = below_at word k d (grind (arith, common_steps)) (omega arith)

each_below : (word : List ℕ) → list_all stands_for_itself word ≡ true → All (λ b. b < 256) word
each_below word h = λ k d within. below_at word k d h within

-- a fixed word is a name, and is spelled as itself
plain_word : (word : List ℕ) → is_plain (Word word) ≡ true → IsName word × (name_spelling word ≡ word)
plain_word word h =
    let itself_all : list_all stands_for_itself word ≡ true = grind (arith, common_steps) in
    let some : 0 < length word = grind (arith, nat_tests) in
    let few : length word ≤ most_name = grind (arith, nat_tests) in
    (record { some = some; few = few; bytes = each_below word itself_all }, itself word itself_all)

-- what an item's member is written as
pub record IsWritten (i : Item) (d : Data) : Type 0 where
  pub has : HasWord d
  pub word : member_word d ≡ item_spelling i
  pub kind : is_count d ≡ is_number i

written_word : (word : List ℕ) (d : Data) → as_str d ≡ Some word → is_plain (Word word) ≡ true → IsWritten (Word word) d
written_word word (string s) is plain =
    let e : s ≡ word = cc in
    let p : IsName word × (name_spelling word ≡ word) = plain_word word plain in
    record { has = subst IsName (sym e) p.0; word = ap name_spelling e ∙ p.1; kind = refl }
written_word word (number n) is plain = absurd (cc)
written_word word null is plain = absurd (cc)
written_word word (boolean b) is plain = absurd (cc)
written_word word (array ds) is plain = absurd (cc)
written_word word (object ms) is plain = absurd (cc)

written_name : (name : List ℕ) (d : Data) → as_str d ≡ Some name → IsName name → IsWritten (Named name) d
written_name name (string s) is named =
    let e : s ≡ name = cc in
    record { has = subst IsName (sym e) named; word = ap name_spelling e; kind = refl }
written_name name (number n) is named = absurd (cc)
written_name name null is named = absurd (cc)
written_name name (boolean b) is named = absurd (cc)
written_name name (array ds) is named = absurd (cc)
written_name name (object ms) is named = absurd (cc)

written_number : (n : ℕ) (d : Data) → option_and_then as_u64 (as_number d) ≡ Some n → n < 2 ^ 32 → IsWritten (Number n) d
written_number n (number (unsigned m)) is small =
    let e : m ≡ n = cc in
    record { has = subst (λ (k : ℕ). k < 2 ^ 32) (sym e) small; word = ap decimal e; kind = refl }
written_number n (number (negative z)) is small = absurd (cc)
written_number n (number (float x)) is small = absurd (cc)
written_number n (string s) is small = absurd (cc)
written_number n null is small = absurd (cc)
written_number n (boolean b) is small = absurd (cc)
written_number n (array ds) is small = absurd (cc)
written_number n (object ms) is small = absurd (cc)

written_item : (i : Item) (d : Data) → IsMember i d → IsItem i → is_plain i ≡ true → IsWritten i d
written_item (Word word) d is item plain = written_word word d is plain
written_item (Number n) d is item plain = written_number n d is item
written_item (Named name) d is item plain = written_name name d is.1 item

pub record AreWritten (items : List Item) (ds : List Data) : Type 0 where
  pub have : HaveWords ds
  pub words : map member_word ds ≡ map item_spelling items
  pub kinds : map is_count ds ≡ map is_number items

-- what items' members are written as
pub written : (items : List Item) (ds : List Data) → AreMembers items ds → AllByRecursion IsItem items → are_plain items ≡ true → AreWritten items ds
written [] [] are each plain = record { have = tt; words = refl; kinds = refl }
written [] (d ∷ ds) are each plain = elim are [ ]
written (i ∷ items) [] are each plain = elim are [ ]
written (i ∷ items) (d ∷ ds) are each plain =
    let here : IsWritten i d = written_item i d are.0 each.0 (grind (arith, common_steps)) in
    let later : AreWritten items ds = written items ds are.1 each.1 (grind (arith, common_steps)) in
    let word : member_word d ≡ item_spelling i = here.word in
    let kind : is_count d ≡ is_number i = here.kind in
    let words : map member_word ds ≡ map item_spelling items = later.words in
    let kinds : map is_count ds ≡ map is_number items = later.kinds in
    record { have = (here.has, later.have); words = cc; kinds = cc }

-- back from the words

back_word : (word : List ℕ) (d : Data) → member_word d ≡ word → is_count d ≡ false → HasWord d → is_plain (Word word) ≡ true → as_str d ≡ Some word
back_word word (string s) e kind has plain =
    let p : IsName word × (name_spelling word ≡ word) = plain_word word plain in
    ap Some (name_spelling_injective s word has.bytes p.0.bytes (e ∙ sym p.1))
back_word word (number n) e kind has plain = absurd (cc)
back_word word null e kind has plain = elim has [ ]
back_word word (boolean b) e kind has plain = elim has [ ]
back_word word (array ds) e kind has plain = elim has [ ]
back_word word (object ms) e kind has plain = elim has [ ]

back_name : (name : List ℕ) (d : Data) → member_word d ≡ name_spelling name → is_count d ≡ false → HasWord d → IsText d → IsName name → IsMember (Named name) d
back_name name (string s) e kind has utf8 named =
    let same : s ≡ name = name_spelling_injective s name has.bytes named.bytes e in
    (subst IsUtf8 same utf8, ap Some same)
back_name name (number n) e kind has utf8 named = absurd (cc)
back_name name null e kind has utf8 named = elim has [ ]
back_name name (boolean b) e kind has utf8 named = elim has [ ]
back_name name (array ds) e kind has utf8 named = elim has [ ]
back_name name (object ms) e kind has utf8 named = elim has [ ]

back_number : (n : ℕ) (d : Data) → member_word d ≡ decimal n → is_count d ≡ true → HasWord d → n < 2 ^ 32 → option_and_then as_u64 (as_number d) ≡ Some n
back_number n (number (unsigned m)) e kind has small =
    let wide_m : m < 2 ^ 64 = omega (arith, has) in
    let wide_n : n < 2 ^ 64 = omega (arith, small) in
    ap Some (decimal_injective m n wide_m wide_n e)
back_number n (number (negative z)) e kind has small = elim has [ ]
back_number n (number (float x)) e kind has small = elim has [ ]
back_number n (string s) e kind has small = absurd (cc)
back_number n null e kind has small = elim has [ ]
back_number n (boolean b) e kind has small = elim has [ ]
back_number n (array ds) e kind has small = elim has [ ]
back_number n (object ms) e kind has small = elim has [ ]

back_item : (i : Item) (d : Data) → member_word d ≡ item_spelling i → is_count d ≡ is_number i → HasWord d → IsText d → IsItem i → is_plain i ≡ true → IsMember i d
back_item (Word word) d e kind has utf8 item plain = back_word word d e kind has plain
back_item (Number n) d e kind has utf8 item plain = back_number n d e kind has item
back_item (Named name) d e kind has utf8 item plain = back_name name d e kind has utf8 item

-- members whose words are those of the items, with the numbers in the same places, are the items
pub back : (items : List Item) (ds : List Data) → map member_word ds ≡ map item_spelling items → map is_count ds ≡ map is_number items → HaveWords ds → AreTexts ds → AllByRecursion IsItem items → are_plain items ≡ true → AreMembers items ds
back [] [] words kinds have texts each plain = tt
back [] (d ∷ ds) words kinds have texts each plain = absurd (cc)
back (i ∷ items) [] words kinds have texts each plain = absurd (cc)
back (i ∷ items) (d ∷ ds) words kinds have texts each plain =
    let word : member_word d ≡ item_spelling i = cc in
    let kind : is_count d ≡ is_number i = cc in
    let later_words : map member_word ds ≡ map item_spelling items = cc in
    let later_kinds : map is_count ds ≡ map is_number items = cc in
    let here : is_plain i ≡ true = grind (arith, common_steps) in
    let later : are_plain items ≡ true = grind (arith, common_steps) in
    (back_item i d word kind have.0 texts.0 each.0 here, back items ds later_words later_kinds have.1 texts.1 each.1 later)

-- the text of the words

-- behind the first space
abbrev pub line_of : List Data → List ℕ
line_of ds = drop 1 (text_of ds)

pub line_joined : (d : Data) (ds : List Data) → line_of (d ∷ ds) ≡ joined (map member_word (d ∷ ds))
line_joined d [] = append-nil (member_word d)
line_joined d (e ∷ ds) = ap (λ l. member_word d ++ space ∷ l) (line_joined e ds)

word_clear : (d : Data) → HasWord d → has_no_space (member_word d) ≡ true
word_clear (string s) has = lacks-name_spelling 32 s (lit≤ tt)
word_clear (number (unsigned n)) has = lacks-decimal 32 n (lit< tt) (omega (arith, has))
word_clear (number (negative z)) has = elim has [ ]
word_clear (number (float x)) has = elim has [ ]
word_clear null has = elim has [ ]
word_clear (boolean b) has = elim has [ ]
word_clear (array ds) has = elim has [ ]
word_clear (object ms) has = elim has [ ]

words_clear : (ds : List Data) → HaveWords ds → list_all has_no_space (map member_word ds) ≡ true
words_clear [] have = refl
words_clear (d ∷ ds) have = grind (arith, common_steps, word_clear d have.0, words_clear ds have.1)

-- the words of the line are those of the members
pub words_of_line : (d : Data) (ds : List Data) → HaveWords (d ∷ ds) → words (line_of (d ∷ ds)) ≡ map member_word (d ∷ ds)
words_of_line d ds have = ap words (line_joined d ds) ∙ words-joined (member_word d) (map member_word ds) (words_clear (d ∷ ds) have)
