-- The spelling of a name.
use Rattle.std.proofs.Common.{◌≡◌, ℕ, true, ◌*◌, ◌+◌, ◌/◌, ◌%◌, ◌<◌, ◌≤◌, List, [], ◌∷◌, ◌++◌, length, take, get_or, refl, ap, sym, ◌∙◌, arith, append_assoc, append-nil, length-append}
use Rattle.std.specs.Prelude.{◌≢◌}
use Rattle.std.specs.List.{All}
use Rattle.std.proofs.lemmas.Bool.Decides.{nat_tests}
use Rattle.std.proofs.lemmas.List.{append_cancel_left, nil_from_length, take_more}
use Rattle.std.proofs.lemmas.List.Elements.{All-head, All-tail, All-nil, All-push}
use Rattle.std.proofs.lemmas.Grind.{common_steps}
use Rattle.er_text.specs.Bytes.{lacks}
use Rattle.er_text.proofs.ByteLaws.{lacks-append}
use Rattle.er_text.specs.Name.{IsName, most_name, hex_digit, hex_value, byte_spelling, name_spelling, spelled, IsSpelling, IsNameWord}

abbrev pub AreBytes : List ℕ → Type 0
AreBytes bytes = All (λ b. b < 256) bytes

value_of_hex_digit : (n : ℕ) → n < 16 → hex_value (hex_digit n) ≡ n
value_of_hex_digit n small = grind (arith, nat_tests)

-- the first byte's spelling, before others
pub spelled_byte : (b : ℕ) (rest : List ℕ) → b < 256 → spelled (byte_spelling b ++ rest) ≡ b ∷ spelled rest
spelled_byte b rest small = grind (arith, nat_tests, value_of_hex_digit (b / 16), value_of_hex_digit (b % 16))

pub spelled-append : (name rest : List ℕ) → AreBytes name → spelled (name_spelling name ++ rest) ≡ name ++ spelled rest
spelled-append [] rest small = refl
spelled-append (b ∷ name) rest small =
    rw append_assoc (spelled_byte b (name_spelling name ++ rest) (All-head (λ x. x < 256) b name small)
    ∙ ap (λ later. b ∷ later) (spelled-append name rest (All-tail (λ x. x < 256) b name small)))

pub spelled-spelling : (name : List ℕ) → AreBytes name → spelled (name_spelling name) ≡ name
spelled-spelling name small = (ap spelled (sym (append-nil (name_spelling name))) ∙ spelled-append name [] small) ∙ append-nil name

pub name_spelling-append : (a b : List ℕ) → name_spelling (a ++ b) ≡ name_spelling a ++ name_spelling b
name_spelling-append [] b = refl
name_spelling-append (x ∷ a) b = ap (λ later. byte_spelling x ++ later) (name_spelling-append a b) ∙ sym (append_assoc (byte_spelling x) (name_spelling a) (name_spelling b))

-- no byte's spelling stands first
abbrev pub HasNoByte : List ℕ → Type 0
HasNoByte rest = (b : ℕ) (later : List ℕ) → b < 256 → rest ≢ byte_spelling b ++ later

no_bytes : (rest name : List ℕ) → HasNoByte rest → AreBytes name → rest ≡ name_spelling name → name ≡ []
no_bytes rest [] none small e = refl
no_bytes rest (b ∷ name) none small e = absurd (none b (name_spelling name) (All-head (λ x. x < 256) b name small) e)

pub spelling_ended : (rest : List ℕ) → IsSpelling rest → HasNoByte rest → spelled rest ≡ []
spelling_ended rest h none = no_bytes rest (spelled rest) none h.bytes h.same

pub spelling_later : (b : ℕ) (rest later : List ℕ) → b < 256 → rest ≡ byte_spelling b ++ later → IsSpelling rest → IsSpelling later
spelling_later b rest later small e h =
    let first : spelled rest ≡ b ∷ spelled later = ap spelled e ∙ spelled_byte b later small in
    let bytes : AreBytes (b ∷ spelled later) = rw first at h.bytes in
    let all : byte_spelling b ++ later ≡ byte_spelling b ++ name_spelling (spelled later) = (sym e ∙ h.same) ∙ ap name_spelling first in
    record {
      bytes = All-tail (λ x. x < 256) b (spelled later) bytes;
      same = append_cancel_left (byte_spelling b) later (name_spelling (spelled later)) all;
    }

-- the word is the spelling of `count` bytes, and the rest
pub record ReadsBytes (word : List ℕ) (count : ℕ) (rest : List ℕ) : Type 0 where
  pub done : List ℕ
  pub bytes : AreBytes done
  pub counted : length done ≡ count
  pub same : word ≡ name_spelling done ++ rest

pub reads_none : (word : List ℕ) → ReadsBytes word 0 word
reads_none word = record { done = []; bytes = All-nil (λ x. x < 256); counted = refl; same = refl }

pub reads_more : (word : List ℕ) (count b : ℕ) (rest later : List ℕ) → ReadsBytes word count rest → b < 256 → rest ≡ byte_spelling b ++ later → ReadsBytes word (count + 1) later
reads_more word count b rest later h small e = record {
  done = h.done ++ b ∷ [];
  bytes = All-push (λ x. x < 256) h.done b h.bytes small;
  counted = grind (arith, common_steps, h.counted);
  same = (h.same ∙ ap (λ r. name_spelling h.done ++ r) e)
      ∙ (sym (append_assoc (name_spelling h.done) (byte_spelling b) later)
      ∙ ap (λ front. front ++ later) (sym (name_spelling-append h.done (b ∷ []) ∙ ap (λ one. name_spelling h.done ++ one) (append-nil (byte_spelling b)))));
}

pub reads_all : (word : List ℕ) (count : ℕ) (rest : List ℕ) → ReadsBytes word count rest → length rest ≡ 0 → 0 < count → count ≤ most_name → IsNameWord word count
reads_all word count rest h end some few =
    let nothing : rest ≡ [] = grind (arith, common_steps) in
    let e : word ≡ name_spelling h.done = (h.same ∙ ap (λ r. name_spelling h.done ++ r) nothing) ∙ append-nil (name_spelling h.done) in
    let all : spelled word ≡ h.done = ap spelled e ∙ spelled-spelling h.done h.bytes in
    record {
      spelling = record { bytes = rw all h.bytes; same = rw all e };
      counted = rw all h.counted;
      some = some;
      few = few;
    }

AreBytes-right : (a b : List ℕ) → AreBytes (a ++ b) → AreBytes b
AreBytes-right [] b small = small
AreBytes-right (x ∷ a) b small = AreBytes-right a b (All-tail (λ y. y < 256) x (a ++ b) small)

-- what is left where the word is a name's spelling
rest_of_name : (word : List ℕ) (count : ℕ) (rest name : List ℕ) → ReadsBytes word count rest → AreBytes name → word ≡ name_spelling name
    → IsSpelling rest × (length name ≡ count + length (spelled rest))
rest_of_name word count rest name h small e =
    let n : name ≡ h.done ++ spelled rest = (sym (spelled-spelling name small) ∙ ap spelled (sym e ∙ h.same)) ∙ spelled-append h.done rest h.bytes in
    let all : name_spelling h.done ++ rest ≡ name_spelling h.done ++ name_spelling (spelled rest) = ((sym h.same ∙ e) ∙ ap name_spelling n) ∙ name_spelling-append h.done (spelled rest) in
    let both : AreBytes (h.done ++ spelled rest) = rw n at small in (
      record {
        bytes = AreBytes-right h.done (spelled rest) both;
        same = append_cancel_left (name_spelling h.done) rest (name_spelling (spelled rest)) all;
      },
      omega (arith, ap length n, length-append h.done (spelled rest), h.counted),
    )

nothing_spelled : (rest : List ℕ) → IsSpelling rest → spelled rest ≡ [] → rest ≡ []
nothing_spelled rest h none = h.same ∙ ap name_spelling none

pub no_name_at : (word : List ℕ) (count : ℕ) (rest name : List ℕ) → ReadsBytes word count rest → HasNoByte rest → 0 < length rest → IsName name → word ≡ name_spelling name → ⊥
no_name_at word count rest name h none some is e =
    let left : IsSpelling rest × (length name ≡ count + length (spelled rest)) = rest_of_name word count rest name h is.bytes e in
    let nothing : rest ≡ [] = nothing_spelled rest left.0 (spelling_ended rest left.0 none) in
    omega (arith, ap length nothing)

pub no_long_name : (word : List ℕ) (count : ℕ) (rest name : List ℕ) → ReadsBytes word count rest → count ≡ most_name → 0 < length rest → IsName name → word ≡ name_spelling name → ⊥
no_long_name word count rest name h full some is e =
    let left : IsSpelling rest × (length name ≡ count + length (spelled rest)) = rest_of_name word count rest name h is.bytes e in
    let none : spelled rest ≡ [] = nil_from_length (spelled rest) (omega (arith, is.few)) in
    omega (arith, ap length (nothing_spelled rest left.0 none))

pub no_empty_name : (word : List ℕ) (rest name : List ℕ) → ReadsBytes word 0 rest → length rest ≡ 0 → IsName name → word ≡ name_spelling name → ⊥
no_empty_name word rest name h end is e =
    let left : IsSpelling rest × (length name ≡ 0 + length (spelled rest)) = rest_of_name word 0 rest name h is.bytes e in
    let none : spelled rest ≡ [] = ap spelled (nil_from_length rest end) in
    omega (arith, ap length none, is.some)

pub name_word : (word : List ℕ) (count : ℕ) → IsNameWord word count → IsName (spelled word) × (word ≡ name_spelling (spelled word))
name_word word count h = (record { some = omega (arith, h.counted, h.some); few = omega (arith, h.counted, h.few); bytes = h.spelling.bytes }, h.spelling.same)

pub name_of_word : (word name : List ℕ) → IsName name → word ≡ name_spelling name → spelled word ≡ name
name_of_word word name is e = ap spelled e ∙ spelled-spelling name is.bytes

-- one byte's spelling more
pub spelling_more : (name : List ℕ) (i : ℕ) → i < length name → name_spelling (take (i + 1) name) ≡ name_spelling (take i name) ++ byte_spelling (get_or name i 0)
spelling_more name i within =
    (ap name_spelling (take_more name i 0 within) ∙ name_spelling-append (take i name) (get_or name i 0 ∷ []))
    ∙ ap (λ one. name_spelling (take i name) ++ one) (append-nil (byte_spelling (get_or name i 0)))

-- a name's spelling has none of the bytes up to the space
lacks-byte_spelling : (c b : ℕ) → c ≤ 32 → lacks c (byte_spelling b) ≡ true
lacks-byte_spelling c b small = grind (arith, nat_tests)

pub lacks-name_spelling : (c : ℕ) (name : List ℕ) → c ≤ 32 → lacks c (name_spelling name) ≡ true
lacks-name_spelling c [] small = refl
lacks-name_spelling c (b ∷ name) small =
    grind (arith, common_steps, lacks-append c (byte_spelling b) (name_spelling name), lacks-byte_spelling c b small, lacks-name_spelling c name small)

pub name_spelling_injective : (a b : List ℕ) → AreBytes a → AreBytes b → name_spelling a ≡ name_spelling b → a ≡ b
name_spelling_injective a b first second e = (sym (spelled-spelling a first) ∙ ap spelled e) ∙ spelled-spelling b second

length_of_byte_spelling : (b : ℕ) → (1 ≤ length (byte_spelling b)) × (length (byte_spelling b) ≤ 3)
length_of_byte_spelling b = grind (arith, common_steps)

pub length_of_spelling : (name : List ℕ) → (length name ≤ length (name_spelling name)) × (length (name_spelling name) ≤ 3 * length name)
length_of_spelling [] = (omega arith, omega arith)
length_of_spelling (b ∷ name) =
    let earlier : (length name ≤ length (name_spelling name)) × (length (name_spelling name) ≤ 3 * length name) = length_of_spelling name in
    let one : (1 ≤ length (byte_spelling b)) × (length (byte_spelling b) ≤ 3) = length_of_byte_spelling b in
    (omega (arith, length-append (byte_spelling b) (name_spelling name)), omega (arith, length-append (byte_spelling b) (name_spelling name)))

-- a name as long as its spelling is spelled as itself
plain_spelling : (name : List ℕ) → length (name_spelling name) ≡ length name → name_spelling name ≡ name
plain_spelling [] h = refl
plain_spelling (b ∷ name) h =
    let one : length (byte_spelling b) ≡ 1 = omega (arith, h, length-append (byte_spelling b) (name_spelling name), (length_of_spelling name).0, (length_of_byte_spelling b).0) in
    let later : length (name_spelling name) ≡ length name = omega (arith, h, one, length-append (byte_spelling b) (name_spelling name)) in
    grind (arith, common_steps, nat_tests, one, plain_spelling name later)

pub plain_word : (word : List ℕ) (count : ℕ) → IsNameWord word count → count ≡ length word → word ≡ spelled word
plain_word word count h e =
    h.spelling.same ∙ plain_spelling (spelled word) (sym (ap length h.spelling.same) ∙ (sym e ∙ sym h.counted))

pub ruleset spells_next = (spelled_byte, spelling_ended, spelling_later)

pub ruleset reads_name = (reads_none, reads_more, reads_all, no_name_at, no_long_name, no_empty_name, name_word, name_of_word)
