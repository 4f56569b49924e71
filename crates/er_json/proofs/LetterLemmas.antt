-- The letters of a location in a string of JSON.
use Rattle.std.proofs.Common.{◌≡◌, ℕ, zero, suc, ◌+◌, ◌-◌, ◌<◌, ◌≤◌, ◌^◌, ◌%◌, ◌⊎◌, inl, inr, Bool, true, false, not, ◌&&◌, cond, List, [], ◌∷◌, ◌++◌, length, take, drop, get_or, Option, Some, None, refl, sym, ap, subst, ◌∙◌, arith, append_assoc, append-nil, codes, decimal}
use Rattle.std.specs.Prelude.{All, position}
use Rattle.std.specs.List.{position_or_len}
use Rattle.std.specs.Str.{bytes_eq}
use Rattle.std.proofs.lemmas.Bool.{and_parts, cases_order}
use Rattle.std.proofs.lemmas.Grind.{common_steps, flat_map-append}
use Rattle.std.proofs.lemmas.List.{drop_more}
use Rattle.std.proofs.lemmas.List.Elements.{All-head, All-tail, All-drop}
use Rattle.std.proofs.lemmas.List.Quantifiers.{position-Some}
use Rattle.std.proofs.lemmas.Fmt.{decimal_by_steps}
use Rattle.std.proofs.lemmas.Slice.Eq.{bytes_eq-Decides}
use Rattle.json.specs.Print.{escape, escape_byte}
use Rattle.json.proofs.Printed.Strings.{escape_byte_plain}
use Rattle.er_io.specs.Ends.{Gets, GetsPart}
use Rattle.er_io.proofs.Puts.{gets_again, gets_part_first, gets_part_later, rose_later}
use Rattle.er_text.specs.Name.{byte_spelling, name_spelling}
use Rattle.er_trace.specs.declared.record.Loc.TheVariants.{Var, Elem, Slot}
use Rattle.er_json.specs.Parts.{is_escaped, name_letters, located, location_letters}

abbrev AreBytes : List ℕ → Type 0
AreBytes bytes = All (λ b. b < 256) bytes

-- a byte of a name, by whether a backslash stands before it
abbrev byte_letters : Bool → ℕ → List ℕ
byte_letters escaped b = cond escaped (92 ∷ b ∷ []) (byte_spelling b)

-- a fact of each number below n, by computing
abbrev holds_below : (ℕ → Bool) → ℕ → Bool
holds_below test zero = true
holds_below test (suc n) = test n && holds_below test n

at_number : (test : ℕ → Bool) (n i : ℕ) → holds_below test n ≡ true → i < n → test i ≡ true
at_number test zero i all below = absurd (omega (arith, below))
at_number test (suc n) i all below =
    let parts = and_parts (test n) (holds_below test n) all in
    by (cases_order i n) parts.0 (at_number test n i parts.1)
  where
    by : (i ≡ n) ⊎ ((i < n) ⊎ (n < i)) → test n ≡ true → (i < n → test i ≡ true) → test i ≡ true
    by (inl same) here earlier = subst (λ k. test k ≡ true) (sym same) here
    by (inr (inl less)) here earlier = earlier less
    by (inr (inr more)) here earlier = absurd (omega (arith, below, more))

byte_escape : (b : ℕ) → b < 256 → escape (byte_spelling b) ≡ byte_letters (is_escaped b) b
unfolding escape_byte
byte_escape b small = (bytes_eq-Decides (escape (byte_spelling b)) (byte_letters (is_escaped b) b)).0
    (at_number (λ x. bytes_eq (escape (byte_spelling x)) (byte_letters (is_escaped x) x)) 256 b refl small)

-- the first of some bytes
first_byte : (b : ℕ) (name : List ℕ) (escaped : Bool) → b < 256 → is_escaped b ≡ escaped → escape (name_spelling (b ∷ name)) ≡ byte_letters escaped b ++ escape (name_spelling name)
first_byte b name escaped small is =
    flat_map-append escape_byte (byte_spelling b) (name_spelling name) ∙ ap (λ l. l ++ escape (name_spelling name)) (byte_escape b small ∙ ap (λ t. byte_letters t b) is)

-- up to a place the bytes are spelled, and behind it they are escaped
abbrev IsSplitAt : ℕ → List ℕ → Type 0
IsSplitAt k name = escape (name_spelling name) ≡ name_spelling (take k name) ++ escape (name_spelling (drop k name))

split_behind : (b : ℕ) (name : List ℕ) (k : ℕ) (escaped : Bool) → b < 256 → is_escaped b ≡ escaped → IsSplitAt k name → IsSplitAt (cond (not escaped) (1 + k) 0) (b ∷ name)
split_behind b name k true small is later = refl
split_behind b name k false small is later =
    let more : 1 + k ≡ suc k = omega arith in
    rw more (first_byte b name false small is ∙ (ap (λ l. byte_spelling b ++ l) later ∙ sym (append_assoc (byte_spelling b) (name_spelling (take k name)) (escape (name_spelling (drop k name))))))

split_at_first : (name : List ℕ) → AreBytes name → IsSplitAt (position_or_len is_escaped name) name
split_at_first [] small = refl
split_at_first (b ∷ name) small = split_behind b name (position_or_len is_escaped name) (is_escaped b) (All-head (λ x. x < 256) b name small) refl (split_at_first name (All-tail (λ x. x < 256) b name small))

split_at : (name : List ℕ) (k : ℕ) → AreBytes name → position is_escaped name ≡ Some k → IsSplitAt k name
split_at name k small at =
    let is : position_or_len is_escaped name ≡ k = grind (arith, common_steps) in
    rw is at (split_at_first name small)

-- no byte is escaped
pub no_escape : (name : List ℕ) → AreBytes name → position is_escaped name ≡ None → name_letters name ≡ name_spelling name
unfolding name_letters
no_escape name small none =
    let k = position_or_len is_escaped name in
    let past : length name ≤ k = grind (arith, common_steps) in
    let all : take k name ≡ name = grind (arith, common_steps) in
    let rest : drop k name ≡ [] = grind (arith, common_steps) in
    rw (all, rest) at (split_at_first name small) ∙ append-nil (name_spelling name)

pub escape_within : (name : List ℕ) (k : ℕ) → position is_escaped name ≡ Some k → k < length name
escape_within name k at = (position-Some is_escaped name k 0 at).0

-- up to the first byte that is escaped, that byte, and those behind it
first_escape : (name : List ℕ) (k : ℕ) → AreBytes name → position is_escaped name ≡ Some k
    → name_letters name ≡ name_spelling (take k name) ++ ((92 ∷ get_or name k 0 ∷ []) ++ name_letters (take (length name - (k + 1)) (drop (k + 1) name)))
unfolding name_letters
first_escape name k small at =
    let here = position-Some is_escaped name k 0 at in
    let next : drop k name ≡ get_or name k 0 ∷ drop (k + 1) name = drop_more name k 0 here.0 in
    let bytes : AreBytes (get_or name k 0 ∷ drop (k + 1) name) = rw next at (All-drop (λ x. x < 256) k name small) in
    let later : escape (name_spelling (drop k name)) ≡ (92 ∷ get_or name k 0 ∷ []) ++ escape (name_spelling (drop (k + 1) name)) =
    rw next (first_byte (get_or name k 0) (drop (k + 1) name) true (All-head (λ x. x < 256) _ _ bytes) here.1) in
    let rest : take (length name - (k + 1)) (drop (k + 1) name) ≡ drop (k + 1) name = grind (arith, common_steps) in
    rw rest (split_at name k small at ∙ ap (λ l. name_spelling (take k name) ++ l) later)

-- what came of them
pub part_before : (old new : Option (List ℕ)) (name : List ℕ) (k : ℕ) → AreBytes name → position is_escaped name ≡ Some k → GetsPart old (name_spelling (take k name)) new → GetsPart old (name_letters name) new
part_before old new name k small at part = rw (first_escape name k small at) (gets_part_first old new (name_spelling (take k name)) ((92 ∷ get_or name k 0 ∷ []) ++ name_letters (take (length name - (k + 1)) (drop (k + 1) name))) part)

pub part_at : (old mid new : Option (List ℕ)) (name : List ℕ) (k : ℕ) → AreBytes name → position is_escaped name ≡ Some k → Gets old (name_spelling (take k name)) mid
    → GetsPart mid (92 ∷ get_or name k 0 ∷ []) new → GetsPart old (name_letters name) new
part_at old mid new name k small at first part =
    rw (first_escape name k small at) (gets_part_later old mid new (name_spelling (take k name)) ((92 ∷ get_or name k 0 ∷ []) ++ name_letters (take (length name - (k + 1)) (drop (k + 1) name))) first
    (gets_part_first mid new (92 ∷ get_or name k 0 ∷ []) (name_letters (take (length name - (k + 1)) (drop (k + 1) name))) part))

pub part_behind : (old mid last new : Option (List ℕ)) (name : List ℕ) (k : ℕ) → AreBytes name → position is_escaped name ≡ Some k → Gets old (name_spelling (take k name)) mid → Gets mid (92 ∷ get_or name k 0 ∷ []) last
    → GetsPart last (name_letters (take (length name - (k + 1)) (drop (k + 1) name))) new → GetsPart old (name_letters name) new
part_behind old mid last new name k small at first second part =
    rw (first_escape name k small at) (gets_part_later old mid new (name_spelling (take k name)) ((92 ∷ get_or name k 0 ∷ []) ++ name_letters (take (length name - (k + 1)) (drop (k + 1) name))) first
    (gets_part_later mid last new (92 ∷ get_or name k 0 ∷ []) (name_letters (take (length name - (k + 1)) (drop (k + 1) name))) second part))

pub whole_name : (old mid last new : Option (List ℕ)) (name : List ℕ) (k : ℕ) → AreBytes name → position is_escaped name ≡ Some k → Gets old (name_spelling (take k name)) mid → Gets mid (92 ∷ get_or name k 0 ∷ []) last
    → Gets last (name_letters (take (length name - (k + 1)) (drop (k + 1) name))) new → Gets old (name_letters name) new
whole_name old mid last new name k small at first second rest =
    rw (first_escape name k small at) (gets_again old mid new (name_spelling (take k name)) ((92 ∷ get_or name k 0 ∷ []) ++ name_letters (take (length name - (k + 1)) (drop (k + 1) name))) first
    (gets_again mid last new (92 ∷ get_or name k 0 ∷ []) (name_letters (take (length name - (k + 1)) (drop (k + 1) name))) second rest))

pub ruleset escapes = (no_escape, escape_within, part_before, part_at, part_behind, whole_name, rose_later)

digit_plain : (d : ℕ) → d < 10 → escape ((48 + d) ∷ []) ≡ (48 + d) ∷ []
digit_plain d one = ap (λ l. l ++ []) (escape_byte_plain (48 + d) (λ e. omega (arith, one, e)) (λ e. omega (arith, one, e)) (omega arith))

number_plain : (n : ℕ) → n < 2 ^ 64 → escape (decimal n) ≡ decimal n
number_plain n small = decimal_by_steps (λ _ digits. escape digits ≡ digits) (λ d one. digit_plain d one)
    (λ m digits _ same. flat_map-append escape_byte digits ((48 + m % 10) ∷ []) ∙ (ap (λ l. l ++ escape ((48 + m % 10) ∷ [])) same ∙ ap (λ l. digits ++ l) (digit_plain (m % 10) (omega arith)))) n small

-- a number, a space and a name
number_and_name : (o : ℕ) (n : List ℕ) → o < 2 ^ 64 → escape (decimal o ++ 32 ∷ name_spelling n) ≡ decimal o ++ 32 ∷ escape (name_spelling n)
unfolding escape_byte
number_and_name o n small = flat_map-append escape_byte (decimal o) (32 ∷ name_spelling n) ∙ ap (λ l. l ++ 32 ∷ escape (name_spelling n)) (number_plain o small)

located_letters : (word : List ℕ) (o : ℕ) (n : List ℕ) → o < 2 ^ 64 → word ++ escape (decimal o ++ 32 ∷ name_spelling n) ≡ located word o n
unfolding name_letters
located_letters word o n small = ap (λ l. word ++ l) (number_and_name o n small) ∙ in_order word (decimal o) (32 ∷ []) (escape (name_spelling n))
  where
    in_order : (a b c d : List ℕ) → a ++ (b ++ (c ++ d)) ≡ a ++ b ++ c ++ d
    in_order a b c d = simp append_assoc

pub var_parts : (o : ℕ) (n : List ℕ) → o < 2 ^ 64 → location_letters (Var o n) ≡ located (codes "var ") o n
unfolding location_letters name_letters escape_byte
var_parts o n small = located_letters (codes "var ") o n small

pub elem_parts : (d : ℕ) (n : List ℕ) → d < 2 ^ 64 → location_letters (Elem d n) ≡ located (codes "elem ") d n
unfolding location_letters name_letters escape_byte
elem_parts d n small = located_letters (codes "elem ") d n small

pub slot_parts : (e : ℕ) (n : List ℕ) → e < 2 ^ 64 → location_letters (Slot e n) ≡ located (codes "slot ") e n
unfolding location_letters name_letters escape_byte
slot_parts e n small = located_letters (codes "slot ") e n small

pub ruleset locations = (var_parts, elem_parts, slot_parts)
