-- How the records that are read at the front are spelled.
use Rattle.std.proofs.Common.{◌≡◌, ℕ, zero, suc, ◌+◌, ◌<◌, ◌≤◌, ◌^◌, List, [], ◌∷◌, ◌++◌, length, take, drop, get_or, Bool, true, false, not, ◌&&◌, cond, Some, refl, sym, ap, ◌∙◌, append_assoc, arith}
use Rattle.std.specs.Prelude.{codes, decimal, position}
use Rattle.std.specs.List.{AllByRecursion, list_all, position_or_len}
use Rattle.std.specs.Str.Parse.{AllDigits, digits_value}
use Rattle.std.proofs.lemmas.List.{take-append-drop}
use Rattle.std.proofs.lemmas.List.Elements.{All-from_recursion}
use Rattle.std.proofs.lemmas.Grind.{common_steps}
use Rattle.er_text.specs.Bytes.{space, line_end}
use Rattle.er_text.specs.Number.{IsNumber}
use Rattle.er_text.proofs.NumberLaws.{number_from_form}
use Rattle.er_text.specs.Name.{most_name, IsName, name_spelling, stands_for_itself}
use Rattle.er_trace.specs.declared.record.Record.TheVariants.{Parse, Timer, Tick, Close, Set, Access}
use Rattle.er_trace.specs.declared.record.Kind.TheVariants as kinds
use Rattle.er_trace.specs.declared.record.Mode.{Mode}
use Rattle.er_trace.specs.declared.record.Mode.TheVariants as modes
use Rattle.er_syntax.specs.declared.plain.Form.{Form}
use Rattle.er_syntax.specs.declared.plain.Form.TheVariants as forms
use Rattle.er_trace.specs.Spelling.{spelling, mode_word}
use Rattle.er_syntax.specs.Forms.{form_word, loc_of}

-- such a name is spelled as itself
pub plain_name : (name : List ℕ) → list_all stands_for_itself name ≡ true → name_spelling name ≡ name
plain_name [] h = refl
plain_name (b ∷ name) h = grind (arith, common_steps, plain_name name)

bytes_below : (name : List ℕ) → list_all stands_for_itself name ≡ true → AllByRecursion (λ b. b < 256) name
bytes_below [] h = tt
bytes_below (b ∷ name) h = (grind (arith, common_steps), bytes_below name (grind (arith, common_steps)))

pub plain_is_name : (name : List ℕ) → 0 < length name → length name ≤ most_name → list_all stands_for_itself name ≡ true → IsName name
plain_is_name name some few h = record { some = some; few = few; bytes = All-from_recursion (λ b. b < 256) name (bytes_below name h) }

-- the bytes, by the place of the first that passes a test

none_before : (test : ℕ → Bool) (bytes : List ℕ) → list_all (λ b. not (test b)) (take (position_or_len test bytes) bytes) ≡ true
none_before test [] = refl
none_before test (b ∷ bytes) = by (test b) refl (none_before test bytes)
  where
    by : (t : Bool) → test b ≡ t → list_all (λ c. not (test c)) (take (position_or_len test bytes) bytes) ≡ true → list_all (λ b. not (test b)) (take (cond (not t) (1 + position_or_len test bytes) 0) (b ∷ bytes)) ≡ true
    by true e before = refl
    by false e before =
        let more : 1 + position_or_len test bytes ≡ suc (position_or_len test bytes) = omega arith in
        ap (λ k. list_all (λ b. not (test b)) (take k (b ∷ bytes))) more
        ∙ (ap (λ t. not t && list_all (λ b. not (test b)) (take (position_or_len test bytes) bytes)) e ∙ before)

all_like : (p q : ℕ → Bool) (bytes : List ℕ) → ((b : ℕ) → p b ≡ q b) → list_all p bytes ≡ list_all q bytes
all_like p q [] same = refl
all_like p q (b ∷ bytes) same = grind (arith, common_steps, same b, all_like p q bytes same)

twice : (b : Bool) → not (not b) ≡ b
twice true = refl
twice false = refl

-- the bytes before the first that is not spelled as itself
pub plain_before : (bytes : List ℕ) (k : ℕ) → Some k ≡ position (λ b. not (stands_for_itself b)) bytes → list_all stands_for_itself (take k bytes) ≡ true
plain_before bytes k h =
    let test : ℕ → Bool = λ b. not (stands_for_itself b) in
    let at : k ≡ position_or_len test bytes = grind (arith, common_steps) in
    sym (all_like (λ b. not (test b)) stands_for_itself (take k bytes) (λ b. twice (stands_for_itself b)))
    ∙ (ap (λ n. list_all (λ b. not (test b)) (take n bytes)) at ∙ none_before test bytes)

-- the bytes, by the place of one of them

pub cut_drop : (bytes : List ℕ) (k d : ℕ) → k < length bytes → bytes ≡ take k bytes ++ get_or bytes k d ∷ drop (k + 1) bytes
cut_drop [] k d h = grind arith
cut_drop (b ∷ bytes) zero d h = refl
cut_drop (b ∷ bytes) (suc k) d h =
    let one : suc (k + 1) ≡ suc k + 1 = omega arith in
    ap (λ l. b ∷ l) (cut_drop bytes k d (omega (arith, h))) ∙ ap (λ n. b ∷ (take k bytes ++ get_or bytes k d ∷ drop n (b ∷ bytes))) one

take_fewer : (k n : ℕ) (bytes : List ℕ) → k ≤ n → take k (take n bytes) ≡ take k bytes
take_fewer zero n bytes h = refl
take_fewer (suc k) zero bytes h = absurd (omega (arith, h))
take_fewer (suc k) (suc n) [] h = refl
take_fewer (suc k) (suc n) (b ∷ bytes) h = ap (λ l. b ∷ l) (take_fewer k n bytes (omega (arith, h)))

-- the first bytes, by a longer front
pub same_front : (k n : ℕ) (bytes place : List ℕ) → k ≤ n → place ≡ take n bytes → take k place ≡ take k bytes
same_front k n bytes place h e = ap (take k) e ∙ take_fewer k n bytes h

pub spelling_of_access : (m : Mode) (f : Form) (n : ℕ) (name : List ℕ)
    → spelling (Access m (loc_of f n name)) ≡ mode_word m ++ space ∷ form_word f ++ space ∷ decimal n ++ space ∷ name_spelling name
spelling_of_access modes.R forms.Var n name = refl
spelling_of_access modes.R forms.Elem n name = refl
spelling_of_access modes.R forms.Slot n name = refl
spelling_of_access modes.W forms.Var n name = refl
spelling_of_access modes.W forms.Elem n name = refl
spelling_of_access modes.W forms.Slot n name = refl

first_of_taken : (bytes : List ℕ) (end : ℕ) → 0 < end → get_or (take end bytes) 0 0 ≡ get_or bytes 0 0
first_of_taken [] zero h = refl
first_of_taken [] (suc end) h = refl
first_of_taken (b ∷ bytes) zero h = absurd (omega (arith, h))
first_of_taken (b ∷ bytes) (suc end) h = refl

-- the number that some digits at the front are, and the rest behind it
pub number_at : (bytes rest : List ℕ) (end value : ℕ) → AllDigits 10 (take end bytes)
    → digits_value 10 (take end bytes) ≡ value → 0 < end → end ≤ length bytes
    → (get_or bytes 0 0 ≡ 48 → end ≤ 1) → value < 2 ^ 32 → drop end bytes ≡ rest
    → bytes ≡ decimal value ++ rest
number_at bytes rest end value digits spelt some within zero_first small behind =
    let count : length (take end bytes) ≡ end = grind (arith, common_steps) in
    let is : IsNumber (take end bytes) (digits_value 10 (take end bytes)) = number_from_form (take end bytes) digits (omega (arith, count, some))
    (λ z. omega (arith, count, some, zero_first (sym (first_of_taken bytes end some) ∙ z))) (omega (arith, spelt, small)) in
    sym (take-append-drop end bytes)
    ∙ (ap (λ word. word ++ drop end bytes) (is.1 ∙ ap decimal spelt) ∙ ap (λ l. decimal value ++ l) behind)

-- a text, and a number with one byte behind it, one after the other

pub parse_at : (bytes after_word after_doc left : List ℕ) (d e : ℕ)
    → bytes ≡ codes "parse " ++ after_word → after_word ≡ decimal d ++ space ∷ after_doc
    → after_doc ≡ decimal e ++ space ∷ (codes "plain" ++ line_end ∷ left)
    → bytes ≡ spelling (Parse d e kinds.Plain) ++ line_end ∷ left
parse_at bytes after_word after_doc left d e word doc element =
    let tail : decimal e ++ space ∷ (codes "plain" ++ line_end ∷ left) ≡ (decimal e ++ space ∷ codes "plain") ++ line_end ∷ left = sym (append_assoc (decimal e) (space ∷ codes "plain") (line_end ∷ left)) in
    word ∙ ap (λ l. codes "parse " ++ l) ((doc ∙ ap (λ l. decimal d ++ space ∷ l) (element ∙ tail))
    ∙ sym (append_assoc (decimal d) (space ∷ (decimal e ++ space ∷ codes "plain")) (line_end ∷ left)))

pub set_at : (bytes after_word after_timeout left : List ℕ) (t n : ℕ)
    → bytes ≡ codes "set " ++ after_word → after_word ≡ decimal t ++ space ∷ after_timeout
    → after_timeout ≡ decimal n ++ line_end ∷ left
    → bytes ≡ spelling (Set t n) ++ line_end ∷ left
set_at bytes after_word after_timeout left t n word timeout delay =
    word ∙ ap (λ l. codes "set " ++ l) ((timeout ∙ ap (λ l. decimal t ++ space ∷ l) delay)
    ∙ sym (append_assoc (decimal t) (space ∷ decimal n) (line_end ∷ left)))

pub timer_at : (bytes after_word left : List ℕ) (t : ℕ)
    → bytes ≡ codes "timer " ++ after_word → after_word ≡ decimal t ++ line_end ∷ left
    → bytes ≡ spelling (Timer t) ++ line_end ∷ left
timer_at bytes after_word left t word timeout = word ∙ ap (λ l. codes "timer " ++ l) timeout

pub tick_at : (bytes after_word left : List ℕ) (i : ℕ)
    → bytes ≡ codes "tick " ++ after_word → after_word ≡ decimal i ++ line_end ∷ left
    → bytes ≡ spelling (Tick i) ++ line_end ∷ left
tick_at bytes after_word left i word interval = word ∙ ap (λ l. codes "tick " ++ l) interval

pub close_at : (bytes after_word left : List ℕ) (p : ℕ)
    → bytes ≡ codes "close " ++ after_word → after_word ≡ decimal p ++ line_end ∷ left
    → bytes ≡ spelling (Close p) ++ line_end ∷ left
close_at bytes after_word left p word dispatch = word ∙ ap (λ l. codes "close " ++ l) dispatch
