-- The spelling of a number.
use Rattle.std.proofs.Common.{◌≡◌, ℕ, ◌∙◌, Bool, ◌%◌, ◌&&◌, ◌+◌, ◌-◌, ◌*◌, ◌<◌, ◌≤◌, ◌^◌, List, [], ◌∷◌, length, take, get_or, zero, suc, true, false, refl, ap, sym, arith, length-take-le}
use Rattle.std.proofs.lemmas.Grind.{common_steps}
use Rattle.std.specs.Prelude.{decimal}
use Rattle.std.specs.Char.{digit_value, is_ascii_digit}
use Rattle.std.specs.Str.Parse.{AllDigits, digits_value}
use Rattle.std.proofs.lemmas.Str.Parse.{IsNumeralModel, numerals_by_value, tells_digits, digits_value_short}
use Rattle.std.proofs.lemmas.Int.Digits.{digits_more, digits_value_more}
use Rattle.std.proofs.lemmas.Fmt.{decimal-digits_value, digits_decimal, digits_value-decimal, decimal_nonempty, first_decimal, length-decimal-le, decimal_digit, decimal_by_steps}
use Rattle.std.proofs.lemmas.Bool.Decides.{nat_tests}
use Rattle.er_text.specs.Bytes.{lacks}
use Rattle.er_text.proofs.ByteLaws.{lacks-append}
use Rattle.er_text.specs.Number.{IsNumber}
use Rattle.std.proofs.lemmas.List.{take_all}

-- the first i bytes are digits, and spell the value
pub record ReadsDigits (digits : List ℕ) (i value : ℕ) : Type 0 where
  pub all : AllDigits 10 (take i digits)
  pub spelt : digits_value 10 (take i digits) ≡ value
  pub below : i ≤ 9 → value < 10 ^ 9

numerals : IsNumeralModel (AllDigits 10) (digits_value 10)
numerals = numerals_by_value (AllDigits 10) tells_digits

pub reads_no_digits : (digits : List ℕ) → ReadsDigits digits 0 0
reads_no_digits digits = record { all = tt; spelt = refl; below = λ _. omega arith }

value_of_digit : (c : ℕ) → is_ascii_digit c ≡ true → digit_value c ≡ c - 48
value_of_digit c d = grind (arith, nat_tests)

digit_is_small : (c : ℕ) → is_ascii_digit c ≡ true → digit_value c < 10
digit_is_small c d = grind (arith, nat_tests)

no_digit_is_big : (c : ℕ) → is_ascii_digit c ≡ false → 10 ≤ digit_value c
no_digit_is_big c d = grind (arith, nat_tests)

pub reads_digit : (digits : List ℕ) (i value : ℕ) → ReadsDigits digits i value → i < length digits → is_ascii_digit (get_or digits i 0) ≡ true → ReadsDigits digits (i + 1) (value * 10 + (get_or digits i 0 - 48))
reads_digit digits i value h within d =
    let all : AllDigits 10 (take (i + 1) digits) = digits_more 10 digits i within h.all (digit_is_small (get_or digits i 0) d) in
    let e : digits_value 10 (take (i + 1) digits) ≡ value * 10 + (get_or digits i 0 - 48) = grind (arith, digits_value_more 10 digits i within, value_of_digit (get_or digits i 0) d, h.spelt) in
    record {
      all = all;
      spelt = e;
      below = λ few. rw (sym e) (digits_value_short numerals (take (i + 1) digits) 9 all (omega (arith, length-take-le (i + 1) digits)));
    }

pub AllDigits-at : (digits : List ℕ) (i : ℕ) → AllDigits 10 digits → i < length digits → digit_value (get_or digits i 0) < 10
AllDigits-at [] i all within = absurd (omega arith)
AllDigits-at (c ∷ digits) zero all within = all.0
AllDigits-at (c ∷ digits) (suc i) all within = AllDigits-at digits i all.1 (omega arith)

pub no_digit_at : (digits : List ℕ) (i : ℕ) → i < length digits → is_ascii_digit (get_or digits i 0) ≡ false → AllDigits 10 digits → ⊥
no_digit_at digits i within d all = omega (arith, AllDigits-at digits i all within, no_digit_is_big (get_or digits i 0) d)

-- what tells a number by its digits
pub record NumberForm (word : List ℕ) (n : ℕ) : Type 0 where
  pub digits : AllDigits 10 word
  pub value : digits_value 10 word ≡ n
  pub some : 0 < length word
  pub few : length word ≤ 10
  pub first : (get_or word 0 0 ≡ 48) → length word ≡ 1
  pub small : n < 2 ^ 32

first_digit : (n : ℕ) → n < 2 ^ 64 → get_or (decimal n) 0 0 ≡ 48 → length (decimal n) ≡ 1
first_digit zero wide h = ap length (decimal_digit 0 (omega arith))
first_digit (suc n) wide h = absurd (omega (arith, first_decimal (suc n) (omega arith) wide))

pub number_form : (word : List ℕ) (n : ℕ) → IsNumber word n → NumberForm word n
number_form word n (small, e) =
    let wide : n < 2 ^ 64 = omega arith in
    rw e record {
      digits = digits_decimal numerals n wide;
      value = digits_value-decimal numerals n wide;
      some = decimal_nonempty n wide;
      few = length-decimal-le 10 n (omega arith) (omega arith) wide;
      first = first_digit n wide;
      small = small;
    }

pub number_from_form : (word : List ℕ) → AllDigits 10 word → 0 < length word → (get_or word 0 0 ≡ 48 → length word ≡ 1) → digits_value 10 word < 2 ^ 32 → IsNumber word (digits_value 10 word)
number_from_form word digits some first small =
    (small, sym (decimal-digits_value numerals word digits some first (omega arith)))

pub not_empty_number : (word : List ℕ) (n : ℕ) → length word ≡ 0 → IsNumber word n → ⊥
not_empty_number word n e h = omega (arith, (number_form word n h).some)

pub not_long_number : (word : List ℕ) (n : ℕ) → 10 < length word → IsNumber word n → ⊥
not_long_number word n e h = omega (arith, (number_form word n h).few)

pub no_leading_zero : (word : List ℕ) (n : ℕ) → get_or word 0 0 ≡ 48 → 1 < length word → IsNumber word n → ⊥
no_leading_zero word n z e h = omega (arith, (number_form word n h).first z)

lacks_digit : (c d : ℕ) → c < 48 → lacks c ((48 + d) ∷ []) ≡ true
lacks_digit c d small = grind (arith, nat_tests)

both_true : {a b : Bool} → a ≡ true → b ≡ true → (a && b) ≡ true
both_true ha hb = grind (arith, common_steps)

-- a number's spelling has digits alone
pub lacks-decimal : (c n : ℕ) → c < 48 → n < 2 ^ 64 → lacks c (decimal n) ≡ true
lacks-decimal c n small =
    decimal_by_steps (λ _ digits. lacks c digits ≡ true)
    (λ d below. lacks_digit c d small)
    (λ m digits big earlier. lacks-append c digits ((48 + m % 10) ∷ []) ∙ both_true earlier (lacks_digit c (m % 10) small))
    n

pub ruleset reads_value = (reads_digit, reads_no_digits, no_digit_at, take_all)

pub ruleset reads_number = (not_empty_number, not_long_number, no_leading_zero, number_form, number_from_form)
