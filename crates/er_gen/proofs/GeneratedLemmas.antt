-- Where each record of the generated trace stands.
use Rattle.std.proofs.Common.{◌≡◌, ℕ, zero, suc, ◌+◌, ◌*◌, ◌-◌, ◌<◌, ◌≤◌, List, [], ◌∷◌, ◌++◌, length, drop, refl, ap, ◌∙◌, sym, drop-drop, arith, rules}
use Rattle.std.specs.Prelude.{slice_get, Some, None, ◌/◌, ◌%◌, ◌^◌}
use Rattle.std.specs.List.{AllByRecursion, flat_map, range_with_len}
use Rattle.std.proofs.lemmas.Grind.{common_steps}
use Rattle.std.proofs.lemmas.Option.{none-some, slice_get_within}
use Rattle.er_trace.specs.declared.record.Record.{Record}
use Rattle.er_trace.specs.declared.version.Version.TheVariants.{One}
use Rattle.er_trace.specs.Versions.{IsRecordOf}
use Rattle.er_trace.specs.Trace.{IsTrace}
use Rattle.er_gen.specs.Generated.{generated, most_rounds, opening, round, closing}

-- places of a list

get_left : {A : Type 0} (xs ys : List A) (i : ℕ) → i < length xs → slice_get (xs ++ ys) i ≡ slice_get xs i
get_left [] ys i h = absurd (omega arith)
get_left (x ∷ xs) ys zero h = refl
get_left (x ∷ xs) ys (suc i) h = get_left xs ys i (omega arith)

get_right : {A : Type 0} (xs ys : List A) (i j : ℕ) → j ≡ length xs + i → slice_get (xs ++ ys) j ≡ slice_get ys i
get_right [] ys i j e = ap (slice_get ys) (omega arith)
get_right (x ∷ xs) ys i zero e = absurd (omega arith)
get_right (x ∷ xs) ys i (suc j) e = get_right xs ys i j (omega arith)

-- a list is gone through by what is left of it

pub first_left : (xs : List Record) (i : ℕ) → slice_get (drop i xs) 0 ≡ slice_get xs i
first_left xs zero = refl
first_left [] (suc i) = refl
first_left (x ∷ xs) (suc i) = first_left xs i

pub rest_left : (xs : List Record) (i : ℕ) → drop 1 (drop i xs) ≡ drop (i + 1) xs
rest_left xs i = drop-drop 1 i xs

pub none_left : (xs : List Record) (i : ℕ) → slice_get xs i ≡ None → drop i xs ≡ drop 1 (drop i xs)
none_left [] zero e = refl
none_left [] (suc i) e = refl
none_left (x ∷ xs) zero e = absurd (none-some x (sym e))
none_left (x ∷ xs) (suc i) e = none_left xs i e

-- the rounds

get_round : (a n : ℕ) (ys : List Record) (k s j : ℕ) → k < n → s < 12 → j ≡ 12 * k + s → slice_get (flat_map round (range_with_len a n) ++ ys) j ≡ slice_get (round (a + k)) s
get_round a zero ys k s j h l e = absurd (omega arith)
get_round a (suc n) ys zero s j h l e =
    get_left (round a) (flat_map round (range_with_len (a + 1) n) ++ ys) j (omega (arith, e, l))
    ∙ ap (λ (i : ℕ). slice_get (round a) i) (omega (arith, e))
    ∙ ap (λ (i : ℕ). slice_get (round i) s) (omega arith)
get_round a (suc n) ys (suc k) s j h l e =
    get_right (round a) (flat_map round (range_with_len (a + 1) n) ++ ys) (12 * k + s) j (omega (arith, e))
    ∙ get_round (a + 1) n ys k s (12 * k + s) (omega arith) l refl
    ∙ ap (λ (i : ℕ). slice_get (round i) s) (omega arith)

rounds_length : (a n : ℕ) → length (flat_map round (range_with_len a n)) ≡ 12 * n
rounds_length a zero = refl
rounds_length a (suc n) = let e : length (flat_map round (range_with_len (a + 1) n)) ≡ 12 * n = rounds_length (a + 1) n in omega (arith, e)

pub generated_length : (n : ℕ) → length (generated n) ≡ 12 * n + 10
generated_length n = let e : length (flat_map round (range_with_len 1 n)) ≡ 12 * n = rounds_length 1 n in grind (arith, common_steps)

pub at_round : (n i : ℕ) → 6 ≤ i → i - 6 < 12 * n → slice_get (generated n) i ≡ slice_get (round ((i - 6) / 12 + 1)) ((i - 6) % 12)
at_round n i from within =
    get_right opening (flat_map round (range_with_len 1 n) ++ closing) (i - 6) i (omega arith)
    ∙ get_round 1 n closing ((i - 6) / 12) ((i - 6) % 12) (i - 6) (omega arith) (omega arith) (omega arith)
    ∙ ap (λ (k : ℕ). slice_get (round k) ((i - 6) % 12)) (omega arith)

pub at_closing : (n i : ℕ) → 6 ≤ i → 12 * n ≤ i - 6 → slice_get (generated n) i ≡ slice_get closing (i - 6 - 12 * n)
at_closing n i from past =
    let e : length (flat_map round (range_with_len 1 n)) ≡ 12 * n = rounds_length 1 n in
    get_right opening (flat_map round (range_with_len 1 n) ++ closing) (i - 6) i (omega arith)
    ∙ get_right (flat_map round (range_with_len 1 n)) closing (i - 6 - 12 * n) (i - 6) (omega (arith, e))

-- a place of a record is a small number
pub place_fits : (n i : ℕ) (x : Record) → n ≤ most_rounds → Some x ≡ slice_get (generated n) i → i + 1 < 2 ^ 32
place_fits n i x few e =
    let within : i < length (generated n) = slice_get_within (generated n) i x (sym e) in
    let count : length (generated n) ≡ 12 * n + 10 = generated_length n in
    omega (arith, within, count)

-- each record fits

all_append : (P : Record → Type 0) (xs ys : List Record) → AllByRecursion P xs → AllByRecursion P ys → AllByRecursion P (xs ++ ys)
all_append P [] ys a b = b
all_append P (x ∷ xs) ys a b = (a.0, all_append P xs ys a.1 b)

round_fits : (k : ℕ) → k ≤ most_rounds → AllByRecursion (IsRecordOf One) (round k)
round_fits k few = search rules

rounds_fit : (a n : ℕ) → a + n ≤ most_rounds + 1 → AllByRecursion (IsRecordOf One) (flat_map round (range_with_len a n))
rounds_fit a zero few = tt
rounds_fit a (suc n) few = all_append (IsRecordOf One) (round a) (flat_map round (range_with_len (a + 1) n)) (round_fits a (omega arith)) (rounds_fit (a + 1) n (omega arith))

opening_fits : AllByRecursion (IsRecordOf One) opening
opening_fits = search rules

closing_fits : AllByRecursion (IsRecordOf One) closing
closing_fits = search rules

pub generated_fits : (n : ℕ) → n ≤ most_rounds → IsTrace One (generated n)
generated_fits n few = record {
  each = all_append (IsRecordOf One) opening (flat_map round (range_with_len 1 n) ++ closing) opening_fits (all_append (IsRecordOf One) (flat_map round (range_with_len 1 n)) closing (rounds_fit 1 n (omega arith)) closing_fits);
  few = let e : length (generated n) ≡ 12 * n + 10 = generated_length n in omega (arith, e);
}

pub ruleset left = (first_left, rest_left, none_left)
