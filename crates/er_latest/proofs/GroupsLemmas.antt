-- The groups of a dispatch that have run.
use Rattle.std.proofs.Common.{◌≡◌, ℕ, ◌<◌, ◌≤◌, Bool, true, false, List, [], ◌∷◌, ◌++◌, Option, Some, None, suc, zero, refl, sym, ap, ◌∙◌, arith, length, take, drop, slice_index}
use Rattle.std.specs.Prelude.{nat_lt, if◌then◌else◌, max, ◌-◌, ◌≢◌}
use Rattle.std.proofs.Math.Dec.{eqb-suc-zero}
use Rattle.std.proofs.lemmas.Bool.{ltb-true, ltb-false, lt-ltb, le-ltb}
use Rattle.er_history.specs.Latest.{greater}
use Rattle.er_latest.specs.Tables.{greatest_in, IsRising, IsBelowAll, IsPlaceOf, just_before}

greater_max : (a b : ℕ) → greater (Some a) (Some b) ≡ Some (max a b)
greater_max a b = by (nat_lt a b) refl
  where
    by : (t : Bool) → nat_lt a b ≡ t → (if t then Some b else Some a) ≡ Some (max a b)
    by true e = ap (λ n. Some n) (omega (arith, ltb-true a b e))
    by false e = ap (λ n. Some n) (omega (arith, ltb-false a b e))

pub left_comm : (a b o : Option ℕ) → greater a (greater b o) ≡ greater b (greater a o)
left_comm None b o = refl
left_comm (Some a) None o = refl
left_comm (Some a) (Some b) None = greater_max a b ∙ (ap (λ n. Some n) (omega arith) ∙ sym (greater_max b a))
left_comm (Some a) (Some b) (Some c) = step a b c ∙ (ap (λ n. Some n) (omega arith) ∙ sym (step b a c))
  where
    step : (a b c : ℕ) → greater (Some a) (greater (Some b) (Some c)) ≡ Some (max a (max b c))
    step a b c = ap (greater (Some a)) (greater_max b c) ∙ greater_max a (max b c)

pub twice : (a o : Option ℕ) → greater a o ≡ greater a (greater a o)
twice None o = refl
twice (Some a) None = sym (greater_max a a ∙ ap (λ n. Some n) (omega arith))
twice (Some a) (Some b) = greater_max a b ∙ (ap (λ n. Some n) (omega arith) ∙ (sym (greater_max a (max a b)) ∙ sym (ap (greater (Some a)) (greater_max a b))))

abbrev pub one : (ℕ → Bool) → ℕ → Option ℕ
one test g = if test g then Some g else None

-- a group more
pub greatest_inserted : (test : ℕ → Bool) (xs : List ℕ) (g i : ℕ) → greatest_in test (take i xs ++ g ∷ drop i xs) ≡ greater (one test g) (greatest_in test xs)
greatest_inserted test xs g zero = refl
greatest_inserted test [] g (suc j) = refl
greatest_inserted test (x ∷ xs) g (suc j) = ap (greater (one test x)) (greatest_inserted test xs g j) ∙ left_comm (one test x) (one test g) (greatest_in test xs)

-- a group that is there
pub greatest_there : (test : ℕ → Bool) (xs : List ℕ) (g i : ℕ) → i < length xs → slice_index xs i ≡ g → greatest_in test xs ≡ greater (one test g) (greatest_in test xs)
greatest_there test [] g i within e = absurd (omega (arith, within))
greatest_there test (x ∷ xs) g zero within e = let same : x ≡ g = e in rw (sym same) (twice (one test x) (greatest_in test xs))
greatest_there test (x ∷ xs) g (suc j) within e = ap (greater (one test x)) (greatest_there test xs g j (omega (arith, within)) e) ∙ left_comm (one test x) (one test g) (greatest_in test xs)

all_fail : (g : ℕ) (xs : List ℕ) → ((k : ℕ) → k < length xs → g ≤ slice_index xs k) → greatest_in (λ k. nat_lt k g) xs ≡ None
all_fail g [] each = refl
all_fail g (x ∷ xs) each = rw (le-ltb x g (each 0 (omega arith))) (all_fail g xs (λ k within. each (suc k) (omega (arith, within))))

is_below : (g : ℕ) (xs : List ℕ) (k : ℕ) → IsBelowAll g xs → k < length xs → g < slice_index xs k
is_below g [] k below within = absurd (omega (arith, within))
is_below g (x ∷ xs) zero below within = below.0
is_below g (x ∷ xs) (suc k) below within = is_below g xs k below.1 (omega (arith, within))

pred : (i : ℕ) → suc i - 1 ≡ i
pred i = omega arith

-- what stands just before a place that is not the first
before_next : (i : ℕ) (xs : List ℕ) → just_before (suc i) xs ≡ Some (slice_index xs i)
before_next i xs = rw (eqb-suc-zero i) (ap (λ k. Some (slice_index xs k)) (pred i))

last_less : (g x : ℕ) (xs : List ℕ) (i : ℕ) → IsPlaceOf g (x ∷ xs) (suc (suc i)) → slice_index xs i < g
last_less g x xs i place = let last : slice_index (x ∷ xs) (suc (suc i) - 1) < g = place.less (omega arith) in rw (pred (suc i)) at last

-- where the first is less, and the place is behind it
rest_place : (g x : ℕ) (xs : List ℕ) (j : ℕ) → IsPlaceOf g (x ∷ xs) (suc j) → IsPlaceOf g xs j
rest_place g x xs j place = record {
  within = omega (arith, place.within);
  others = λ k from within. place.others (suc k) (omega (arith, from)) (omega (arith, within));
  less = less j place;
}
  where
    less : (j : ℕ) → IsPlaceOf g (x ∷ xs) (suc j) → 0 < j → slice_index xs (j - 1) < g
    less zero place some = absurd (omega (arith, some))
    less (suc i) place some = rw (pred i) (last_less g x xs i place)

first_less : (g x : ℕ) (xs : List ℕ) (j : ℕ) → IsRising (x ∷ xs) → IsPlaceOf g (x ∷ xs) (suc j) → x < g
first_less g x xs zero rising place = place.less (omega arith)
first_less g x xs (suc i) rising place =
    let last : slice_index xs i < g = last_less g x xs i place in
    let first : x < slice_index xs i = is_below x xs i rising.0 (omega (arith, place.within)) in
    omega (arith, last, first)

larger : (a b : ℕ) → a < b → greater (Some a) (Some b) ≡ Some b
larger a b less = rw (lt-ltb a b less) refl

-- the first of a list that rises, and the greatest of those behind it
first_and_rest : (x : ℕ) (xs : List ℕ) (j : ℕ) → IsBelowAll x xs → j ≤ length xs → greater (Some x) (just_before j xs) ≡ just_before (suc j) (x ∷ xs)
first_and_rest x xs zero below within = refl
first_and_rest x xs (suc i) below within =
    ap (greater (Some x)) (before_next i xs) ∙ (larger x (slice_index xs i) (is_below x xs i below (omega (arith, within))) ∙ sym (before_next (suc i) (x ∷ xs)))

-- those less than a group are those before its place
pub greatest_below : (g : ℕ) (xs : List ℕ) (place : ℕ) → IsRising xs → IsPlaceOf g xs place → greatest_in (λ k. nat_lt k g) xs ≡ just_before place xs
greatest_below g xs zero rising place = all_fail g xs (λ k within. place.others k (omega arith) within)
greatest_below g [] (suc j) rising place = absurd (omega (arith, place.within))
greatest_below g (x ∷ xs) (suc j) rising place =
    rw (lt-ltb x g (first_less g x xs j rising place))
    (ap (greater (Some x)) (greatest_below g xs j rising.1 (rest_place g x xs j place)) ∙ first_and_rest x xs j rising.0 (omega (arith, place.within)))

-- the greatest of all stands last
pub greatest_last : (xs : List ℕ) → IsRising xs → greatest_in (λ k. true) xs ≡ just_before (length xs) xs
greatest_last [] rising = refl
greatest_last (x ∷ xs) rising = ap (greater (Some x)) (greatest_last xs rising.1) ∙ first_and_rest x xs (length xs) rising.0 (omega arith)

below_inserted : (x g : ℕ) (xs : List ℕ) (j : ℕ) → x < g → IsBelowAll x xs → IsBelowAll x (take j xs ++ g ∷ drop j xs)
below_inserted x g xs zero less below = (less, below)
below_inserted x g [] (suc j) less below = (less, tt)
below_inserted x g (y ∷ ys) (suc j) less below = (below.0, below_inserted x g ys j less below.1)

below_more : (g x : ℕ) (xs : List ℕ) → g < x → IsBelowAll x xs → IsBelowAll g xs
below_more g x [] less below = tt
below_more g x (y ∷ ys) less below = (omega (arith, less, below.0), below_more g x ys less below.1)

-- a group more, at its place
pub rising_inserted : (g : ℕ) (xs : List ℕ) (place : ℕ) → IsRising xs → IsPlaceOf g xs place → (place < length xs → slice_index xs place ≢ g) → IsRising (take place xs ++ g ∷ drop place xs)
rising_inserted g [] zero rising place new = (tt, tt)
rising_inserted g (x ∷ xs) zero rising place new =
    let less : g < x = omega (arith, place.others 0 (omega arith) (omega arith), new (omega arith)) in
    ((less, below_more g x xs less rising.0), rising)
rising_inserted g [] (suc j) rising place new = absurd (omega (arith, place.within))
rising_inserted g (x ∷ xs) (suc j) rising place new =
    (below_inserted x g xs j (first_less g x xs j rising place) rising.0, rising_inserted g xs j rising.1 (rest_place g x xs j place) (λ within. new (omega (arith, within))))

pub ruleset inserted = (greatest_inserted, greatest_there, rising_inserted)
