-- Pairs listed by their second, one second after the other.
use Rattle.std.proofs.Common.{◌≡◌, ℕ, zero, suc, ◌+◌, ◌-◌, ◌<◌, ◌≤◌, Bool, true, false, cond, List, [], ◌∷◌, ◌++◌, map, length, get_or, take, refl, sym, ap, ◌∙◌, arith, subst, append_assoc}
use Rattle.std.specs.Prelude.{nat_lt, ◌==◌}
use Rattle.std.specs.List.{AllByRecursion, filter, range_with_len}
use Rattle.std.specs.List.Sorted.{IsPermutation}
use Rattle.std.proofs.lemmas.Bool.Decides.{nat_tests}
use Rattle.std.proofs.lemmas.List.{append-nil, length-append, length-map}
use Rattle.std.proofs.lemmas.List.Elements.{filter-append, recursion_from_All, All-from_recursion}
use Rattle.std.proofs.lemmas.List.Sorted.{IsPermutation-refl, IsPermutation-cons, IsPermutation-middle, IsPermutation-trans, IsPermutation-append_left, length_permutation}
use Rattle.er_access.specs.declared.access.Access.{Access}
use Rattle.er_access.specs.Numbers.{access_at, rows_of}
use Rattle.er_races.specs.declared.race.Race.{Race}
use Rattle.er_races.specs.Pairs.{with_each, with_second, each}
use Rattle.er_races.specs.Listing.{at_location}
use Rattle.er_races.proofs.PairLemmas.{IsRising, all_more, each_same, filter_none, filter_within}
use Rattle.er_races.proofs.FrontLemmas.{rising_before, take_all}
use Rattle.er_races.proofs.ListLemmas.{IsNarrow, all_rows_at, location_is, one_location, rows_is, rows_rise}

-- the pairs among these numbers
abbrev pub among : (ℕ → ℕ → Bool) → List ℕ → List Race
among t xs = each (λ i. filter (t i) xs) xs

behind : (zs : List Race) (xs ys : List Race) → IsPermutation xs ys → IsPermutation (zs ++ xs) (zs ++ ys)
behind [] xs ys same = same
behind (z ∷ zs) xs ys same = IsPermutation-cons z (zs ++ xs) (zs ++ ys) (behind zs xs ys same)

-- one second more, for each first
each_more : (t : ℕ → ℕ → Bool) (rows is : List ℕ) (q : ℕ) → IsPermutation (each (λ i. filter (t i) rows) is ++ with_second (filter (λ i. t i q) is) q) (each (λ i. filter (t i) (rows ++ q ∷ [])) is)
each_more t rows [] q = IsPermutation-refl []
each_more t rows (i ∷ is) q =
    subst (λ (l : List Race). IsPermutation (each (λ i. filter (t i) rows) (i ∷ is) ++ with_second (filter (λ i. t i q) (i ∷ is)) q) (l ++ more)) (sym (ap (with_each i) (filter-append (t i) rows (q ∷ []))))
    (subst (λ (l : List Race). IsPermutation l (with_each i (filter (t i) rows ++ filter (t i) (q ∷ [])) ++ more)) (sym (append_assoc first old (with_second (filter (λ i. t i q) (i ∷ is)) q)))
    (by (t i q) (each_more t rows is q)))
  where
    first : List Race
    first = with_each i (filter (t i) rows)

    old : List Race
    old = each (λ i. filter (t i) rows) is

    more : List Race
    more = each (λ i. filter (t i) (rows ++ q ∷ [])) is

    seconds : List Race
    seconds = with_second (filter (λ i. t i q) is) q

    one : Race
    one = record { first = i; second = q }

    split : (xs : List ℕ) (ys : List Race) → with_each i (xs ++ q ∷ []) ++ ys ≡ with_each i xs ++ one ∷ ys
    split [] ys = refl
    split (x ∷ xs) ys = ap (λ l. record { first = i; second = x } ∷ l) (split xs ys)

    by : (b : Bool) → IsPermutation (old ++ seconds) more → IsPermutation (first ++ (old ++ with_second (cond b (i ∷ filter (λ i. t i q) is) (filter (λ i. t i q) is)) q)) (with_each i (filter (t i) rows ++ cond b (q ∷ []) []) ++ more)
    by true rest =
        subst (λ (l : List Race). IsPermutation (first ++ (old ++ one ∷ seconds)) l) (sym (split (filter (t i) rows) more))
        (behind first (old ++ one ∷ seconds) (one ∷ more)
        (IsPermutation-trans (old ++ one ∷ seconds) (one ∷ (old ++ seconds)) (one ∷ more) (IsPermutation-middle old one seconds) (IsPermutation-cons one (old ++ seconds) more rest)))
    by false rest =
        subst (λ (l : List ℕ). IsPermutation (first ++ (old ++ seconds)) (with_each i l ++ more)) (sym (append-nil (filter (t i) rows)))
        (behind first (old ++ seconds) more rest)

each_append : (f : ℕ → List ℕ) (xs ys : List ℕ) → each f (xs ++ ys) ≡ each f xs ++ each f ys
each_append f [] ys = refl
each_append f (x ∷ xs) ys = ap (λ l. with_each x (f x) ++ l) (each_append f xs ys) ∙ sym (append_assoc (with_each x (f x)) (each f xs) (each f ys))

all_append_one : (P : ℕ → Type 0) (xs : List ℕ) (q : ℕ) → AllByRecursion P xs → P q → AllByRecursion P (xs ++ q ∷ [])
all_append_one P [] q all h = (h, tt)
all_append_one P (x ∷ xs) q all h = (all.0, all_append_one P xs q all.1 h)

-- the last number of a rising list comes first in no pair
none_from_last : (accesses : List Access) (t : ℕ → ℕ → Bool) → IsNarrow accesses t → (xs : List ℕ) (q : ℕ) → AllByRecursion (λ i. i < q) xs → filter (t q) (xs ++ q ∷ []) ≡ []
none_from_last accesses t narrow xs q below = filter_none (t q) (xs ++ q ∷ []) (all_append_one (λ j. t q j ≡ false) xs q (all_more (λ i. i < q) (λ j. t q j ≡ false) xs (λ j h. never j (t q j) refl (omega (arith, h))) below) (never q (t q q) refl (omega arith)))
  where
    is_less : (i j : ℕ) → nat_lt i j ≡ true → i < j
    is_less i j e = grind (arith, nat_tests)

    never : (j : ℕ) (b : Bool) → t q j ≡ b → j ≤ q → t q j ≡ false
    never j true e h = absurd (let less = is_less q j (narrow q j e).0 in omega (arith, less, h))
    never j false e h = e

pub among_more : (accesses : List Access) (t : ℕ → ℕ → Bool) → IsNarrow accesses t → (xs : List ℕ) (q : ℕ) → AllByRecursion (λ i. i < q) xs
    → IsPermutation (among t xs ++ with_second (filter (λ i. t i q) xs) q) (among t (xs ++ q ∷ []))
among_more accesses t narrow xs q below =
    let f : ℕ → List ℕ = λ i. filter (t i) (xs ++ q ∷ []) in
    subst (λ (l : List Race). IsPermutation (among t xs ++ with_second (filter (λ i. t i q) xs) q) l)
    (sym (each_append f xs (q ∷ []) ∙ (ap (λ l. each f xs ++ (with_each q l ++ [])) (none_from_last accesses t narrow xs q below) ∙ append-nil (each f xs))))
    (each_more t xs xs q)

taken : (xs : List ℕ) (n : ℕ) → n < length xs → take (n + 1) xs ≡ take n xs ++ get_or xs n 0 ∷ []
taken [] n h = absurd (omega (arith, h))
taken (x ∷ xs) zero h = refl
taken (x ∷ xs) (suc n) h = let next : suc n + 1 ≡ suc (n + 1) = omega arith in rw next (ap (λ l. x ∷ l) (taken xs n (omega (arith, h))))

pub take_next : (xs : List ℕ) (n : ℕ) → n < length xs → take n xs ++ get_or xs n 0 ∷ [] ≡ take (n + 1) xs
take_next xs n h = sym (taken xs n h)

-- the step of the listing

abbrev pub up_to : (ℕ → ℕ → Bool) → List ℕ → ℕ → List Race
up_to t rows n = among t (take n rows)

abbrev pub seconds_at : (ℕ → ℕ → Bool) → List ℕ → ℕ → List ℕ
seconds_at t rows n = filter (λ i. t i (get_or rows n 0)) (take n rows)

up_to_next : (accesses : List Access) (t : ℕ → ℕ → Bool) → IsNarrow accesses t → (rows : List ℕ) (n : ℕ) → IsRising rows → n < length rows
    → IsPermutation (up_to t rows n ++ with_second (seconds_at t rows n) (get_or rows n 0)) (up_to t rows (n + 1))
up_to_next accesses t narrow rows n up h =
    subst (λ (l : List ℕ). IsPermutation (up_to t rows n ++ with_second (seconds_at t rows n) (get_or rows n 0)) (among t l)) (take_next rows n h)
    (among_more accesses t narrow (take n rows) (get_or rows n 0) (rising_before rows n up h))

pub next_listed : (accesses : List Access) (t : ℕ → ℕ → Bool) → IsNarrow accesses t → (rows : List ℕ) (n : ℕ) (old found new : List Race) → IsRising rows → n < length rows
    → IsPermutation found (old ++ up_to t rows n) → new ≡ found ++ with_second (seconds_at t rows n) (get_or rows n 0) → IsPermutation new (old ++ up_to t rows (n + 1))
next_listed accesses t narrow rows n old found new up h same e =
    let here = with_second (seconds_at t rows n) (get_or rows n 0) in
    subst (λ (l : List Race). IsPermutation l (old ++ up_to t rows (n + 1))) (sym e)
    (IsPermutation-trans (found ++ here) ((old ++ up_to t rows n) ++ here) (old ++ up_to t rows (n + 1)) (IsPermutation-append_left here found (old ++ up_to t rows n) same)
    (subst (λ (l : List Race). IsPermutation l (old ++ up_to t rows (n + 1))) (sym (append_assoc old (up_to t rows n) here))
    (behind old (up_to t rows n ++ here) (up_to t rows (n + 1)) (up_to_next accesses t narrow rows n up h))))

pub next_count : (accesses : List Access) (t : ℕ → ℕ → Bool) → IsNarrow accesses t → (rows : List ℕ) (n : ℕ) → IsRising rows → n < length rows
    → length (up_to t rows (n + 1)) ≡ length (up_to t rows n) + length (seconds_at t rows n)
next_count accesses t narrow rows n up h =
    let same = length_permutation (up_to t rows n ++ with_second (seconds_at t rows n) (get_or rows n 0)) (up_to t rows (n + 1)) (up_to_next accesses t narrow rows n up h) in
    omega (arith, same, length-append (up_to t rows n) (with_second (seconds_at t rows n) (get_or rows n 0)), length-map {B = Race} (seconds_at t rows n) (λ i. record { first = i; second = get_or rows n 0 }))

-- all of them

pub all_is : (accesses : List Access) (t : ℕ → ℕ → Bool) → IsNarrow accesses t → (k n : ℕ) (rows : List ℕ) → rows ≡ rows_of accesses k → length rows ≤ n → up_to t rows n ≡ at_location t accesses k
all_is accesses t narrow k n rows e h =
    ap (among t) (take_all rows n h)
    ∙ (each_same (λ i. filter (t i) rows) (λ i. filter (t i) all) rows (all_more (λ i. ((access_at accesses i).location == k) ≡ true) (λ i. filter (t i) rows ≡ filter (t i) all) rows in_rows (all_rows_at accesses k rows e))
    ∙ location_is accesses t k rows e)
  where
    all : List ℕ
    all = range_with_len 0 (length accesses)

    in_rows : (i : ℕ) → ((access_at accesses i).location == k) ≡ true → filter (t i) rows ≡ filter (t i) all
    in_rows i at = ap (filter (t i)) (e ∙ rows_is accesses k) ∙ filter_within (t i) (λ j. (access_at accesses j).location == k) all (λ j passed. one_location (access_at accesses i) (access_at accesses j) k (narrow i j passed).1 at)

-- what was counted is no more than all

climb : (C : ℕ → ℕ) (most : ℕ) → ((m : ℕ) → m < most → C m ≤ C (m + 1)) → (d n : ℕ) → n + d ≤ most → C n ≤ C (n + d)
climb C most step zero n within = let e : n + 0 ≡ n = omega arith in let f = ap C e in omega (arith, f)
climb C most step (suc d) n within =
    let e : n + d + 1 ≡ n + suc d = omega arith in
    let f = ap C e in
    omega (arith, f, climb C most step d n (omega (arith, within)), step (n + d) (omega (arith, within)))

pub fits : (accesses : List Access) (t : ℕ → ℕ → Bool) → IsNarrow accesses t → (k n : ℕ) (rows : List ℕ) → rows ≡ rows_of accesses k → n ≤ length rows → length (up_to t rows n) ≤ length (at_location t accesses k)
fits accesses t narrow k n rows e h =
    let all = ap length (all_is accesses t narrow k (length rows) rows e (omega arith)) in
    let up : length (up_to t rows n) ≤ length (up_to t rows (n + (length rows - n))) =
    climb (λ m. length (up_to t rows m)) (length rows) (λ m within. let c = next_count accesses t narrow rows m (rows_rise accesses k rows e) within in omega (arith, c)) (length rows - n) n (omega (arith, h)) in
    let whole : n + (length rows - n) ≡ length rows = omega (arith, h) in
    let last = ap (λ (m : ℕ). length (up_to t rows m)) whole in
    omega (arith, all, up, last)

pub listed_len : (t : ℕ → ℕ → Bool) (rows : List ℕ) (n : ℕ) (old found : List Race) → IsPermutation found (old ++ up_to t rows n) → length found ≡ length old + length (up_to t rows n)
listed_len t rows n old found same = let l = length_permutation found (old ++ up_to t rows n) same in omega (arith, l, length-append old (up_to t rows n))
