-- How often a number stands in a list, and tests of all members.
use Rattle.std.proofs.Common.{◌≡◌, ℕ, zero, suc, ◌+◌, ◌<◌, ◌≤◌, Bool, true, false, List, [], ◌∷◌, ◌++◌, refl, sym, ap, ◌∙◌, arith, inl, inr}
use Rattle.std.specs.Prelude.{◌==◌, ◌||◌, nat_lt}
use Rattle.std.specs.List.{list_all, filter}
use Rattle.std.proofs.lemmas.List.Elements.{filter-append}
use Rattle.std.proofs.lemmas.Bool.Decides.{nat_tests}
use Rattle.er_paths.specs.Paths.{is_among}
use Rattle.er_paths.proofs.Paths.{or_cases, or_left, or_right}
use Rattle.er_paths.specs.links.Links.{numbers_below}
use Rattle.er_paths.proofs.links.Tests.{decide, both, and_true}
use Rattle.er_paths.proofs.links.Ascending.{member_below}
use Rattle.er_paths.specs.orders.Orders.{times, has_each_once}

pub times_append : (k : ℕ) (xs ys : List ℕ) → times k (xs ++ ys) ≡ times k xs + times k ys
times_append k [] ys = omega arith
times_append k (x ∷ xs) ys = elim (decide (x == k)) [
  | inl e ↦ rw e (let h = times_append k xs ys in omega arith)
  | inr e ↦ rw e (times_append k xs ys)
]

pub times_among : (k : ℕ) (xs : List ℕ) → is_among k xs ≡ true → 1 ≤ times k xs
times_among k [] e = absurd (cc)
times_among k (x ∷ xs) e = elim (decide (x == k)) [
  | inl s ↦ rw s (omega arith)
  | inr s ↦ rw s (times_among k xs (elim (or_cases (x == k) (is_among k xs) e) [ inl t ↦ absurd (cc) | inr t ↦ t ]))
]

pub among_times : (k : ℕ) (xs : List ℕ) → 1 ≤ times k xs → is_among k xs ≡ true
among_times k [] h = absurd (omega arith)
among_times k (x ∷ xs) h = elim (decide (x == k)) [
  | inl s ↦ or_left (x == k) (is_among k xs) s
  | inr s ↦ or_right (x == k) (is_among k xs) (among_times k xs (rw s at h))
]

-- tests of all members

pub all_from : (t : ℕ → Bool) (xs : List ℕ) → ((k : ℕ) → is_among k xs ≡ true → t k ≡ true) → list_all t xs ≡ true
all_from t [] f = refl
all_from t (x ∷ xs) f = and_true (t x) (list_all t xs) (f x (or_left (x == x) (is_among x xs) (grind (arith, nat_tests)))) (all_from t xs (λ k e. f k (or_right (x == k) (is_among k xs) e)))

pub all_at : (t : ℕ → Bool) (xs : List ℕ) (k : ℕ) → list_all t xs ≡ true → is_among k xs ≡ true → t k ≡ true
all_at t [] k a e = absurd (cc)
all_at t (x ∷ xs) k a e =
    let b = both (t x) (list_all t xs) a in
    elim (or_cases (x == k) (is_among k xs) e) [
      | inl s ↦ let same : x ≡ k = grind (arith, nat_tests) in sym (ap t same) ∙ b.0
      | inr s ↦ all_at t xs k b.1 s
    ]

pub among_append : (k : ℕ) (xs ys : List ℕ) → is_among k (xs ++ ys) ≡ (is_among k xs || is_among k ys)
among_append k [] ys = refl
among_append k (x ∷ xs) ys = grind (arith, among_append k xs ys)

-- how often a number stands among those below n that pass

times_last : (t : ℕ → Bool) (n k : ℕ) → times k (filter t (numbers_below (suc n))) ≡ times k (filter t (numbers_below n)) + times k (filter t (n ∷ []))
times_last t n k = ap (times k) (filter-append t (numbers_below n) (n ∷ [])) ∙ times_append k (filter t (numbers_below n)) (filter t (n ∷ []))

one_no : (t : ℕ → Bool) (n k : ℕ) → (n ≡ k → t n ≡ false) → times k (filter t (n ∷ [])) ≡ 0
one_no t n k f = elim (decide (t n)) [
  | inr e ↦ rw e refl
  | inl e ↦ rw e (elim (decide (n == k)) [
    | inl s ↦ let same : n ≡ k = grind (arith, nat_tests) in let no = f same in absurd (cc)
    | inr s ↦ rw s refl
  ])
]

one_yes : (t : ℕ → Bool) (n k : ℕ) → n ≡ k → t n ≡ true → times k (filter t (n ∷ [])) ≡ 1
one_yes t n k same e = let s : (n == k) ≡ true = grind (arith, nat_tests) in rw (e, s) refl

pub times_no : (t : ℕ → Bool) (n k : ℕ) → t k ≡ false → times k (filter t (numbers_below n)) ≡ 0
times_no t zero k e = refl
times_no t (suc n) k e =
    let last : times k (filter t (n ∷ [])) ≡ 0 = one_no t n k (λ s. ap t s ∙ e) in
    omega (arith, times_last t n k, times_no t n k e, last)

pub times_past : (t : ℕ → Bool) (n k : ℕ) → n ≤ k → times k (filter t (numbers_below n)) ≡ 0
times_past t zero k l = refl
times_past t (suc n) k l =
    let last : times k (filter t (n ∷ [])) ≡ 0 = one_no t n k (λ s. absurd (omega arith)) in
    omega (arith, times_last t n k, times_past t n k (omega arith), last)

pub times_yes : (t : ℕ → Bool) (n k : ℕ) → k < n → t k ≡ true → times k (filter t (numbers_below n)) ≡ 1
times_yes t zero k l e = absurd (omega arith)
times_yes t (suc n) k l e = elim (decide (n == k)) [
  | inl s ↦
      let same : n ≡ k = grind (arith, nat_tests) in
      let last : times k (filter t (n ∷ [])) ≡ 1 = one_yes t n k same (ap t same ∙ e) in
      omega (arith, times_last t n k, times_past t n k (omega arith), last)
  | inr s ↦
      let less : k < n = grind (arith, nat_tests) in
      let last : times k (filter t (n ∷ [])) ≡ 0 = one_no t n k (λ same. absurd (omega arith)) in
      omega (arith, times_last t n k, times_yes t n k less e, last)
]

-- what stands once

pub once_from : (n : ℕ) (order : List ℕ) → ((k : ℕ) → k < n → times k order ≡ 1) → ((k : ℕ) → is_among k order ≡ true → k < n) → has_each_once n order ≡ true
once_from n order f g = and_true _ _
    (all_from (λ k. times k order == 1) (numbers_below n) (λ k e. let below : nat_lt k n ≡ true = sym (member_below n k) ∙ e in let one : times k order ≡ 1 = f k (grind (arith, nat_tests)) in grind (arith, nat_tests)))
    (all_from (λ k. nat_lt k n) order (λ k e. let below : k < n = g k e in grind (arith, nat_tests)))

pub once_at : (n : ℕ) (order : List ℕ) (k : ℕ) → has_each_once n order ≡ true → k < n → times k order ≡ 1
once_at n order k e below =
    let b = both (list_all (λ k. times k order == 1) (numbers_below n)) (list_all (λ k. nat_lt k n) order) e in
    let among : is_among k (numbers_below n) ≡ true = member_below n k ∙ grind (arith, nat_tests) in
    let one : (times k order == 1) ≡ true = all_at (λ k. times k order == 1) (numbers_below n) k b.0 among in
    grind (arith, nat_tests)

pub once_below : (n : ℕ) (order : List ℕ) (k : ℕ) → has_each_once n order ≡ true → is_among k order ≡ true → k < n
once_below n order k e among =
    let b = both (list_all (λ k. times k order == 1) (numbers_below n)) (list_all (λ k. nat_lt k n) order) e in
    let below : nat_lt k n ≡ true = all_at (λ k. nat_lt k n) order k b.1 among in
    grind (arith, nat_tests)

pub once_at_most : (n : ℕ) (order : List ℕ) (k : ℕ) → has_each_once n order ≡ true → times k order ≤ 1
once_at_most n order k e = elim (decide (is_among k order)) [
  | inl among ↦ let one = once_at n order k e (once_below n order k e among) in omega arith
  | inr none ↦ elim (decide (nat_lt 0 (times k order))) [
    | inl some ↦ let among : is_among k order ≡ true = among_times k order (grind (arith, nat_tests)) in absurd (cc)
    | inr some ↦ grind (arith, nat_tests)
  ]
]
