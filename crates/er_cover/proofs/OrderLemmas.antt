-- The groups do not depend on the order in which the classes are passed.
use Rattle.std.proofs.Common.{◌≡◌, ℕ, suc, ◌+◌, ◌≤◌, Bool, true, false, List, [], ◌∷◌, length, refl, sym, ap, ◌∙◌, arith, subst, inl, inr, IsPermutation}
use Rattle.std.specs.Prelude.{◌&&◌, not, if◌then◌else◌}
use Rattle.std.specs.List.{AllByRecursion, filter, sum_by}
use Rattle.std.specs.List.Sorted.{IsNonDecreasingBy}
use Rattle.std.proofs.lemmas.Bool.Decides.{nat_tests}
use Rattle.std.proofs.lemmas.List.Elements.{recursion_from_All}
use Rattle.std.proofs.lemmas.List.Sorted.{list_any-IsPermutation, sum_by-IsPermutation}
use Rattle.std.proofs.lemmas.List.Sums.{sum_by-cons}
use Rattle.er_cover.specs.declared.class.Class.{Class}
use Rattle.er_cover.specs.Classes.{is_among, same, each_once}
use Rattle.er_cover.specs.Groups.{covers, is_maximal, maximal_of}
use Rattle.er_cover.specs.Passes.{rank, AreRising, AreDistinct}
use Rattle.er_cover.proofs.CoverLemmas.{same_sym, decide, same_is, same_refl, member_filter}

pub top_any_order : (joined : ℕ → ℕ → Bool) (xs ys : List Class) (x : Class) → IsPermutation xs ys → is_maximal joined xs x ≡ is_maximal joined ys x
top_any_order joined xs ys x p = ap not (list_any-IsPermutation (λ y. not (same y x) && covers joined y x) xs ys p)

pub each_member : (P : Class → Type 0) (xs : List Class) → ((x : Class) → is_among x xs ≡ true → P x) → AllByRecursion P xs
each_member P [] f = tt
each_member P (x ∷ xs) f = (f x (let s = same_refl x in grind (arith)), each_member P xs (λ y h. f y (grind (arith))))

pub filter_alike : (t r : Class → Bool) (xs : List Class) → AllByRecursion (λ x. t x ≡ r x) xs → filter t xs ≡ filter r xs
filter_alike t r [] a = refl
filter_alike t r (x ∷ xs) a = rw a.0 (ap (λ (zs : List Class). if r x then x ∷ zs else zs) (filter_alike t r xs a.1))

-- found by rising rank, the maximal ones are put in the order of the classes
pub in_order : (joined : ℕ → ℕ → Bool) (xs ys : List Class) → IsPermutation xs ys → filter (λ x. is_among x (maximal_of joined ys)) xs ≡ maximal_of joined xs
in_order joined xs ys p = filter_alike (λ x. is_among x (maximal_of joined ys)) (λ x. is_maximal joined xs x) xs (each_member (λ x. is_among x (maximal_of joined ys) ≡ is_maximal joined xs x) xs (λ x h.
    member_filter (λ y. is_maximal joined ys y) ys x ∙ ap (λ (b : Bool). b && is_maximal joined ys x) (sym (list_any-IsPermutation (λ m. same m x) xs ys p) ∙ h) ∙ sym (top_any_order joined xs ys x p)))

abbrev one_if : (Class → Bool) → Class → ℕ
one_if t x = if t x then 1 else 0

one_true : (t : Class → Bool) (x : Class) (xs : List Class) → t x ≡ true → sum_by (one_if t) (x ∷ xs) ≡ 1 + sum_by (one_if t) xs
one_true t x xs e = sum_by-cons (one_if t) x xs ∙ ap (λ (b : Bool). (if b then 1 else 0) + sum_by (one_if t) xs) e

one_false : (t : Class → Bool) (x : Class) (xs : List Class) → t x ≡ false → sum_by (one_if t) (x ∷ xs) ≡ sum_by (one_if t) xs
one_false t x xs e = sum_by-cons (one_if t) x xs ∙ ap (λ (b : Bool). (if b then 1 else 0) + sum_by (one_if t) xs) e ∙ omega arith

count_filter : (t : Class → Bool) (xs : List Class) → length (filter t xs) ≡ sum_by (one_if t) xs
count_filter t [] = refl
count_filter t (x ∷ xs) = elim (decide (t x)) [
  | inl e ↦ ap (λ (b : Bool). length (if b then x ∷ filter t xs else filter t xs)) e ∙ ap suc (count_filter t xs) ∙ omega arith ∙ sym (one_true t x xs e)
  | inr e ↦ ap (λ (b : Bool). length (if b then x ∷ filter t xs else filter t xs)) e ∙ count_filter t xs ∙ sym (one_false t x xs e)
]

-- and they are as many
pub as_many : (joined : ℕ → ℕ → Bool) (xs ys : List Class) → IsPermutation xs ys → length (maximal_of joined ys) ≡ length (maximal_of joined xs)
as_many joined xs ys p = ap (λ (zs : List Class). length zs) (filter_alike (λ y. is_maximal joined ys y) (λ y. is_maximal joined xs y) ys (each_member (λ y. is_maximal joined ys y ≡ is_maximal joined xs y) ys (λ y h. sym (top_any_order joined xs ys y p))))
    ∙ count_filter (λ y. is_maximal joined xs y) ys ∙ sum_by-IsPermutation (one_if (λ y. is_maximal joined xs y)) xs ys p ∙ sym (count_filter (λ y. is_maximal joined xs y) xs)

-- what a sort says
pub rising_sorted : (actions : ℕ) (xs : List Class) → IsNonDecreasingBy (λ x. rank actions x) xs → AreRising actions xs
rising_sorted actions [] h = tt
rising_sorted actions (x ∷ xs) h = (recursion_from_All (λ y. rank actions x ≤ rank actions y) xs (λ k d l. h 0 (suc k) d (omega arith) (omega arith)), rising_sorted actions xs (λ i j d a b. h (suc i) (suc j) d (omega arith) (omega arith)))

-- no two alike, said by counts, which an order does not change
counts : (x : Class) (xs : List Class) → AllByRecursion (λ y. same x y ≡ false) xs → sum_by (one_if (λ y. same x y)) xs ≡ 0
counts x [] a = refl
counts x (y ∷ ys) a = one_false (λ y. same x y) y ys a.0 ∙ counts x ys a.1

none_counted : (x : Class) (xs : List Class) → sum_by (one_if (λ y. same x y)) xs ≡ 0 → AllByRecursion (λ y. same x y ≡ false) xs
none_counted x [] e = tt
none_counted x (y ∷ ys) e = elim (decide (same x y)) [
  | inl t ↦ let f : 1 + sum_by (one_if (λ y. same x y)) ys ≡ 0 = sym (one_true (λ y. same x y) y ys t) ∙ e in absurd (omega arith)
  | inr n ↦ (n, none_counted x ys (sym (one_false (λ y. same x y) y ys n) ∙ e))
]

counts_apart : (xs : List Class) (x : Class) → AreDistinct xs → sum_by (one_if (λ y. same x y)) xs ≤ 1
counts_apart [] x a = omega arith
counts_apart (z ∷ zs) x a = elim (decide (same x z)) [
  | inl t ↦ let N : Class → Type 0 = λ m. AllByRecursion (λ y. same m y ≡ false) zs in bound _ _ (one_true (λ y. same x y) z zs t ∙ ap (λ (n : ℕ). 1 + n) (counts x zs (subst N (sym (same_is x z t)) a.0))) (omega arith)
  | inr n ↦ bound _ _ (one_false (λ y. same x y) z zs n) (counts_apart zs x a.1)
]
  where
    bound : (m n : ℕ) → m ≡ n → n ≤ 1 → m ≤ 1
    bound m n e h = omega arith

apart_counts : (xs : List Class) → ((x : Class) → sum_by (one_if (λ y. same x y)) xs ≤ 1) → AreDistinct xs
apart_counts [] f = tt
apart_counts (z ∷ zs) f = (none_counted z zs (first _ _ (one_true (λ y. same z y) z zs (same_refl z)) (f z)), apart_counts zs (λ x. rest _ _ _ (sum_by-cons (one_if (λ y. same x y)) z zs) (f x)))
  where
    first : (m n : ℕ) → m ≡ 1 + n → m ≤ 1 → n ≡ 0
    first m n e h = omega arith

    rest : (m k n : ℕ) → m ≡ k + n → m ≤ 1 → n ≤ 1
    rest m k n e h = omega arith

pub apart_any_order : (xs ys : List Class) → IsPermutation xs ys → AreDistinct xs → AreDistinct ys
apart_any_order xs ys p a = apart_counts ys (λ x. let e : sum_by (one_if (λ y. same x y)) ys ≡ sum_by (one_if (λ y. same x y)) xs = sum_by-IsPermutation (one_if (λ y. same x y)) xs ys p in let h : sum_by (one_if (λ y. same x y)) xs ≤ 1 = counts_apart xs x a in omega arith)

-- the classes are apart
apart_filter : (t : Class → Bool) (xs : List Class) → AreDistinct xs → AreDistinct (filter t xs)
apart_filter t [] a = tt
apart_filter t (x ∷ xs) a = elim (decide (t x)) [
  | inl e ↦ rw e (all_filter (λ y. same x y ≡ false) t xs a.0, apart_filter t xs a.1)
  | inr e ↦ rw e (apart_filter t xs a.1)
]
  where
    all_filter : (P : Class → Type 0) (t : Class → Bool) (xs : List Class) → AllByRecursion P xs → AllByRecursion P (filter t xs)
    all_filter P t [] a = tt
    all_filter P t (y ∷ ys) a = elim (decide (t y)) [
      | inl e ↦ rw e (a.0, all_filter P t ys a.1)
      | inr e ↦ rw e (all_filter P t ys a.1)
    ]

pub classes_apart : (races : List Class) → AreDistinct (each_once races)
classes_apart [] = tt
classes_apart (x ∷ xs) = (others x (each_once xs), apart_filter (λ y. not (same y x)) (each_once xs) (classes_apart xs))
  where
    turned : (x y : Class) → same y x ≡ false → same x y ≡ false
    turned x y e = grind (arith, nat_tests)

    others : (x : Class) (xs : List Class) → AllByRecursion (λ y. same x y ≡ false) (filter (λ y. not (same y x)) xs)
    others x [] = tt
    others x (y ∷ ys) = elim (decide (same y x)) [
      | inl t ↦ rw t (others x ys)
      | inr n ↦ rw n (turned x y n, others x ys)
    ]

-- distinct classes are their own set
pub once_distinct : (xs : List Class) → AreDistinct xs → each_once xs ≡ xs
once_distinct [] a = refl
once_distinct (x ∷ xs) a = ap (λ (zs : List Class). x ∷ filter (λ y. not (same y x)) zs) (once_distinct xs a.1) ∙ ap (λ (zs : List Class). x ∷ zs) (all_kept x xs a.0)
  where
    all_kept : (x : Class) (xs : List Class) → AllByRecursion (λ y. same x y ≡ false) xs → filter (λ y. not (same y x)) xs ≡ xs
    all_kept x [] a = refl
    all_kept x (y ∷ ys) a = let n : same y x ≡ false = same_sym y x ∙ a.0 in rw n (ap (λ (zs : List Class). y ∷ zs) (all_kept x ys a.1))

pub maximal_distinct : (joined : ℕ → ℕ → Bool) (xs : List Class) → AreDistinct xs → AreDistinct (maximal_of joined xs)
maximal_distinct joined xs a = apart_filter (λ y. is_maximal joined xs y) xs a
