-- Of an ascending list, the numbers that a later one does not cover are the links.
use Rattle.std.proofs.Common.{◌≡◌, ℕ, suc, ◌+◌, ◌<◌, ◌≤◌, Bool, true, false, List, [], ◌∷◌, length, get_or, eqb, All, refl, sym, ap, ◌∙◌, arith, subst, inl, inr}
use Rattle.std.specs.Prelude.{◌==◌, ◌||◌, ◌&&◌, not, nat_lt}
use Rattle.std.specs.List.{list_any, AllByRecursion, dedup, dedup_from}
use Rattle.std.specs.List.Sorted.{IsStrictlyIncreasing}
use Rattle.std.proofs.lemmas.List.Elements.{recursion_from_All, All-from_recursion}
use Rattle.std.proofs.lemmas.Bool.Decides.{nat_tests}
use Rattle.er_paths.specs.Paths.{joins, is_among}
use Rattle.er_paths.specs.links.Links.{numbers_below}
use Rattle.er_paths.proofs.Paths.{paths_go_forward}
use Rattle.er_paths.proofs.links.Tests.{decide, never, apart_true, any_members}
use Rattle.er_paths.proofs.links.Links.{keeps, keeps_parts, kept_of}
use Rattle.er_paths.proofs.links.Ascending.{Rises, rises_from, rises_filter, rises_below, rises_lack, same_rising, member_filter, member_below}
use Rattle.er_clocks.specs.Sources.{uncovered}

rises_uncovered : (joined : ℕ → ℕ → Bool) (lo : ℕ) (xs : List ℕ) → Rises lo xs → Rises lo (uncovered joined xs)
rises_uncovered joined lo [] a = tt
rises_uncovered joined lo (x ∷ xs) a = elim (decide (list_any (λ k. joined x k) xs)) [
  | inl e ↦ rw e (let b : lo ≤ x = a.0 in rises_from lo (suc x) (uncovered joined xs) (omega arith) (rises_uncovered joined (suc x) xs a.1))
  | inr e ↦ rw e (a.0, rises_uncovered joined (suc x) xs a.1)
]

-- beyond i, others than i are all
others_all : (f : ℕ → Bool) (lo : ℕ) (xs : List ℕ) (i : ℕ) → Rises lo xs → i < lo → list_any (λ k. not (k == i) && f k) xs ≡ list_any f xs
others_all f lo [] i a h = refl
others_all f lo (x ∷ xs) i a h =
    let b : lo ≤ x = a.0 in
    let e : not (x == i) ≡ true = apart_true i x (λ s. absurd (omega arith)) in
    ap (λ (c : Bool). (c && f x) || list_any (λ k. not (k == i) && f k) xs) e ∙ ap (λ (c : Bool). f x || c) (others_all f (suc x) xs i a.1 (omega arith))

-- no path leads back from a later number
none_back : (lists : List (List ℕ)) (x : ℕ) (xs : List ℕ) (i : ℕ) → Rises (suc x) xs → is_among i xs ≡ true → joins lists i x ≡ false
none_back lists x xs i a e = never (joins lists i x) (λ h.
    let f = paths_go_forward lists i x h in
    let lack = rises_lack (suc x) xs i a (omega (arith, f.0)) in absurd (cc))

member_uncovered : (lists : List (List ℕ)) (lo : ℕ) (xs : List ℕ) (i : ℕ) → Rises lo xs
    → is_among i (uncovered (joins lists) xs) ≡ (is_among i xs && not (list_any (λ k. not (k == i) && joins lists i k) xs))
member_uncovered lists lo [] i a = refl
member_uncovered lists lo (x ∷ xs) i a = elim (decide (x == i)) [
  | inl s ↦
      let same : x ≡ i = grind (arith, nat_tests) in
      let T : ℕ → Type 0 = λ m. is_among m (uncovered (joins lists) (x ∷ xs)) ≡ (is_among m (x ∷ xs) && not (list_any (λ k. not (k == m) && joins lists m k) (x ∷ xs))) in
      subst T same (itself lists x xs a.1)
  | inr n ↦ later lists x xs i n a.1 (member_uncovered lists (suc x) xs i a.1)
]
  where
    itself : (lists : List (List ℕ)) (x : ℕ) (xs : List ℕ) → Rises (suc x) xs → is_among x (uncovered (joins lists) (x ∷ xs)) ≡ (is_among x (x ∷ xs) && not (list_any (λ k. not (k == x) && joins lists x k) (x ∷ xs)))
    itself lists x xs a =
        let all = others_all (λ k. joins lists x k) (suc x) xs x a (omega arith) in
        let lack = rises_lack (suc x) (uncovered (joins lists) xs) x (rises_uncovered (joins lists) (suc x) xs a) (omega arith) in
        elim (decide (list_any (λ k. joins lists x k) xs)) [
          | inl e ↦ rw e (grind (arith, nat_tests))
          | inr e ↦ rw e (grind (arith, nat_tests))
        ]

    later : (lists : List (List ℕ)) (x : ℕ) (xs : List ℕ) (i : ℕ) → (x == i) ≡ false → Rises (suc x) xs → is_among i (uncovered (joins lists) xs) ≡ (is_among i xs && not (list_any (λ k. not (k == i) && joins lists i k) xs))
        → is_among i (uncovered (joins lists) (x ∷ xs)) ≡ (is_among i (x ∷ xs) && not (list_any (λ k. not (k == i) && joins lists i k) (x ∷ xs)))
    later lists x xs i n a known =
        let left : is_among i (uncovered (joins lists) (x ∷ xs)) ≡ is_among i (uncovered (joins lists) xs) = elim (decide (list_any (λ k. joins lists x k) xs)) [
          | inl e ↦ rw e refl
          | inr e ↦ rw e (grind (arith, nat_tests))
        ] in
        left ∙ known ∙ elim (decide (is_among i xs)) [
          | inl e ↦ let back = none_back lists x xs i a e in rw (n, e, back) refl
          | inr e ↦ rw (n, e) refl
        ]

pub below_listed : (n : ℕ) (xs : List ℕ) (x : ℕ) → AllByRecursion (λ k. k < n) xs → is_among x xs ≡ true → x < n
below_listed n [] x a e = absurd (cc)
below_listed n (y ∷ ys) x a e = grind (arith, nat_tests, below_listed n ys x a.1)

-- of a list with the same members, ascending, the uncovered ones are the links
pub uncovered_kept : (older : List (List ℕ)) (p s : List ℕ) → Rises 0 s → ((i : ℕ) → is_among i s ≡ is_among i p) → AllByRecursion (λ k. k < length older) s → uncovered (joins older) s ≡ kept_of older p
uncovered_kept older p s a same known =
    same_rising 0 (uncovered (joins older) s) (kept_of older p) (rises_uncovered (joins older) 0 s a) (rises_filter (λ i. keeps (joins older) p i) 0 (numbers_below (length older)) (rises_below (length older))) (λ i.
    member_uncovered older 0 s i a ∙ ap (λ (b : Bool). b && not (list_any (λ k. not (k == i) && joins older i k) s)) (same i)
    ∙ ap (λ (b : Bool). is_among i p && not b) (any_members (λ k. not (k == i) && joins older i k) s p same)
    ∙ sym (member_filter (λ x. keeps (joins older) p x) (numbers_below (length older)) i ∙ ap (λ (b : Bool). b && keeps (joins older) p i) (member_below (length older) i) ∙ within i))
  where
    within : (i : ℕ) → (nat_lt i (length older) && keeps (joins older) p i) ≡ keeps (joins older) p i
    within i = elim (decide (keeps (joins older) p i)) [
      | inl k ↦ let less : i < length older = below_listed (length older) s i known (same i ∙ (keeps_parts (joins older) p i k).0) in rw k (grind (arith, nat_tests))
      | inr n ↦ rw n (grind (arith, nat_tests))
    ]

-- sorted, and without repeats

rises_above : (lo : ℕ) (xs : List ℕ) → IsStrictlyIncreasing xs → (0 < length xs → lo ≤ get_or xs 0 0) → Rises lo xs
rises_above lo [] a h = tt
rises_above lo (x ∷ xs) a h = (
  h (omega arith),
  rises_above (suc x) xs
      (λ k l.
      let b : get_or (x ∷ xs) (suc k) 0 < get_or (x ∷ xs) (suc k + 1) 0 = a (suc k) (omega arith) in
      let e : suc k + 1 ≡ suc (k + 1) = omega arith in
      let P : ℕ → Type 0 = λ m. get_or xs k 0 < get_or (x ∷ xs) m 0 in subst P e b)
      (λ l. let b : get_or (x ∷ xs) 0 0 < get_or (x ∷ xs) (0 + 1) 0 = a 0 (omega arith) in b),
)

pub rises_sorted : (xs : List ℕ) → IsStrictlyIncreasing xs → Rises 0 xs
rises_sorted xs a = rises_above 0 xs a (λ h. omega arith)

member_dedup_from : (x : ℕ) (xs : List ℕ) (i : ℕ) → is_among i (dedup_from eqb x xs) ≡ ((x == i) || is_among i xs)
member_dedup_from x [] i = refl
member_dedup_from x (y ∷ ys) i = elim (decide (y == x)) [
  | inl t ↦ rw t (member_dedup_from x ys i ∙ grind (arith, nat_tests))
  | inr n ↦ rw n (ap (λ (b : Bool). (x == i) || b) (member_dedup_from y ys i))
]

pub member_dedup : (xs : List ℕ) (i : ℕ) → is_among i (dedup eqb xs) ≡ is_among i xs
member_dedup [] i = refl
member_dedup (x ∷ xs) i = member_dedup_from x xs i

-- numbers of one set are below the same bound

pub all_listed : (n : ℕ) (xs : List ℕ) → ((x : ℕ) → is_among x xs ≡ true → x < n) → AllByRecursion (λ k. k < n) xs
all_listed n [] f = tt
all_listed n (x ∷ xs) f = (f x (grind (arith, nat_tests)), all_listed n xs (λ y h. f y (grind (arith))))

pub known_same : (n : ℕ) (s p : List ℕ) → ((i : ℕ) → is_among i s ≡ is_among i p) → All (λ k. k < n) p → All (λ k. k < n) s
known_same n s p same a = All-from_recursion (λ k. k < n) s (all_listed n s (λ x h. below_listed n p x (recursion_from_All (λ k. k < n) p a) (sym (same x) ∙ h)))
