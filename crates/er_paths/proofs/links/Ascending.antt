-- Ascending lists: one for each set of numbers. The sources of links are ascending.
use Rattle.std.proofs.Common.{◌≡◌, ℕ, zero, suc, ◌+◌, ◌<◌, ◌≤◌, Bool, true, false, List, [], ◌∷◌, ◌++◌, length, get_or, refl, sym, ap, ◌∙◌, arith, subst, inl, inr}
use Rattle.std.specs.Prelude.{◌==◌, ◌&&◌, nat_lt}
use Rattle.std.specs.List.{AllByRecursion, filter}
use Rattle.std.specs.List.Sorted.{IsStrictlyIncreasing}
use Rattle.std.proofs.lemmas.Bool.Decides.{nat_tests}
use Rattle.er_paths.specs.Paths.{joins, is_among}
use Rattle.er_paths.specs.links.Links.{numbers_below, is_link, links_of}
use Rattle.er_paths.specs.links.Laws.{LinksAscend}
use Rattle.er_paths.proofs.Paths.{paths_go_forward}
use Rattle.er_paths.proofs.links.Tests.{decide, same_test}
use Rattle.er_paths.proofs.links.Links.{any_below, some_below, all_below, link_parts}

-- strictly ascending from lo on
abbrev pub Rises : ℕ → List ℕ → Type 0
Rises lo [] = Unit {0}
Rises lo (x ∷ xs) = (lo ≤ x) × Rises (suc x) xs

pub rises_from : (lo hi : ℕ) (xs : List ℕ) → lo ≤ hi → Rises hi xs → Rises lo xs
rises_from lo hi [] h a = tt
rises_from lo hi (x ∷ xs) h a = (let b : hi ≤ x = a.0 in omega arith, a.1)

pub rises_filter : (t : ℕ → Bool) (lo : ℕ) (xs : List ℕ) → Rises lo xs → Rises lo (filter t xs)
rises_filter t lo [] a = tt
rises_filter t lo (x ∷ xs) a = elim (decide (t x)) [
  | inl e ↦ rw e (a.0, rises_filter t (suc x) xs a.1)
  | inr e ↦ rw e (let b : lo ≤ x = a.0 in rises_from lo (suc x) (filter t xs) (omega arith) (rises_filter t (suc x) xs a.1))
]

rises_end : (lo n : ℕ) (xs : List ℕ) → Rises lo xs → lo ≤ n → AllByRecursion (λ k. k < n) xs → Rises lo (xs ++ n ∷ [])
rises_end lo n [] a h b = (h, tt)
rises_end lo n (x ∷ xs) a h b = (a.0, rises_end (suc x) n xs a.1 b.0 b.1)

pub rises_below : (n : ℕ) → Rises 0 (numbers_below n)
rises_below zero = tt
rises_below (suc n) = rises_end 0 n (numbers_below n) (rises_below n) (omega arith) (all_below n)

pub rises_lack : (lo : ℕ) (xs : List ℕ) (x : ℕ) → Rises lo xs → x < lo → is_among x xs ≡ false
rises_lack lo [] x a h = refl
rises_lack lo (y ∷ ys) x a h = let b : lo ≤ y = a.0 in grind (arith, nat_tests, rises_lack (suc y) ys x a.1)

same_heads : (x y : ℕ) (xs ys : List ℕ) → Rises (suc x) xs → Rises (suc y) ys → ((i : ℕ) → is_among i (x ∷ xs) ≡ is_among i (y ∷ ys)) → x ≡ y
same_heads x y xs ys a b f = elim (decide (nat_lt x y)) [
  | inl l ↦ let e = f x in let n = rises_lack (suc y) ys x b (grind (arith, nat_tests)) in absurd (grind (arith, nat_tests))
  | inr l ↦ elim (decide (nat_lt y x)) [
    | inl k ↦ let e = f y in let n = rises_lack (suc x) xs y a (grind (arith, nat_tests)) in absurd (grind (arith, nat_tests))
    | inr k ↦ grind (arith, nat_tests)
  ]
]

same_tails : (x : ℕ) (xs ys : List ℕ) → Rises (suc x) xs → Rises (suc x) ys → ((i : ℕ) → is_among i (x ∷ xs) ≡ is_among i (x ∷ ys)) → (i : ℕ) → is_among i xs ≡ is_among i ys
same_tails x xs ys a b f i = elim (decide (x == i)) [
  | inl same ↦ let e : x ≡ i = grind (arith, nat_tests) in rises_lack (suc x) xs i a (omega arith) ∙ sym (rises_lack (suc x) ys i b (omega arith))
  | inr other ↦ let e = f i in grind (arith, nat_tests)
]

pub same_rising : (lo : ℕ) (xs ys : List ℕ) → Rises lo xs → Rises lo ys → ((i : ℕ) → is_among i xs ≡ is_among i ys) → xs ≡ ys
same_rising lo [] [] a b f = refl
same_rising lo [] (y ∷ ys) a b f = let e = f y in absurd (grind (arith, nat_tests))
same_rising lo (x ∷ xs) [] a b f = let e = f x in absurd (grind (arith, nat_tests))
same_rising lo (x ∷ xs) (y ∷ ys) a b f =
    let e : x ≡ y = same_heads x y xs ys a.1 b.1 f in
    let Y : ℕ → Type 0 = λ m. Rises (suc m) ys in
    let F : ℕ → Type 0 = λ m. (i : ℕ) → is_among i (x ∷ xs) ≡ is_among i (m ∷ ys) in
    ap (λ (m : ℕ). m ∷ xs) e ∙ ap (λ (zs : List ℕ). y ∷ zs) (same_rising (suc x) xs ys a.1 (subst Y (sym e) b.1) (same_tails x xs ys a.1 (subst Y (sym e) b.1) (subst F (sym e) f)))

pub member_filter : (t : ℕ → Bool) (xs : List ℕ) (i : ℕ) → is_among i (filter t xs) ≡ (is_among i xs && t i)
member_filter t [] i = refl
member_filter t (x ∷ xs) i = elim (decide (t x)) [
  | inl e ↦ rw e (elim (decide (x == i)) [
    | inl s ↦ let same : x ≡ i = grind (arith, nat_tests) in let T : ℕ → Type 0 = λ m. t m ≡ true in let k : t i ≡ true = subst T same e in grind (arith, nat_tests)
    | inr n ↦ grind (arith, member_filter t xs i)
  ])
  | inr e ↦ rw e (elim (decide (x == i)) [
    | inl s ↦ let same : x ≡ i = grind (arith, nat_tests) in let T : ℕ → Type 0 = λ m. t m ≡ false in let k : t i ≡ false = subst T same e in grind (arith, nat_tests, member_filter t xs i)
    | inr n ↦ grind (arith, member_filter t xs i)
  ])
]

pub member_below : (n i : ℕ) → is_among i (numbers_below n) ≡ nat_lt i n
member_below n i = same_test _ _
    (λ h. let r = some_below (λ m. m == i) n h in let e = r.2 in let l : r.0 < n = r.1 in grind (arith, nat_tests))
    (λ h. any_below (λ m. m == i) n i (grind (arith, nat_tests)) (grind (arith, nat_tests)))

-- the sources of links

rises_increase : (lo : ℕ) (xs : List ℕ) → Rises lo xs → IsStrictlyIncreasing xs
rises_increase lo [] a i h = absurd (omega arith)
rises_increase lo (x ∷ []) a i h = absurd (omega arith)
rises_increase lo (x ∷ y ∷ ys) a zero h = let b : suc x ≤ y = a.1.0 in omega arith
rises_increase lo (x ∷ y ∷ ys) a (suc i) h =
    let e : suc (i + 1) ≡ suc i + 1 = omega arith in
    let P : ℕ → Type 0 = λ m. get_or (y ∷ ys) i 0 < get_or (x ∷ y ∷ ys) m 0 in subst P e (rises_increase (suc x) (y ∷ ys) a.1 i (omega arith))

pub member_links : (lists : List (List ℕ)) (j i : ℕ) → is_among i (links_of lists j) ≡ is_link lists i j
member_links lists j i = member_filter (λ k. is_link lists k j) (numbers_below (length lists)) i ∙ ap (λ (b : Bool). b && is_link lists i j) (member_below (length lists) i) ∙ within
  where
    within : (nat_lt i (length lists) && is_link lists i j) ≡ is_link lists i j
    within = elim (decide (is_link lists i j)) [
      | inl e ↦
          let l = link_parts (joins lists) (length lists) i j e in
          let f = paths_go_forward lists i j l.1 in
          let less : i < length lists = omega (arith, f.0, f.1) in rw e (grind (arith, nat_tests))
      | inr e ↦ rw e (grind (arith, nat_tests))
    ]

pub links_ascend : LinksAscend
links_ascend lists j = (rises_increase 0 (links_of lists j) (rises_filter (λ i. is_link lists i j) 0 (numbers_below (length lists)) (rises_below (length lists))), member_links lists j)
