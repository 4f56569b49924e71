-- Proofs of the laws of links, and which of the handed numbers are the links.
use Rattle.std.proofs.Common.{◌≡◌, ◌≢◌, ℕ, zero, suc, ◌+◌, ◌<◌, ◌≤◌, Bool, true, false, List, [], ◌∷◌, ◌++◌, length, refl, sym, ap, ◌∙◌, arith, subst, inl, inr, length-append}
use Rattle.std.specs.Prelude.{◌==◌, ◌||◌, ◌&&◌, not, if◌then◌else◌, ◌↔◌}
use Rattle.std.specs.List.{list_any, AllByRecursion, filter}
use Rattle.std.proofs.lemmas.List.Elements.{filter-append}
use Rattle.std.proofs.lemmas.Bool.Decides.{nat_tests}
use Rattle.std.proofs.Math.Path.{fun_ext}
use Rattle.er_paths.specs.Paths.{joins, is_among}
use Rattle.er_paths.specs.links.Links.{numbers_below, is_between, link_among, links_of, links_to, links}
use Rattle.er_paths.specs.links.Laws.{LeadsBy, LinksStay, LinksHaveThePaths, LinksAreDirect, LinksAreLeast, LinksOfPaths}
use Rattle.er_paths.proofs.Paths.{or_cases, any_some, any_from, joins_older, joins_newest_cases, joins_listed, joins_below, paths_compose, paths_go_forward, paths_stand}
use Rattle.er_paths.proofs.links.Tests.{decide, same_test, both, and_true, not_true, not_false, never, apart, apart_true, any_same}

-- tests over lists

any_filter : (q t : ℕ → Bool) (xs : List ℕ) → list_any q (filter t xs) ≡ list_any (λ x. t x && q x) xs
any_filter q t [] = refl
any_filter q t (x ∷ xs) = elim (decide (t x)) [
  | inl e ↦ rw e (ap (λ (b : Bool). q x || b) (any_filter q t xs))
  | inr e ↦ rw e (any_filter q t xs)
]

pub any_append : (q : ℕ → Bool) (xs ys : List ℕ) → list_any q (xs ++ ys) ≡ (list_any q xs || list_any q ys)
any_append q [] ys = refl
any_append q (x ∷ xs) ys = grind (arith, any_append q xs ys)

pub any_below : (q : ℕ → Bool) (n k : ℕ) → k < n → q k ≡ true → list_any q (numbers_below n) ≡ true
any_below q zero k l e = absurd (omega arith)
any_below q (suc n) k l e = elim (decide (k == n)) [
  | inl same ↦ let s : k ≡ n = grind (arith, nat_tests) in grind (arith, any_append q (numbers_below n) (n ∷ []))
  | inr other ↦ let less : k < n = grind (arith, nat_tests) in grind (arith, any_append q (numbers_below n) (n ∷ []), any_below q n k less e)
]

pub some_below : (q : ℕ → Bool) (n : ℕ) → list_any q (numbers_below n) ≡ true → (k : ℕ) × (k < n) × (q k ≡ true)
some_below q zero e = absurd (cc)
some_below q (suc n) e = elim (or_cases (list_any q (numbers_below n)) (list_any q (n ∷ [])) (sym (any_append q (numbers_below n) (n ∷ [])) ∙ e)) [
  | inl t ↦ let r = some_below q n t in (r.0, omega arith, r.2)
  | inr t ↦ (n, omega arith, elim (or_cases (q n) false t) [ inl u ↦ u | inr u ↦ absurd (cc) ])
]

-- paths to the newest

pub joins_still : (p : List ℕ) (older : List (List ℕ)) (i j : ℕ) → joins older i j ≡ true → joins (p ∷ older) i j ≡ true
joins_still p older i j h = joins_older p older i j (joins_below older i j h) ∙ h

last_step : (p : List ℕ) (older : List (List ℕ)) (i : ℕ) → i ≢ length older → joins (p ∷ older) i (length older) ≡ true → (m : ℕ) × (is_among m p ≡ true) × (joins older i m ≡ true)
last_step p older i n h = elim (joins_newest_cases p older i (length older) refl h) [
  | inl same ↦ absurd (n same)
  | inr step ↦ step
]

-- a member that is an action
into_last : (p : List ℕ) (older : List (List ℕ)) (i : ℕ) → i < length older → is_among i p ≡ true → joins (p ∷ older) i (length older) ≡ true
into_last p older i l e = joins_listed p older i i (length older) refl e (paths_stand older i l)

-- what the tests say

between_parts : (joined : ℕ → ℕ → Bool) (i j k : ℕ) → is_between joined i j k ≡ true → (k ≢ i) × (k ≢ j) × (joined i k ≡ true) × (joined k j ≡ true)
between_parts joined i j k h =
    let b = both (not (k == i) && not (k == j)) (joined i k && joined k j) h in
    let c = both (not (k == i)) (not (k == j)) b.0 in
    let d = both (joined i k) (joined k j) b.1 in (apart i k c.0, apart j k c.1, d.0, d.1)

between_made : (joined : ℕ → ℕ → Bool) (i j k : ℕ) → k ≢ i → k ≢ j → joined i k ≡ true → joined k j ≡ true → is_between joined i j k ≡ true
between_made joined i j k a b c d = and_true _ _ (and_true _ _ (apart_true i k a) (apart_true j k b)) (and_true _ _ c d)

pub link_parts : (joined : ℕ → ℕ → Bool) (n i j : ℕ) → link_among joined n i j ≡ true → (i ≢ j) × (joined i j ≡ true) × ((k : ℕ) → k < n → is_between joined i j k ≡ true → ⊥)
link_parts joined n i j h =
    let b = both (not (i == j) && joined i j) (not (list_any (is_between joined i j) (numbers_below n))) h in
    let c = both (not (i == j)) (joined i j) b.0 in (
      apart j i c.0,
      c.1,
      λ k l t.
          let e : list_any (is_between joined i j) (numbers_below n) ≡ true = any_below (is_between joined i j) n k l t in
          let z : list_any (is_between joined i j) (numbers_below n) ≡ false = not_true _ b.1 in cc,
    )

link_made : (joined : ℕ → ℕ → Bool) (n i j : ℕ) → i ≢ j → joined i j ≡ true → ((k : ℕ) → k < n → is_between joined i j k ≡ true → ⊥) → link_among joined n i j ≡ true
link_made joined n i j a b f = and_true _ _ (and_true _ _ (apart_true j i a) b) (not_false _ (never (list_any (is_between joined i j) (numbers_below n)) (λ t. let r = some_below (is_between joined i j) n t in f r.0 r.1 r.2)))

-- of the listed numbers, i has no path to another
abbrev pub keeps : (ℕ → ℕ → Bool) → List ℕ → ℕ → Bool
keeps joined p i = is_among i p && not (list_any (λ k. not (k == i) && joined i k) p)

-- those that are actions, ascending
abbrev pub kept_of : List (List ℕ) → List ℕ → List ℕ
kept_of older p = filter (λ i. keeps (joins older) p i) (numbers_below (length older))

pub keeps_parts : (joined : ℕ → ℕ → Bool) (p : List ℕ) (i : ℕ) → keeps joined p i ≡ true → (is_among i p ≡ true) × ((k : ℕ) → is_among k p ≡ true → k ≢ i → joined i k ≡ true → ⊥)
keeps_parts joined p i h =
    let b = both (is_among i p) (not (list_any (λ k. not (k == i) && joined i k) p)) h in (
      b.0,
      λ k l n t.
          let e : list_any (λ k. not (k == i) && joined i k) p ≡ true = any_from (λ k. not (k == i) && joined i k) k p l (and_true _ _ (apart_true i k n) t) in
          let z : list_any (λ k. not (k == i) && joined i k) p ≡ false = not_true _ b.1 in cc,
    )

keeps_made : (joined : ℕ → ℕ → Bool) (p : List ℕ) (i : ℕ) → is_among i p ≡ true → ((k : ℕ) → is_among k p ≡ true → k ≢ i → joined i k ≡ true → ⊥) → keeps joined p i ≡ true
keeps_made joined p i a f = and_true _ _ a (not_false _ (never (list_any (λ k. not (k == i) && joined i k) p) (λ t.
    let r = any_some (λ k. not (k == i) && joined i k) p t in
    let b = both (not (r.0 == i)) (joined i r.0) r.2 in f r.0 r.1 (apart i r.0 b.0) b.1)))

-- the links into the newest are the listed actions that have no path to another

link_keeps : (p : List ℕ) (older : List (List ℕ)) (i : ℕ) → link_among (joins (p ∷ older)) (suc (length older)) i (length older) ≡ true → keeps (joins older) p i ≡ true
link_keeps p older i h =
    let l = link_parts (joins (p ∷ older)) (suc (length older)) i (length older) h in
    let alone : (k : ℕ) → is_among k p ≡ true → k ≢ i → joins older i k ≡ true → ⊥ =
    λ k e n t. let less = joins_below older i k t in l.2 k (omega arith) (between_made (joins (p ∷ older)) i (length older) k n (λ s. absurd (omega arith)) (joins_still p older i k t) (into_last p older k less e)) in
    let m = last_step p older i l.0 l.1 in
    elim (decide (m.0 == i)) [
      | inl same ↦ let e : m.0 ≡ i = grind (arith, nat_tests) in let In : ℕ → Type 0 = λ x. is_among x p ≡ true in keeps_made (joins older) p i (subst In e m.1) alone
      | inr other ↦ absurd (alone m.0 m.1 (apart i m.0 (not_false _ other)) m.2)
    ]

none_between : (p : List ℕ) (older : List (List ℕ)) (i k : ℕ) → ((k : ℕ) → is_among k p ≡ true → k ≢ i → joins older i k ≡ true → ⊥) → k < suc (length older)
    → (k ≢ i) × (k ≢ length older) × (joins (p ∷ older) i k ≡ true) × (joins (p ∷ older) k (length older) ≡ true) → ⊥
none_between p older i k alone l t =
    let less : k < length older = omega (arith, t.1) in
    let up : joins older i k ≡ true = sym (joins_older p older i k less) ∙ t.2 in
    let m = last_step p older k t.1 t.3 in
    let through : joins older i m.0 ≡ true = paths_compose older i k m.0 up m.2 in
    let a = paths_go_forward older i k up in
    let z = paths_go_forward older k m.0 m.2 in
    alone m.0 m.1 (λ s. t.0 (omega (arith, a.0, z.0))) through

keeps_link : (p : List ℕ) (older : List (List ℕ)) (i : ℕ) → i < length older → keeps (joins older) p i ≡ true → link_among (joins (p ∷ older)) (suc (length older)) i (length older) ≡ true
keeps_link p older i less h =
    let a = keeps_parts (joins older) p i h in
    link_made (joins (p ∷ older)) (suc (length older)) i (length older) (λ s. absurd (omega arith)) (into_last p older i less a.0)
    (λ k l t. none_between p older i k a.1 l (between_parts (joins (p ∷ older)) i (length older) k t))

kept_is_link : (p : List ℕ) (older : List (List ℕ)) (i : ℕ) → i < length older → link_among (joins (p ∷ older)) (suc (length older)) i (length older) ≡ keeps (joins older) p i
kept_is_link p older i less = same_test _ _ (link_keeps p older i) (keeps_link p older i less)

-- one list more changes no earlier link
link_still : (p : List ℕ) (older : List (List ℕ)) (i j : ℕ) → j < length older → link_among (joins (p ∷ older)) (suc (length older)) i j ≡ link_among (joins older) (length older) i j
link_still p older i j l = same_test _ _
    (λ h. let a = link_parts (joins (p ∷ older)) (suc (length older)) i j h in link_made (joins older) (length older) i j a.0 (sym (joins_older p older i j l) ∙ a.1)
    (λ k m t. let b = between_parts (joins older) i j k t in a.2 k (omega arith) (between_made (joins (p ∷ older)) i j k b.0 b.1 (joins_older p older i k m ∙ b.2) (joins_older p older k j l ∙ b.3))))
    (λ h. let a = link_parts (joins older) (length older) i j h in link_made (joins (p ∷ older)) (suc (length older)) i j a.0 (joins_older p older i j l ∙ a.1)
    (λ k m t. let b = between_parts (joins (p ∷ older)) i j k t in
    let up : joins older k j ≡ true = sym (joins_older p older k j l) ∙ b.3 in
    let f = paths_go_forward older k j up in
    let less : k < length older = omega (arith, f.0) in
    a.2 k less (between_made (joins older) i j k b.0 b.1 (sym (joins_older p older i k less) ∙ b.2) up)))

-- lists of links

append_none : (xs : List ℕ) → xs ++ [] ≡ xs
append_none [] = refl
append_none (x ∷ xs) = ap (λ (ys : List ℕ). x ∷ ys) (append_none xs)

below_end : (n m : ℕ) (xs : List ℕ) → m < n → AllByRecursion (λ k. k < n) xs → AllByRecursion (λ k. k < n) (xs ++ m ∷ [])
below_end n m [] h a = (h, tt)
below_end n m (x ∷ xs) h a = (a.0, below_end n m xs h a.1)

below_to : (n m : ℕ) → m ≤ n → AllByRecursion (λ k. k < n) (numbers_below m)
below_to n zero h = tt
below_to n (suc m) h = below_end n m (numbers_below m) (omega arith) (below_to n m (omega arith))

pub all_below : (n : ℕ) → AllByRecursion (λ k. k < n) (numbers_below n)
all_below n = below_to n n (omega arith)

filter_same : (t r : ℕ → Bool) (n : ℕ) (xs : List ℕ) → AllByRecursion (λ k. k < n) xs → ((k : ℕ) → k < n → t k ≡ r k) → filter t xs ≡ filter r xs
filter_same t r n [] a f = refl
filter_same t r n (x ∷ xs) a f = rw (f x a.0) (ap (λ (zs : List ℕ). if r x then x ∷ zs else zs) (filter_same t r n xs a.1 f))

-- the newest is the source of no link
none_from : (p : List ℕ) (older : List (List ℕ)) (j : ℕ) → j ≤ length older → filter (λ i. link_among (joins (p ∷ older)) (suc (length older)) i j) (length older ∷ []) ≡ []
none_from p older j l =
    let none : link_among (joins (p ∷ older)) (suc (length older)) (length older) j ≡ false = never _ (λ h.
    let a = link_parts (joins (p ∷ older)) (suc (length older)) (length older) j h in
    let f = paths_go_forward (p ∷ older) (length older) j a.1 in a.0 (omega (arith, f.0))) in
    rw none refl

links_earlier : (p : List ℕ) (older : List (List ℕ)) (j : ℕ) (r : ℕ → Bool) → j ≤ length older → ((i : ℕ) → i < length older → link_among (joins (p ∷ older)) (suc (length older)) i j ≡ r i) → links_of (p ∷ older) j ≡ filter r (numbers_below (length older))
links_earlier p older j r l f =
    let t : ℕ → Bool = λ i. link_among (joins (p ∷ older)) (suc (length older)) i j in
    filter-append t (numbers_below (length older)) (length older ∷ []) ∙ ap (λ (ys : List ℕ). filter t (numbers_below (length older)) ++ ys) (none_from p older j l) ∙ append_none (filter t (numbers_below (length older)))
    ∙ filter_same t r (length older) (numbers_below (length older)) (all_below (length older)) f

links_still : (p : List ℕ) (older : List (List ℕ)) (j : ℕ) → j < length older → links_of (p ∷ older) j ≡ links_of older j
links_still p older j l = links_earlier p older j (λ i. link_among (joins older) (length older) i j) (omega arith) (λ i h. link_still p older i j l)

links_to_still : (p : List ℕ) (older : List (List ℕ)) (n : ℕ) → n ≤ length older → links_to (p ∷ older) n ≡ links_to older n
links_to_still p older zero l = refl
links_to_still p older (suc n) l = ap (λ (x : List ℕ). x ∷ links_to (p ∷ older) n) (links_still p older n (omega arith)) ∙ ap (λ (xs : List (List ℕ)). links_of older n ∷ xs) (links_to_still p older n (omega arith))

pub links_newest : (p : List ℕ) (older : List (List ℕ)) → links_of (p ∷ older) (length older) ≡ kept_of older p
links_newest p older = links_earlier p older (length older) (λ i. keeps (joins older) p i) (omega arith) (λ i h. kept_is_link p older i h)

-- one list more
pub links_grow : (p : List ℕ) (older : List (List ℕ)) → links (p ∷ older) ≡ kept_of older p ∷ links older
links_grow p older =
    ap (λ (x : List ℕ). x ∷ links_to (p ∷ older) (length older)) (links_newest p older)
    ∙ ap (λ (xs : List (List ℕ)). kept_of older p ∷ xs) (links_to_still p older (length older) (omega arith))

pub links_long : (lists : List (List ℕ)) (n : ℕ) → length (links_to lists n) ≡ n
links_long lists zero = refl
links_long lists (suc n) = ap suc (links_long lists n)

pub length-links : (lists : List (List ℕ)) → length (links lists) ≡ length lists
length-links lists = links_long lists (length lists)

-- the paths over the links

-- from each listed action a path leads to one that is kept
kept_above : (older : List (List ℕ)) (p : List ℕ) (d k : ℕ) → k < length older → length older ≤ k + d → is_among k p ≡ true → (m : ℕ) × (keeps (joins older) p m ≡ true) × (joins older k m ≡ true)
kept_above older p zero k less l e = absurd (omega arith)
kept_above older p (suc d) k less l e = elim (decide (list_any (λ m. not (m == k) && joins older k m) p)) [
  | inr none ↦ (k, and_true _ _ e (not_false _ none), paths_stand older k less)
  | inl t ↦
      let r = any_some (λ m. not (m == k) && joins older k m) p t in
      let b = both (not (r.0 == k)) (joins older k r.0) r.2 in
      let other : r.0 ≢ k = apart k r.0 b.0 in
      let up = paths_go_forward older k r.0 b.1 in
      let m = kept_above older p d r.0 up.1 (omega (arith, up.0, other)) r.1 in
      (m.0, m.1, paths_compose older k r.0 m.0 b.1 m.2)
]

pub any_kept : (older : List (List ℕ)) (p : List ℕ) (i : ℕ) → list_any (λ k. joins older i k) (kept_of older p) ≡ list_any (λ k. joins older i k) p
any_kept older p i = any_filter (λ k. joins older i k) (λ k. keeps (joins older) p k) (numbers_below (length older)) ∙ same_test _ _
    (λ h.
    let r = some_below (λ k. keeps (joins older) p k && joins older i k) (length older) h in
    let b = both (keeps (joins older) p r.0) (joins older i r.0) r.2 in
    any_from (λ k. joins older i k) r.0 p (keeps_parts (joins older) p r.0 b.0).0 b.1)
    (λ h.
    let r = any_some (λ k. joins older i k) p h in
    let m = kept_above older p (length older) r.0 (joins_below older i r.0 r.2) (omega arith) r.1 in
    any_below (λ k. keeps (joins older) p k && joins older i k) (length older) m.0 (joins_below older r.0 m.0 m.2) (and_true _ _ m.1 (paths_compose older i r.0 m.0 r.2 m.2)))

pub links_have_the_paths : LinksHaveThePaths
links_have_the_paths [] i j = refl
links_have_the_paths (p ∷ older) i j =
    let same : list_any (λ k. joins (links older) i k) (kept_of older p) ≡ list_any (λ k. joins older i k) p = any_same _ _ (kept_of older p) (λ k. links_have_the_paths older i k) ∙ any_kept older p i in
    ap (λ (lists : List (List ℕ)). joins lists i j) (links_grow p older)
    ∙ ap (λ n. if j == n then (i == j) || list_any (λ k. joins (links older) i k) (kept_of older p) else joins (links older) i j) (length-links older)
    ∙ ap (λ (b : Bool). if j == length older then (i == j) || b else joins (links older) i j) same
    ∙ ap (λ (b : Bool). if j == length older then (i == j) || list_any (λ k. joins older i k) p else b) (links_have_the_paths older i j)

-- a set with the same paths has each link
first_pair : (lists : List (List ℕ)) (pair : ℕ → ℕ → Bool) (i j : ℕ) (steps : List ℕ) → i ≢ j → j < length lists
    → ((k : ℕ) → k < length lists → is_between (joins lists) i j k ≡ true → ⊥)
    → ((i j : ℕ) → pair i j ≡ true → i ≢ j)
    → ((i j : ℕ) → j < length lists → (joins lists i j ≡ true) ↔ ((steps : List ℕ) × LeadsBy pair i steps j))
    → LeadsBy pair i steps j → pair i j ≡ true
first_pair lists pair i j [] other below none different same w = absurd (other w)
first_pair lists pair i j (k ∷ steps) other below none different same w = elim (decide (k == j)) [
  | inl e ↦ let s : k ≡ j = grind (arith, nat_tests) in let E : ℕ → Type 0 = λ m. pair i m ≡ true in subst E s w.0
  | inr n ↦
      let after : joins lists k j ≡ true = (same k j below).1 (steps, w.1) in
      let f = paths_go_forward lists k j after in
      let less : k < length lists = omega (arith, f.0) in
      let before : joins lists i k ≡ true = (same i k less).1 (k ∷ [], (w.0, refl)) in
      absurd (none k less (between_made (joins lists) i j k (λ s. different i k w.0 (sym s)) (apart j k (not_false _ n)) before after))
]

pub links_are_least : LinksAreLeast
links_are_least lists pair different same i j h =
    let l = link_parts (joins lists) (length lists) i j h in
    let below = joins_below lists i j l.1 in
    let w = (same i j below).0 l.1 in
    first_pair lists pair i j w.0 l.0 below l.2 different same w.1

pub links_stay : LinksStay
links_stay [] lists j h = refl
links_stay (p ∷ more) lists j h = links_still p (more ++ lists) j (omega (arith, length-append more lists)) ∙ links_stay more lists j h

-- lists with the same paths

links_to_same : (lists others : List (List ℕ)) → length lists ≡ length others → joins lists ≡ joins others → (n : ℕ) → links_to lists n ≡ links_to others n
links_to_same lists others long same zero = refl
links_to_same lists others long same (suc n) =
    let L : (ℕ → ℕ → Bool) → ℕ → List ℕ = λ joined m. filter (λ i. link_among joined m i n) (numbers_below m) in
    let one : links_of lists n ≡ links_of others n = ap (λ (joined : ℕ → ℕ → Bool). L joined (length lists)) same ∙ ap (λ (m : ℕ). L (joins others) m) long in
    ap (λ (x : List ℕ). x ∷ links_to lists n) one ∙ ap (λ (xs : List (List ℕ)). links_of others n ∷ xs) (links_to_same lists others long same n)

pub links_of_paths : LinksOfPaths
links_of_paths lists others long same =
    links_to_same lists others long (fun_ext (λ i. fun_ext (λ j. same i j))) (length lists) ∙ ap (λ (n : ℕ). links_to others n) long

-- as many links as earlier actions at most
filter_short : (t : ℕ → Bool) (xs : List ℕ) → length (filter t xs) ≤ length xs
filter_short t [] = omega arith
filter_short t (x ∷ xs) = elim (decide (t x)) [
  | inl e ↦ rw e (let l = filter_short t xs in omega arith)
  | inr e ↦ rw e (let l = filter_short t xs in omega arith)
]

length-numbers_below : (n : ℕ) → length (numbers_below n) ≡ n
length-numbers_below zero = refl
length-numbers_below (suc n) = let e = length-numbers_below n in omega (arith, length-append (numbers_below n) (n ∷ []))

pub kept_short : (older : List (List ℕ)) (p : List ℕ) → length (kept_of older p) ≤ length older
kept_short older p = let l = filter_short (λ i. keeps (joins older) p i) (numbers_below (length older)) in omega (arith, length-numbers_below (length older), l)

-- what a link is

pub links_are_direct : LinksAreDirect
links_are_direct lists i j = (
  λ h.
      let l = link_parts (joins lists) (length lists) i j h in
      (l.0, l.1, λ k a b c d. l.2 k (joins_below lists i k c) (between_made (joins lists) i j k a b c d)),
  λ h. link_made (joins lists) (length lists) i j h.0 h.1 (λ k m t. let b = between_parts (joins lists) i j k t in h.2 k b.0 b.1 b.2 b.3),
)
