-- Both orders of two actions that no path joins are lawful.
use Rattle.std.proofs.Common.{◌≡◌, ◌≢◌, ℕ, suc, ◌+◌, ◌<◌, ◌≤◌, Bool, true, false, List, [], ◌∷◌, ◌++◌, length, refl, sym, ap, ◌∙◌, arith, inl, inr, ◌⊎◌}
use Rattle.std.specs.Prelude.{◌==◌, ◌||◌, ◌&&◌, not, nat_lt}
use Rattle.std.specs.List.{list_any, filter}
use Rattle.std.proofs.lemmas.Bool.Decides.{nat_tests}
use Rattle.er_paths.specs.Paths.{joins, is_among}
use Rattle.er_paths.specs.Laws.{GoForward}
use Rattle.er_paths.proofs.Paths.{or_cases, or_left, or_right, any_some, any_from, edge_joins, paths_compose, paths_go_forward}
use Rattle.er_paths.specs.links.Links.{numbers_below}
use Rattle.er_paths.proofs.links.Tests.{decide, both, and_true, not_true, not_false, never, apart, apart_true}
use Rattle.er_paths.proofs.links.Ascending.{Rises, rises_below, rises_filter, member_filter, member_below}
use Rattle.er_paths.specs.orders.Orders.{times, has_each_once, none_leads_back, has_edge, is_lawful, is_next, comes_before, comes_after, others_before, others_after}
use Rattle.er_paths.specs.orders.Laws.{AreApart, BothOrdersAreLawful, BothOrdersAreShown}
use Rattle.er_paths.proofs.orders.Times.{times_append, times_no, times_yes, once_from, among_append}

-- no member leads back

pub none_from : (leads : ℕ → ℕ → Bool) (k : ℕ) (later : List ℕ) → ((m : ℕ) → is_among m later ≡ true → leads m k ≡ true → ⊥) → none_leads_back leads later ≡ true → none_leads_back leads (k ∷ later) ≡ true
none_from leads k later f e = and_true _ _ (not_false _ (never (list_any (λ m. leads m k) later) (λ t. let s = any_some (λ m. leads m k) later t in f s.0 s.1 s.2))) e

pub at_first : (leads : ℕ → ℕ → Bool) (k : ℕ) (later : List ℕ) (m : ℕ) → not (list_any (λ m. leads m k) later) ≡ true → is_among m later ≡ true → leads m k ≡ true → ⊥
at_first leads k later m none among t =
    let some : list_any (λ m. leads m k) later ≡ true = any_from (λ m. leads m k) m later among t in
    let no : list_any (λ m. leads m k) later ≡ false = not_true _ none in cc

pub none_append : (leads : ℕ → ℕ → Bool) (xs ys : List ℕ) → none_leads_back leads xs ≡ true → none_leads_back leads ys ≡ true
    → ((k m : ℕ) → is_among k xs ≡ true → is_among m ys ≡ true → leads m k ≡ true → ⊥) → none_leads_back leads (xs ++ ys) ≡ true
none_append leads [] ys a b f = b
none_append leads (x ∷ xs) ys a b f =
    let c = both (not (list_any (λ m. leads m x) xs)) (none_leads_back leads xs) a in
    none_from leads x (xs ++ ys)
    (λ m e t. elim (or_cases (is_among m xs) (is_among m ys) (sym (among_append m xs ys) ∙ e)) [
      | inl here ↦ at_first leads x xs m c.0 here t
      | inr there ↦ f x m (or_left (x == x) (is_among x xs) (grind (arith, nat_tests))) there t
    ])
    (none_append leads xs ys c.1 b (λ k m e. f k m (or_right (x == k) (is_among k xs) e)))

-- in an ascending list nothing that goes forward leads back

rises_above : (lo : ℕ) (xs : List ℕ) (m : ℕ) → Rises lo xs → is_among m xs ≡ true → lo ≤ m
rises_above lo [] m r e = absurd (cc)
rises_above lo (x ∷ xs) m r e =
    let h : lo ≤ x = r.0 in
    elim (or_cases (x == m) (is_among m xs) e) [
      | inl s ↦ grind (arith, nat_tests)
      | inr s ↦ let b : suc x ≤ m = rises_above (suc x) xs m r.1 s in omega arith
    ]

none_rising : (leads : ℕ → ℕ → Bool) (lo : ℕ) (xs : List ℕ) → ((m k : ℕ) → leads m k ≡ true → m < k) → Rises lo xs → none_leads_back leads xs ≡ true
none_rising leads lo [] forward r = refl
none_rising leads lo (x ∷ xs) forward r =
    none_from leads x xs (λ m e t. let b : suc x ≤ m = rises_above (suc x) xs m r.1 e in let l : m < x = forward m x t in omega arith) (none_rising leads (suc x) xs forward r.1)

-- the two parts, and the two actions between them

-- what stands in a part
pub record IsOther (i j k : ℕ) : Type 0 where
  pub not_first : k ≢ i
  pub not_second : k ≢ j

other_parts : (i j k : ℕ) (b : Bool) → ((not (k == i) && not (k == j)) && b) ≡ true → IsOther i j k × (b ≡ true)
other_parts i j k b e =
    let c = both (not (k == i) && not (k == j)) b e in
    let d = both (not (k == i)) (not (k == j)) c.0 in
    (record { not_first = apart i k d.0; not_second = apart j k d.1 }, c.1)

before_at : (joined : ℕ → ℕ → Bool) (n i j k : ℕ) → is_among k (others_before joined n i j) ≡ true → (k < n) × IsOther i j k × ((joined k i || joined k j) ≡ true)
before_at joined n i j k e =
    let c = both (is_among k (numbers_below n)) (comes_before joined i j k) (sym (member_filter (comes_before joined i j) (numbers_below n) k) ∙ e) in
    let below : nat_lt k n ≡ true = sym (member_below n k) ∙ c.0 in
    let d = other_parts i j k (joined k i || joined k j) c.1 in
    (grind (arith, nat_tests), d.0, d.1)

after_at : (joined : ℕ → ℕ → Bool) (n i j k : ℕ) → is_among k (others_after joined n i j) ≡ true → (k < n) × IsOther i j k × ((joined k i || joined k j) ≡ false)
after_at joined n i j k e =
    let c = both (is_among k (numbers_below n)) (comes_after joined i j k) (sym (member_filter (comes_after joined i j) (numbers_below n) k) ∙ e) in
    let below : nat_lt k n ≡ true = sym (member_below n k) ∙ c.0 in
    let d = other_parts i j k (not (joined k i || joined k j)) c.1 in
    (grind (arith, nat_tests), d.0, not_true _ d.1)

other_made : (i j k : ℕ) (b : Bool) → k ≢ i → k ≢ j → b ≡ true → ((not (k == i) && not (k == j)) && b) ≡ true
other_made i j k b a c e = and_true _ _ (and_true _ _ (apart_true i k a) (apart_true j k c)) e

apart_of : (k i : ℕ) → (k == i) ≡ false → k ≢ i
apart_of k i e = apart i k (not_false (k == i) e)

-- each action below n stands once in the parts and between them
once_in_all : (joined : ℕ → ℕ → Bool) (n i j k : ℕ) → i ≢ j → k < n → times k (others_before joined n i j) + (times k (i ∷ j ∷ []) + times k (others_after joined n i j)) ≡ 1
once_in_all joined n i j k different below = elim (decide (k == i)) [
  | inl s ↦
      let same : k ≡ i = grind (arith, nat_tests) in
      let a : times k (others_before joined n i j) ≡ 0 = times_no (comes_before joined i j) n k (grind (arith, nat_tests)) in
      let b : times k (others_after joined n i j) ≡ 0 = times_no (comes_after joined i j) n k (grind (arith, nat_tests)) in
      let here : (i == k) ≡ true = grind (arith, nat_tests) in
      let there : (j == k) ≡ false = never (j == k) (λ t. different (grind (arith, nat_tests))) in
      let one : times k (i ∷ j ∷ []) ≡ 1 = rw (here, there) refl in
      omega arith
  | inr s ↦ elim (decide (k == j)) [
    | inl t ↦
        let same : k ≡ j = grind (arith, nat_tests) in
        let a : times k (others_before joined n i j) ≡ 0 = times_no (comes_before joined i j) n k (grind (arith, nat_tests)) in
        let b : times k (others_after joined n i j) ≡ 0 = times_no (comes_after joined i j) n k (grind (arith, nat_tests)) in
        let here : (j == k) ≡ true = grind (arith, nat_tests) in
        let there : (i == k) ≡ false = never (i == k) (λ t. different (grind (arith, nat_tests))) in
        let one : times k (i ∷ j ∷ []) ≡ 1 = rw (here, there) refl in
        omega arith
    | inr t ↦
        let here : (i == k) ≡ false = grind (arith, nat_tests) in
        let there : (j == k) ≡ false = grind (arith, nat_tests) in
        let none : times k (i ∷ j ∷ []) ≡ 0 = rw (here, there) refl in
        elim (decide (joined k i || joined k j)) [
          | inl u ↦
              let a : times k (others_before joined n i j) ≡ 1 = times_yes (comes_before joined i j) n k below (other_made i j k _ (apart_of k i s) (apart_of k j t) u) in
              let b : times k (others_after joined n i j) ≡ 0 = times_no (comes_after joined i j) n k (grind arith) in
              omega arith
          | inr u ↦
              let a : times k (others_before joined n i j) ≡ 0 = times_no (comes_before joined i j) n k (grind arith) in
              let b : times k (others_after joined n i j) ≡ 1 = times_yes (comes_after joined i j) n k below (other_made i j k _ (apart_of k i s) (apart_of k j t) (not_false _ u)) in
              omega arith
        ]
  ]
]

-- two that stand between the parts, in either order
pub record ArePlaced (i j x y : ℕ) : Type 0 where
  pub all : (k : ℕ) → times k (x ∷ y ∷ []) ≡ times k (i ∷ j ∷ [])
  pub first : (x ≡ i) ⊎ (x ≡ j)
  pub second : (y ≡ i) ⊎ (y ≡ j)

times_two : (k i j : ℕ) → times k (j ∷ i ∷ []) ≡ times k (i ∷ j ∷ [])
times_two k i j = elim (decide (i == k)) [
  | inl e ↦ rw e (elim (decide (j == k)) [ inl f ↦ rw f refl | inr f ↦ rw f refl ])
  | inr e ↦ rw e (elim (decide (j == k)) [ inl f ↦ rw f refl | inr f ↦ rw f refl ])
]

placed_so : (i j : ℕ) → ArePlaced i j i j
placed_so i j = record { all = λ k. refl; first = inl refl; second = inr refl }

placed_turned : (i j : ℕ) → ArePlaced i j j i
placed_turned i j = record { all = λ k. times_two k i j; first = inr refl; second = inl refl }

abbrev pub order_of : (ℕ → ℕ → Bool) → ℕ → ℕ → ℕ → ℕ → ℕ → List ℕ
order_of joined n i j x y = others_before joined n i j ++ x ∷ y ∷ others_after joined n i j

times_cons : (k x y : ℕ) (xs : List ℕ) → times k (x ∷ y ∷ xs) ≡ times k (x ∷ y ∷ []) + times k xs
times_cons k x y xs = times_append k (x ∷ y ∷ []) xs

within : (n i j x : ℕ) → i < n → j < n → (x ≡ i) ⊎ (x ≡ j) → x < n
within n i j x a b is = elim is [ inl e ↦ omega arith | inr e ↦ omega arith ]

order_once : (joined : ℕ → ℕ → Bool) (n i j x y : ℕ) → i < j → j < n → ArePlaced i j x y → has_each_once n (order_of joined n i j x y) ≡ true
order_once joined n i j x y earlier begun placed = once_from n (order_of joined n i j x y)
    (λ k below.
    let all = once_in_all joined n i j k (λ s. omega arith) below in
    let one = times_append k (others_before joined n i j) (x ∷ y ∷ others_after joined n i j) in
    let two = times_cons k x y (others_after joined n i j) in
    let three = placed.all k in
    omega (arith, all, one, two, three))
    (λ k e. elim (or_cases (is_among k (others_before joined n i j)) (is_among k (x ∷ y ∷ others_after joined n i j)) (sym (among_append k (others_before joined n i j) (x ∷ y ∷ others_after joined n i j)) ∙ e)) [
      | inl a ↦ (before_at joined n i j k a).0
      | inr a ↦ elim (or_cases (x == k) (is_among k (y ∷ others_after joined n i j)) a) [
        | inl s ↦ let same : x ≡ k = grind (arith, nat_tests) in let l : x < n = within n i j x (omega arith) begun placed.first in omega arith
        | inr b ↦ elim (or_cases (y == k) (is_among k (others_after joined n i j)) b) [
          | inl s ↦ let same : y ≡ k = grind (arith, nat_tests) in let l : y < n = within n i j y (omega arith) begun placed.second in omega arith
          | inr c ↦ (after_at joined n i j k c).0
        ]
      ]
    ])

-- edges into a part, and between the two

steps_on : (lists : List (List ℕ)) (m k : ℕ) → GoForward lists → has_edge lists m k ≡ true → (m < k) × (joins lists m k ≡ true)
steps_on lists m k forward e = (forward m k e, edge_joins lists m k (forward m k e) e)

two_free : (lists : List (List ℕ)) (i j m k : ℕ) → GoForward lists → AreApart lists i j → (m ≡ i) ⊎ (m ≡ j) → (k ≡ i) ⊎ (k ≡ j) → has_edge lists m k ≡ true → ⊥
two_free lists i j m k forward are a b e =
    let s = steps_on lists m k forward e in
    let l : m < k = s.0 in
    let l2 : i < j = are.earlier in
    elim a [
      | inl u ↦ elim b [
        | inl v ↦ omega arith
        | inr v ↦ let way : joins lists i j ≡ true = sym (ap (λ x. joins lists x k) u ∙ ap (λ x. joins lists i x) v) ∙ s.1 in let no = are.no_path in cc
      ]
      | inr u ↦ elim b [ inl v ↦ omega arith | inr v ↦ omega arith ]
    ]

reaches_too : (lists : List (List ℕ)) (i j m k : ℕ) → joins lists m k ≡ true → (joins lists k i || joins lists k j) ≡ true → (joins lists m i || joins lists m j) ≡ true
reaches_too lists i j m k first e = elim (or_cases (joins lists k i) (joins lists k j) e) [
  | inl a ↦ or_left (joins lists m i) (joins lists m j) (paths_compose lists m k i first a)
  | inr a ↦ or_right (joins lists m i) (joins lists m j) (paths_compose lists m k j first a)
]

-- what has no path to one of the two leads to neither
after_free : (lists : List (List ℕ)) (n i j m k : ℕ) → GoForward lists → (k ≡ i) ⊎ (k ≡ j) → is_among m (others_after (joins lists) n i j) ≡ true → has_edge lists m k ≡ true → ⊥
after_free lists n i j m k forward is among e =
    let s = steps_on lists m k forward e in
    let no = (after_at (joins lists) n i j m among).2 in
    elim is [
      | inl u ↦ let way : joins lists m i ≡ true = sym (ap (λ x. joins lists m x) u) ∙ s.1 in let yes = or_left (joins lists m i) (joins lists m j) way in cc
      | inr u ↦ let way : joins lists m j ≡ true = sym (ap (λ x. joins lists m x) u) ∙ s.1 in let yes = or_right (joins lists m i) (joins lists m j) way in cc
    ]

-- none of the two leads to what has a path to one of them
before_free : (lists : List (List ℕ)) (n i j m k : ℕ) → GoForward lists → AreApart lists i j → (m ≡ i) ⊎ (m ≡ j) → is_among k (others_before (joins lists) n i j) ≡ true → has_edge lists m k ≡ true → ⊥
before_free lists n i j m k forward are is among e =
    let s = steps_on lists m k forward e in
    let l : m < k = s.0 in
    let l2 : i < j = are.earlier in
    let at = before_at (joins lists) n i j k among in
    elim (or_cases (joins lists k i) (joins lists k j) at.2) [
      | inl a ↦ let f : k ≤ i = (paths_go_forward lists k i a).0 in elim is [ inl u ↦ omega arith | inr u ↦ omega arith ]
      | inr a ↦
          let f : k ≤ j = (paths_go_forward lists k j a).0 in
          elim is [
            | inl u ↦
                let way : joins lists i j ≡ true = paths_compose lists i k j (sym (ap (λ x. joins lists x k) u) ∙ s.1) a in
                let no = are.no_path in cc
            | inr u ↦ omega arith
          ]
    ]

parts_free : (lists : List (List ℕ)) (n i j m k : ℕ) → GoForward lists → is_among k (others_before (joins lists) n i j) ≡ true → is_among m (others_after (joins lists) n i j) ≡ true → has_edge lists m k ≡ true → ⊥
parts_free lists n i j m k forward first second e =
    let s = steps_on lists m k forward e in
    let yes = reaches_too lists i j m k s.1 (before_at (joins lists) n i j k first).2 in
    let no = (after_at (joins lists) n i j m second).2 in
    cc

order_free : (lists : List (List ℕ)) (n i j x y : ℕ) → GoForward lists → AreApart lists i j → ArePlaced i j x y → none_leads_back (has_edge lists) (order_of (joins lists) n i j x y) ≡ true
order_free lists n i j x y forward are placed =
    let leads = has_edge lists in
    let after = others_after (joins lists) n i j in
    let before = others_before (joins lists) n i j in
    let rising : (t : ℕ → Bool) → none_leads_back leads (filter t (numbers_below n)) ≡ true = λ t. none_rising leads 0 (filter t (numbers_below n)) (λ m k e. (steps_on lists m k forward e).0) (rises_filter t 0 (numbers_below n) (rises_below n)) in
    let last : none_leads_back leads (y ∷ after) ≡ true = none_from leads y after (λ m a e. after_free lists n i j m y forward placed.second a e) (rising (comes_after (joins lists) i j)) in
    let both_last : none_leads_back leads (x ∷ y ∷ after) ≡ true = none_from leads x (y ∷ after)
    (λ m a e. elim (or_cases (y == m) (is_among m after) a) [
      | inl s ↦ let same : m ≡ y = grind (arith, nat_tests) in two_free lists i j y x forward are placed.second placed.first (sym (ap (λ z. has_edge lists z x) same) ∙ e)
      | inr b ↦ after_free lists n i j m x forward placed.first b e
    ]) last in
    none_append leads before (x ∷ y ∷ after) (rising (comes_before (joins lists) i j)) both_last
    (λ k m a b e. elim (or_cases (x == m) (is_among m (y ∷ after)) b) [
      | inl s ↦ let same : m ≡ x = grind (arith, nat_tests) in before_free lists n i j x k forward are placed.first a (sym (ap (λ z. has_edge lists z k) same) ∙ e)
      | inr c ↦ elim (or_cases (y == m) (is_among m after) c) [
        | inl s ↦ let same : m ≡ y = grind (arith, nat_tests) in before_free lists n i j y k forward are placed.second a (sym (ap (λ z. has_edge lists z k) same) ∙ e)
        | inr d ↦ parts_free lists n i j m k forward a d e
      ]
    ])

order_lawful : (lists : List (List ℕ)) (i j x y : ℕ) → GoForward lists → AreApart lists i j → ArePlaced i j x y → is_lawful lists (order_of (joins lists) (length lists) i j x y) ≡ true
order_lawful lists i j x y forward are placed = and_true _ _ (order_once (joins lists) (length lists) i j x y are.earlier are.begun placed) (order_free lists (length lists) i j x y forward are placed)

pub both_orders_are_lawful : BothOrdersAreLawful
both_orders_are_lawful lists i j forward are = (order_lawful lists i j i j forward are (placed_so i j), order_lawful lists i j j i forward are (placed_turned i j))

-- the two stand next to one another
next_in : (i j : ℕ) (xs ys : List ℕ) → is_next i j (xs ++ i ∷ j ∷ ys) ≡ true
next_in i j [] ys = or_left _ _ (and_true (i == i) (j == j) (grind (arith, nat_tests)) (grind (arith, nat_tests)))
next_in i j (x ∷ xs) ys = or_right _ _ (next_in i j xs ys)

pub both_orders_are_shown : BothOrdersAreShown
both_orders_are_shown joined n i j = (next_in i j (others_before joined n i j) (others_after joined n i j), next_in j i (others_before joined n i j) (others_after joined n i j))
