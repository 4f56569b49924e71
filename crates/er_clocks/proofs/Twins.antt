-- Actions with the same links: all but themselves that has a path to the one has a path
-- to the other.
use Rattle.std.proofs.Common.{◌≡◌, ◌≢◌, ◌⊎◌, ℕ, zero, suc, ◌<◌, ◌≤◌, Bool, true, false, List, [], ◌∷◌, ◌++◌, length, get_or, max, refl, sym, ap, ◌∙◌, arith, subst, inl, inr}
use Rattle.std.specs.Prelude.{◌==◌, ◌||◌, slice_index, reverse, if◌then◌else◌}
use Rattle.std.specs.List.{list_any}
use Rattle.std.proofs.lemmas.Grind.{common_steps}
use Rattle.std.proofs.lemmas.Bool.Decides.{nat_tests}
use Rattle.er_paths.specs.Paths.{joins, is_among, list_of}
use Rattle.er_paths.specs.links.Chains.{chains, members, count_in, chain_of, place_of, entry}
use Rattle.er_paths.specs.links.Links.{links_of, links_to, links, is_link}
use Rattle.er_paths.proofs.Paths.{or_cases, or_left, or_right, any_from, any_some, joins_older, joins_below, joins_newest_cases, list_newest, list_older, paths_compose, paths_stand, place_cases}
use Rattle.er_paths.proofs.links.Tests.{decide}
use Rattle.er_paths.proofs.links.Chains.{count_either, front_linked, back_to, back_any, members_linked}
use Rattle.er_paths.proofs.links.Fits.{in_one_chain, entry_of_itself}
use Rattle.er_paths.proofs.links.Links.{any_append, link_parts, links_have_the_paths}
use Rattle.er_paths.proofs.links.Ascending.{member_links}
use Rattle.er_clocks.specs.Sources.{uncovered, reaches, IsReach}

-- a path has a last step

weaker : (p : List ℕ) (older : List (List ℕ)) (m : ℕ) (xs : List ℕ) → list_any (λ k. joins older m k) xs ≡ true → list_any (λ k. joins (p ∷ older) m k) xs ≡ true
weaker p older m xs e = let s = any_some (λ k. joins older m k) xs e in any_from (λ k. joins (p ∷ older) m k) s.0 xs s.1 (joins_older p older m s.0 (joins_below older m s.0 s.2) ∙ s.2)

last_step : (lists : List (List ℕ)) (m i : ℕ) → joins lists m i ≡ true → (m ≡ i) ⊎ (list_any (λ k. joins lists m k) (list_of lists i) ≡ true)
last_step [] m i e = absurd (cc)
last_step (p ∷ older) m i e = elim (place_cases i (length older)) [
  | inl below ↦ elim (last_step older m i (sym (joins_older p older m i below) ∙ e)) [
    | inl same ↦ inl same
    | inr step ↦ inr (ap (λ (xs : List ℕ). list_any (λ k. joins (p ∷ older) m k) xs) (list_older p older i below) ∙ weaker p older m (list_of older i) step)
  ]
  | inr rest ↦
      let less : i < length (p ∷ older) = joins_below (p ∷ older) m i e in
      let last : i ≡ length older = omega (arith, rest) in
      elim (joins_newest_cases p older m i last e) [
        | inl same ↦ inl same
        | inr step ↦ inr (ap (λ (xs : List ℕ). list_any (λ k. joins (p ∷ older) m k) xs) (list_newest p older i last) ∙ weaker p older m p (any_from (λ k. joins older m k) step.0 p step.1 step.2))
      ]
]

links_long : (lists : List (List ℕ)) (n : ℕ) → length (links_to lists n) ≡ n
links_long lists zero = refl
links_long lists (suc n) = ap suc (links_long lists n)

list_of_links : (lists : List (List ℕ)) (n i : ℕ) → i < n → list_of (links_to lists n) i ≡ links_of lists i
list_of_links lists zero i h = absurd (omega arith)
list_of_links lists (suc n) i h =
    let long : length (links_to lists n) ≡ n = links_long lists n in
    elim (place_cases i n) [
      | inl less ↦ list_older (links_of lists n) (links_to lists n) i (omega (arith, long)) ∙ list_of_links lists n i less
      | inr rest ↦ let last : i ≡ n = omega (arith, rest) in list_newest (links_of lists n) (links_to lists n) i (omega (arith, long)) ∙ ap (links_of lists) (sym last)
    ]

pub same_links : (lists : List (List ℕ)) (i k m : ℕ) → links_of lists i ≡ links_of lists k → m ≢ i → joins lists m i ≡ true → joins lists m k ≡ true
same_links lists i k m same other e =
    let below : i < length lists = joins_below lists m i e in
    elim (last_step (links lists) m i (links_have_the_paths lists m i ∙ e)) [
      | inl itself ↦ absurd (other itself)
      | inr step ↦
          let s = any_some (λ x. joins (links lists) m x) (list_of (links lists) i) step in
          let among : is_among s.0 (links_of lists k) ≡ true = ap (is_among s.0) (sym same) ∙ ap (is_among s.0) (sym (list_of_links lists (length lists) i below)) ∙ s.1 in
          let link : is_link lists s.0 k ≡ true = sym (member_links lists k s.0) ∙ among in
          paths_compose lists m s.0 k (sym (links_have_the_paths lists m s.0) ∙ s.2) (link_parts (joins lists) (length lists) s.0 k link).1
    ]

-- so where the one was taken, the row changes at the chain of the other alone

count_fewer : (q r : ℕ → Bool) (c : List ℕ) → ((m : ℕ) → is_among m c ≡ true → q m ≡ true → r m ≡ true) → count_in q c ≤ count_in r c
count_fewer q r [] f = omega arith
count_fewer q r (m ∷ c) f =
    let rest : count_in q c ≤ count_in r c = count_fewer q r c (λ x a. f x (or_right (m == x) (is_among x c) a)) in
    elim (decide (q m)) [
      | inl t ↦ let u : r m ≡ true = f m (or_left (m == m) (is_among m c) (grind (arith, nat_tests))) t in rw (t, u) (omega (arith, rest))
      | inr n ↦ elim (decide (r m)) [
        | inl u ↦ rw (n, u) (omega (arith, rest))
        | inr u ↦ rw (n, u) rest
      ]
    ]

pub reach_twin : (lists : List (List ℕ)) (row new xs : List ℕ) (i k : ℕ) → IsReach lists row xs → i < length lists → links_of lists i ≡ links_of lists k → reaches lists xs k ≡ true
    → slice_index row (chain_of lists i) ≤ place_of lists i
    → ((c : ℕ) → slice_index new c ≡ (if c == chain_of lists i then suc (place_of lists i) else slice_index row c))
    → IsReach lists new (i ∷ xs)
reach_twin lists row new xs i k is h same taken low raised c =
    let all : List ℕ = members (chains lists) c in
    let one = front_linked lists (λ m. joins lists m i) all (back_to lists i) (members_linked lists c) in
    let rest = front_linked lists (reaches lists xs) all (back_any lists xs) (members_linked lists c) in
    raised c ∙ elim (decide (c == chain_of lists i)) [
      | inl own ↦
          let s : c ≡ chain_of lists i = grind (arith, nat_tests) in
          let e : entry lists i c ≡ suc (place_of lists i) = ap (entry lists i) s ∙ entry_of_itself lists i h in
          let n : count_in (reaches lists xs) all ≡ slice_index row c = sym (is c) in
          let l : slice_index row c ≤ place_of lists i = subst (λ (x : ℕ). slice_index row x ≤ place_of lists i) (sym s) low in
          let m : max (entry lists i c) (count_in (reaches lists xs) all) ≡ suc (place_of lists i) = grind (arith) in
          rw own (sym m ∙ sym (count_either (λ m. joins lists m i) (reaches lists xs) all one rest))
      | inr other ↦
          let fewer : entry lists i c ≤ count_in (reaches lists xs) all = count_fewer (λ m. joins lists m i) (reaches lists xs) all (λ m a e. back_any lists xs m k (same_links lists i k m same (λ itself.
          let there : is_among i all ≡ true = subst (λ (x : ℕ). is_among x all ≡ true) itself a in
          let s : chain_of lists i ≡ c = in_one_chain lists i c h there in absurd (grind (arith, nat_tests))) e) taken) in
          let n : count_in (reaches lists xs) all ≡ slice_index row c = sym (is c) in
          let m : max (entry lists i c) (count_in (reaches lists xs) all) ≡ slice_index row c = grind (arith) in
          rw other (sym m ∙ sym (count_either (λ m. joins lists m i) (reaches lists xs) all one rest))
    ]

-- each link was taken

reverse_more : (x : ℕ) (xs : List ℕ) → reverse (x ∷ xs) ≡ reverse xs ++ x ∷ []
reverse_more x xs = grind (arith, common_steps)

any_swap : (a b : Bool) → (a || (b || false)) ≡ (b || a)
any_swap true true = refl
any_swap true false = refl
any_swap false true = refl
any_swap false false = refl

any_reverse : (f : ℕ → Bool) (xs : List ℕ) → list_any f (reverse xs) ≡ list_any f xs
any_reverse f [] = refl
any_reverse f (x ∷ xs) = ap (λ (ys : List ℕ). list_any f ys) (reverse_more x xs) ∙ any_append f (reverse xs) (x ∷ []) ∙ ap (λ (b : Bool). b || (f x || false)) (any_reverse f xs) ∙ any_swap (list_any f xs) (f x)

member_uncovered : (joined : ℕ → ℕ → Bool) (xs : List ℕ) (i : ℕ) → is_among i (uncovered joined xs) ≡ true → is_among i xs ≡ true
member_uncovered joined [] i e = e
member_uncovered joined (x ∷ later) i e = elim (decide (list_any (λ k. joined x k) later)) [
  | inl c ↦ or_right (x == i) (is_among i later) (member_uncovered joined later i (sym (ap (λ (b : Bool). is_among i (if b then uncovered joined later else x ∷ uncovered joined later)) c) ∙ e))
  | inr c ↦ elim (or_cases (x == i) (is_among i (uncovered joined later)) (sym (ap (λ (b : Bool). is_among i (if b then uncovered joined later else x ∷ uncovered joined later)) c) ∙ e)) [
    | inl same ↦ or_left (x == i) (is_among i later) same
    | inr rest ↦ or_right (x == i) (is_among i later) (member_uncovered joined later i rest)
  ]
]

member_at : (xs : List ℕ) (n : ℕ) → n < length xs → is_among (get_or xs n 0) xs ≡ true
member_at [] n h = absurd (omega arith)
member_at (x ∷ xs) zero h = or_left (x == x) (is_among x xs) (grind (arith, nat_tests))
member_at (x ∷ xs) (suc n) h = or_right (x == get_or xs n 0) (is_among (get_or xs n 0) xs) (member_at xs n (omega arith))

pub link_reached : (lists : List (List ℕ)) (links xs : List ℕ) (n : ℕ) → links ≡ reverse (uncovered (joins lists) xs) → n < length links → get_or links n 0 < length lists → reaches lists xs (get_or links n 0) ≡ true
link_reached lists links xs n is h below =
    let k : ℕ = get_or links n 0 in
    let among : is_among k (uncovered (joins lists) xs) ≡ true = sym (any_reverse (λ m. m == k) (uncovered (joins lists) xs)) ∙ ap (is_among k) (sym is) ∙ member_at links n h in
    any_from (λ m. joins lists k m) k xs (member_uncovered (joins lists) xs k among) (paths_stand lists k below)
