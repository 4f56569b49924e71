-- Where the new action is to have the links of the newest one: its links, and its row
-- made of that one's.
use Rattle.std.proofs.Common.{◌≡◌, ◌≢◌, ℕ, zero, suc, ◌+◌, ◌-◌, ◌<◌, ◌≤◌, Bool, true, false, List, [], ◌∷◌, ◌++◌, length, refl, sym, ap, ◌∙◌, arith, subst, inl, inr}
use Rattle.std.specs.Prelude.{◌==◌, ◌||◌, ◌&&◌, not, nat_lt, slice_index, if◌then◌else◌}
use Rattle.std.specs.List.{list_any, filter, AllByRecursion}
use Rattle.std.proofs.lemmas.Bool.Decides.{nat_tests}
use Rattle.std.proofs.Math.Path.{fun_ext}
use Rattle.er_paths.specs.Paths.{joins, is_among}
use Rattle.er_paths.proofs.Paths.{any_some, any_from, or_cases, or_left, or_right, joins_newest, joins_older, paths_go_forward, paths_compose, paths_stand}
use Rattle.er_paths.specs.links.Chains.{chains, members, count_in, chain_of, place_of, entry, first_fit, last_passes}
use Rattle.er_paths.specs.links.Links.{numbers_below, links, links_of}
use Rattle.er_paths.proofs.links.Tests.{decide, same_test, never, both}
use Rattle.er_paths.proofs.links.Chains.{count_same}
use Rattle.er_paths.proofs.links.Fits.{IsLacking, fit_number, fit_chain, chains_lack, in_one_chain, entry_of_itself}
use Rattle.er_paths.proofs.links.Links.{keeps, kept_of, any_kept, links_newest, links_grow, links_of_paths, link_parts}
use Rattle.er_paths.proofs.links.Ascending.{member_filter, member_below, member_links}
use Rattle.er_clocks.specs.Sources.{reaches, IsOnlyLink, RepeatsNewest}
use Rattle.er_clocks.specs.Reached.{like_at}
use Rattle.er_clocks.specs.Rows.{links_before}
use Rattle.er_clocks.proofs.Entries.{all_of}
use Rattle.er_clocks.proofs.Uncovered.{uncovered_kept}

-- what is reached decides the links

head_is : (x y : List ℕ) (xs ys : List (List ℕ)) → x ∷ xs ≡ y ∷ ys → x ≡ y
head_is x y xs ys e = cc

same_reach : (older : List (List ℕ)) (p q : List ℕ) → ((i : ℕ) → reaches older p i ≡ reaches older q i) → (i j : ℕ) → joins (p ∷ older) i j ≡ joins (q ∷ older) i j
same_reach older p q same i j = ap (λ (b : Bool). if j == length older then (i == j) || b else joins older i j) (same i)

pub kept_by_reach : (older : List (List ℕ)) (p q : List ℕ) → ((i : ℕ) → reaches older p i ≡ reaches older q i) → kept_of older p ≡ kept_of older q
kept_by_reach older p q same =
    head_is (kept_of older p) (kept_of older q) (links older) (links older) (sym (links_grow p older) ∙ links_of_paths (p ∷ older) (q ∷ older) refl (same_reach older p q same) ∙ links_grow q older)

-- one action more, which is none of these, changes nothing
any_still : (p : List ℕ) (older : List (List ℕ)) (i : ℕ) (ks : List ℕ) → ((k : ℕ) → is_among k ks ≡ true → k < length older)
    → list_any (λ k. not (k == i) && joins (p ∷ older) i k) ks ≡ list_any (λ k. not (k == i) && joins older i k) ks
any_still p older i [] below = refl
any_still p older i (k ∷ ks) below =
    let here : k < length older = below k (grind (arith, nat_tests)) in
    ap (λ (b : Bool). (not (k == i) && b) || list_any (λ m. not (m == i) && joins (p ∷ older) i m) ks) (joins_older p older i k here)
    ∙ ap (λ (b : Bool). (not (k == i) && joins older i k) || b) (any_still p older i ks (λ m e. below m (grind (arith))))

filter_end : (t : ℕ → Bool) (xs : List ℕ) (x : ℕ) → t x ≡ false → filter t (xs ++ x ∷ []) ≡ filter t xs
filter_end t [] x h = rw h refl
filter_end t (y ∷ ys) x h = ap (λ (zs : List ℕ). if t y then y ∷ zs else zs) (filter_end t ys x h)

pub kept_still : (p : List ℕ) (older : List (List ℕ)) (ks : List ℕ) → ((k : ℕ) → is_among k ks ≡ true → k < length older) → kept_of (p ∷ older) ks ≡ kept_of older ks
kept_still p older ks below =
    let same : (i : ℕ) → keeps (joins (p ∷ older)) ks i ≡ keeps (joins older) ks i = λ i. ap (λ (b : Bool). is_among i ks && not b) (any_still p older i ks below) in
    let lack : is_among (length older) ks ≡ false = never (is_among (length older) ks) (λ h. let l = below (length older) h in omega arith) in
    ap (λ (t : ℕ → Bool). filter t (numbers_below (length older) ++ length older ∷ [])) (fun_ext same)
    ∙ filter_end (λ i. keeps (joins older) ks i) (numbers_below (length older)) (length older) (ap (λ (b : Bool). b && not (list_any (λ k. not (k == length older) && joins older (length older) k) ks)) lack)

reach_still : (p : List ℕ) (older : List (List ℕ)) (i : ℕ) (ks : List ℕ) → ((k : ℕ) → is_among k ks ≡ true → k < length older) → reaches (p ∷ older) ks i ≡ reaches older ks i
reach_still p older i [] below = refl
reach_still p older i (k ∷ ks) below =
    let here : k < length older = below k (grind (arith, nat_tests)) in
    ap (λ (b : Bool). b || reaches (p ∷ older) ks i) (joins_older p older i k here) ∙ ap (λ (b : Bool). joins older i k || b) (reach_still p older i ks (λ m e. below m (grind (arith))))

-- the links of the newest action

kept_below : (older : List (List ℕ)) (p : List ℕ) (k : ℕ) → is_among k (kept_of older p) ≡ true → k < length older
kept_below older p k e =
    let f : (is_among k (numbers_below (length older)) && keeps (joins older) p k) ≡ true = sym (member_filter (λ i. keeps (joins older) p i) (numbers_below (length older)) k) ∙ e in
    let g : is_among k (numbers_below (length older)) ≡ true = (both (is_among k (numbers_below (length older))) (keeps (joins older) p k) f).0 in
    let h : nat_lt k (length older) ≡ true = sym (member_below (length older) k) ∙ g in grind (arith, nat_tests)

-- what is no other than the newest reaches it where it reaches its links
newest_reached : (p : List ℕ) (older : List (List ℕ)) (i : ℕ) → (i == length older) ≡ false → joins (p ∷ older) i (length older) ≡ reaches (p ∷ older) (kept_of older p) i
newest_reached p older i apart =
    joins_newest p older i (length older) refl ∙ ap (λ (b : Bool). b || reaches older p i) apart
    ∙ sym (any_kept older p i) ∙ sym (reach_still p older i (kept_of older p) (λ k e. kept_below older p k e))

again_reach : (p : List ℕ) (older : List (List ℕ)) (xs : List ℕ) → RepeatsNewest (p ∷ older) xs → (i : ℕ) → reaches (p ∷ older) xs i ≡ reaches (p ∷ older) (kept_of older p) i
again_reach p older xs is i = same_test _ _
    (λ h.
    let r = any_some (λ k. joins (p ∷ older) i k) xs h in
    let a = is.0 r.0 r.1 in
    let f = paths_go_forward (p ∷ older) i r.0 r.2 in
    let low : i ≤ r.0 = f.0 in
    let less : r.0 < length older = a.0 in
    let apart : (i == length older) ≡ false = grind (arith, nat_tests) in
    sym (newest_reached p older i apart) ∙ paths_compose (p ∷ older) i r.0 (length older) r.2 a.1)
    (λ h.
    let r = any_some (λ k. joins (p ∷ older) i k) (kept_of older p) h in
    any_from (λ k. joins (p ∷ older) i k) r.0 xs (is.1 r.0 (ap (is_among r.0) (links_newest p older) ∙ r.1)) r.2)

links_again : (p : List ℕ) (older : List (List ℕ)) (xs : List ℕ) → RepeatsNewest (p ∷ older) xs → links_of (p ∷ older) (length older) ≡ links_of (xs ∷ p ∷ older) (length (p ∷ older))
links_again p older xs is =
    links_newest p older ∙ sym (links_newest xs (p ∷ older) ∙ kept_by_reach (p ∷ older) xs (kept_of older p) (again_reach p older xs is)
    ∙ kept_still p older (kept_of older p) (λ k e. kept_below older p k e) ∙ kept_by_reach older (kept_of older p) p (any_kept older p))

-- and its row

lack_same : (q r : ℕ → Bool) (n : ℕ) (c : List ℕ) → is_among n c ≡ false → ((i : ℕ) → (i == n) ≡ false → q i ≡ r i) → AllByRecursion (λ i. q i ≡ r i) c
lack_same q r n [] a f = tt
lack_same q r n (i ∷ c) a f = (f i (grind (arith)), lack_same q r n c (grind (arith)) f)

count_one_more : (q r t : ℕ → Bool) (n : ℕ) (cs : List (List ℕ)) → q n ≡ true → r n ≡ false → ((i : ℕ) → (i == n) ≡ false → q i ≡ r i) → AllByRecursion (IsLacking n) cs
    → count_in q (members (first_fit t n cs) (fit_number t cs)) ≡ suc (count_in r (members (first_fit t n cs) (fit_number t cs)))
count_one_more q r t n [] own other same a = rw (own, other) refl
count_one_more q r t n (c ∷ cs) own other same a = elim (decide (last_passes t c)) [
  | inl e ↦ rw (e, own, other) (ap suc (count_same q r c (lack_same q r n c a.0 same)))
  | inr e ↦ rw e (count_one_more q r t n cs own other same a.1)
]

not_reached : (p : List ℕ) (older : List (List ℕ)) (xs : List ℕ) → RepeatsNewest (p ∷ older) xs → reaches (p ∷ older) xs (length older) ≡ false
not_reached p older xs is = never (reaches (p ∷ older) xs (length older)) (λ h.
    let r = any_some (λ k. joins (p ∷ older) (length older) k) xs h in
    let a = is.0 r.0 r.1 in
    let less : r.0 < length older = a.0 in
    let f = paths_go_forward (p ∷ older) (length older) r.0 r.2 in
    let low : length older ≤ r.0 = f.0 in absurd (omega arith))

reach_again : (p : List ℕ) (older : List (List ℕ)) (xs : List ℕ) → RepeatsNewest (p ∷ older) xs
    → (c : ℕ) → like_at (p ∷ older) (length older) (place_of (p ∷ older) (length older)) c ≡ count_in (reaches (p ∷ older) xs) (members (chains (p ∷ older)) c)
reach_again p older xs is c =
    let n : ℕ = length older in
    let all : List (List ℕ) = p ∷ older in
    let q : ℕ → Bool = λ i. joins all i n in
    let r : ℕ → Bool = reaches all xs in
    let same : (i : ℕ) → (i == n) ≡ false → q i ≡ r i = λ i e. newest_reached p older i e ∙ sym (again_reach p older xs is i) in
    elim (decide (c == chain_of all n)) [
      | inl own ↦
          let s : c ≡ chain_of all n = grind (arith, nat_tests) in
          let number : chain_of all n ≡ fit_number q (chains older) = fit_chain q n (chains older) (chains_lack older n (omega arith)) in
          let more : count_in q (members (chains all) (fit_number q (chains older))) ≡ suc (count_in r (members (chains all) (fit_number q (chains older)))) =
          count_one_more q r q n (chains older) (paths_stand all n (omega arith)) (not_reached p older xs is) same (chains_lack older n (omega arith)) in
          let itself : count_in q (members (chains all) (chain_of all n)) ≡ suc (place_of all n) = entry_of_itself all n (omega arith) in
          let M : ℕ → Type 0 = λ m. count_in q (members (chains all) m) ≡ suc (count_in r (members (chains all) m)) in
          let there : count_in q (members (chains all) (chain_of all n)) ≡ suc (count_in r (members (chains all) (chain_of all n))) = subst M (sym number) more in
          let e : place_of all n ≡ count_in r (members (chains all) (chain_of all n)) = omega arith in
          rw own (e ∙ ap (λ (m : ℕ). count_in r (members (chains all) m)) (sym s))
      | inr other ↦
          let lack : is_among n (members (chains all) c) ≡ false = never (is_among n (members (chains all) c)) (λ h. let e : chain_of all n ≡ c = in_one_chain all n c (omega arith) h in absurd (grind (arith, nat_tests))) in
          rw other (count_same q r (members (chains all) c) (lack_same q r n (members (chains all) c) lack same))
    ]

-- as the code has them

pub links_repeated : (lists : List (List ℕ)) (n : ℕ) (links xs : List ℕ) → n + 1 ≡ length lists → links ≡ links_of lists n → RepeatsNewest lists xs → links ≡ links_before xs lists
links_repeated [] n links xs e at is = absurd is
links_repeated (p ∷ older) n links xs e at is = let s : n ≡ length older = omega arith in at ∙ ap (links_of (p ∷ older)) s ∙ links_again p older xs is

pub reach_repeated : (lists : List (List ℕ)) (n place : ℕ) (xs : List ℕ) → n + 1 ≡ length lists → place ≡ place_of lists n → RepeatsNewest lists xs
    → (c : ℕ) → like_at lists n place c ≡ count_in (reaches lists xs) (members (chains lists) c)
reach_repeated [] n place xs e there is c = absurd is
reach_repeated (p ∷ older) n place xs e there is c =
    let s : n ≡ length older = omega (arith, e) in
    ap (λ (m : ℕ). like_at (p ∷ older) n m c) (there ∙ ap (place_of (p ∷ older)) s) ∙ ap (λ (m : ℕ). like_at (p ∷ older) m (place_of (p ∷ older) (length older)) c) s ∙ reach_again p older xs is c

-- one link alone

only_reach : (lists : List (List ℕ)) (xs : List ℕ) (i m : ℕ) → IsOnlyLink lists xs i → reaches lists xs m ≡ reaches lists (i ∷ []) m
only_reach lists xs i m is = same_test _ _
    (λ h. let r = any_some (λ k. joins lists m k) xs h in or_left (joins lists m i) false (paths_compose lists m r.0 i r.2 (is.1 r.0 r.1)))
    (λ h. any_from (λ k. joins lists m k) i xs is.0 (elim (or_cases (joins lists m i) false h) [
      | inl e ↦ e
      | inr e ↦ absurd (cc)
    ]))

-- a number is the only link where it stands alone
pub only_itself : (lists : List (List ℕ)) (xs : List ℕ) (i : ℕ) → length xs ≡ 1 → slice_index xs 0 ≡ i → i < length lists → IsOnlyLink lists xs i
only_itself lists [] i long at h = absurd (omega (arith, long))
only_itself lists (x ∷ []) i long at h =
    let itself : joins lists x x ≡ true = paths_stand lists x (subst (λ (m : ℕ). m < length lists) (sym at) h) in (
      or_left (x == i) false (grind (arith, nat_tests)),
      λ k e. elim (or_cases (x == k) false e) [
        | inl here ↦
            let same : x ≡ k = grind (arith, nat_tests) in
            ap (λ (m : ℕ). joins lists m i) (sym same) ∙ ap (joins lists x) (sym at) ∙ itself
        | inr none ↦ absurd (cc)
      ],
    )
only_itself lists (x ∷ y ∷ xs) i long at h = absurd (omega (arith, long))

one_below : (n i : ℕ) → i < n → AllByRecursion (λ k. k < n) (i ∷ [])
one_below n i h = (h, tt)

pub only_links : (lists : List (List ℕ)) (xs : List ℕ) (i : ℕ) → i < length lists → IsOnlyLink lists xs i → i ∷ [] ≡ links_before xs lists
only_links lists xs i h is =
    uncovered_kept lists (i ∷ []) (i ∷ []) (omega arith, tt) (λ k. refl) (one_below (length lists) i h)
    ∙ kept_by_reach lists (i ∷ []) xs (λ m. sym (only_reach lists xs i m is)) ∙ sym (links_newest xs lists)

pub only_reached : (lists : List (List ℕ)) (xs : List ℕ) (i number c : ℕ) → i < length lists → number ≡ suc (place_of lists i) → IsOnlyLink lists xs i
    → like_at lists i number c ≡ count_in (reaches lists xs) (members (chains lists) c)
only_reached lists xs i number c h next is =
    let all : List ℕ = members (chains lists) c in
    let same : entry lists i c ≡ count_in (reaches lists xs) all = count_same (λ m. joins lists m i) (reaches lists xs) all (all_of (λ m. joins lists m i ≡ reaches lists xs m) all (λ m. sym (only_reach lists xs i m is ∙ or_none (joins lists m i)))) in
    elim (decide (c == chain_of lists i)) [
      | inl own ↦
          let s : c ≡ chain_of lists i = grind (arith, nat_tests) in
          rw own (next ∙ sym (entry_of_itself lists i h) ∙ ap (entry lists i) (sym s) ∙ same)
      | inr other ↦ rw other same
    ]
  where
    or_none : (b : Bool) → (b || false) ≡ b
    or_none true = refl
    or_none false = refl

-- the tests of the code

pub number_found : (xs : List ℕ) (k : ℕ) → is_among k xs ≡ true → (m : ℕ) × (m < length xs) × (slice_index xs m ≡ k)
number_found [] k e = absurd (cc)
number_found (x ∷ xs) k e = elim (or_cases (x == k) (is_among k xs) e) [
  | inl here ↦ (0, omega arith, grind (arith, nat_tests))
  | inr later ↦ let r = number_found xs k later in (suc r.0, omega (arith, r.1), r.2)
]

pub number_stands : (xs : List ℕ) (m : ℕ) → m < length xs → is_among (slice_index xs m) xs ≡ true
number_stands [] m h = absurd (omega arith)
number_stands (x ∷ xs) zero h = or_left (x == x) (is_among x xs) (grind (arith, nat_tests))
number_stands (x ∷ xs) (suc m) h = or_right (x == slice_index xs m) (is_among (slice_index xs m) xs) (number_stands xs m (omega arith))

pub all_found : (P : ℕ → Type 0) (xs : List ℕ) → ((m : ℕ) → m < length xs → P (slice_index xs m)) → (k : ℕ) → is_among k xs ≡ true → P k
all_found P xs f k e = let r = number_found xs k e in subst P r.2 (f r.0 r.1)

-- a link into j comes before it
pub link_before : (lists : List (List ℕ)) (j k : ℕ) → is_among k (links_of lists j) ≡ true → (k < j) × (joins lists k j ≡ true)
link_before lists j k h =
    let parts = link_parts (joins lists) (length lists) k j (sym (member_links lists j k) ∙ h) in
    let f = paths_go_forward lists k j parts.1 in
    let low : k ≤ j = f.0 in
    let apart : k ≢ j = parts.0 in (grind (arith, nat_tests, apart), parts.1)

-- the last of the numbers come first
pub found_before : (P : ℕ → Type 0) (xs : List ℕ) (n : ℕ) → length xs ≤ n → ((m : ℕ) → m < n → P (slice_index xs (length xs - 1 - m))) → (k : ℕ) → is_among k xs ≡ true → P k
found_before P xs n long f = all_found P xs (λ m h.
    let back : length xs - 1 - (length xs - 1 - m) ≡ m = omega (arith, h) in
    subst (λ (i : ℕ). P (slice_index xs i)) back (f (length xs - 1 - m) (omega (arith, h, long))))

-- the newest action's own links repeat it
pub newest_repeats : (lists : List (List ℕ)) (n : ℕ) → n + 1 ≡ length lists → RepeatsNewest lists (links_of lists n)
newest_repeats [] n e = absurd (omega (arith, e))
newest_repeats (p ∷ older) n e =
    let last : n ≡ length older = omega (arith, e) in
    let same : (k : ℕ) → is_among k (links_of (p ∷ older) n) ≡ is_among k (links_of (p ∷ older) (length older)) = λ k. ap (λ (m : ℕ). is_among k (links_of (p ∷ older) m)) last in (
      λ k h. link_before (p ∷ older) (length older) k (sym (same k) ∙ h),
      λ k h. same k ∙ h,
    )
