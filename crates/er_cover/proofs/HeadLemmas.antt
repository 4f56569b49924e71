-- The first actions of groups, and the groups of each.
use Rattle.std.proofs.Common.{◌≡◌, ℕ, zero, suc, ◌+◌, ◌-◌, ◌<◌, ◌≤◌, Bool, true, false, List, [], ◌∷◌, ◌++◌, length, get_or, take, drop, refl, sym, ap, ◌∙◌, arith, subst, inl, inr, length-append, All, slice_index, append_assoc}
use Rattle.std.specs.Prelude.{map, if◌then◌else◌, slice_range, ◌==◌, ◌&&◌, ◌||◌, cond, not, nat_lt}
use Rattle.std.specs.List.{AllByRecursion, filter, list_any, position_or_len}
use Rattle.std.proofs.lemmas.List.{append-nil, drop_all, take_all, drop-append-le, take-append-le, get_or_past, get_or_default, get_or_push, get_or-drop, get_or-take, get_or_append_left, length-drop, length-take, map-append}
use Rattle.std.proofs.lemmas.List.Folds.{drop_split}
use Rattle.std.proofs.lemmas.List.Sums.{fails_before_first, passes_at_first}
use Rattle.std.proofs.lemmas.List.Elements.{recursion_from_All, All-append, All-from_recursion}
use Rattle.std.proofs.lemmas.Bool.{eqb-true}
use Rattle.std.proofs.lemmas.Bool.Decides.{nat_tests}
use Rattle.er_paths.proofs.Paths.{place_cases}
use Rattle.er_clocks.specs.Asked.{first_led}
use Rattle.er_cover.specs.declared.class.Class.{Class}
use Rattle.er_cover.specs.declared.heads.Heads.{Heads}
use Rattle.er_cover.specs.Passes.{AreHeads, IsKnown, ends_with, groups_at, seconds_from, seconds_of, start_of}
use Rattle.er_cover.proofs.CoverLemmas.{both, filter_append}

-- from a place on there are no more first actions than groups
pub start_below : (found : List Class) (heads : Heads) (k n : ℕ) → AreHeads found heads → n + k ≡ length heads.firsts.items → start_of (length found) heads n + k ≤ length found
start_below found heads zero n h e = let p : get_or heads.starts.items n (length found) ≡ length found = get_or_past heads.starts.items n (length found) (omega (arith, e, h.paired)) in omega (arith, p)
start_below found heads (suc k) n h e =
    let rest = start_below found heads k (n + 1) h (omega (arith, e)) in
    let less = h.rising n (omega (arith, e)) in
    omega (arith, rest, less)

pub heads_few : (found : List Class) (heads : Heads) → AreHeads found heads → length heads.firsts.items ≤ length found
heads_few found heads h = let b = start_below found heads (length heads.firsts.items) 0 h (omega arith) in omega (arith, b)

pub start_within : (found : List Class) (heads : Heads) (n : ℕ) → AreHeads found heads → n ≤ length heads.firsts.items → start_of (length found) heads n ≤ length found
start_within found heads n h w = let b = start_below found heads (length heads.firsts.items - n) n h (omega (arith, w)) in omega (arith, b)

pub start_end : (found : List Class) (heads : Heads) (n : ℕ) → AreHeads found heads → length heads.firsts.items ≤ n → start_of (length found) heads n ≡ length found
start_end found heads n h past = get_or_past heads.starts.items n (length found) (omega (arith, past, h.paired))

-- the second actions of one run

seconds_append : (joined : ℕ → ℕ → Bool) (first : ℕ) (xs ys : List Class) → seconds_from joined first (xs ++ ys) ≡ seconds_from joined first xs ++ seconds_from joined first ys
seconds_append joined first xs ys =
    let t : Class → Bool = λ g. joined first g.first in
    ap (map (λ (g : Class). g.second)) (filter_append t xs ys) ∙ map-append (λ (g : Class). g.second) (filter t xs) (filter t ys)

run_passed : (joined : ℕ → ℕ → Bool) (first to : ℕ) (xs : List Class) → AllByRecursion (λ (g : Class). g.first ≡ to) xs → joined first to ≡ false → seconds_from joined first xs ≡ []
run_passed joined first to [] all away = refl
run_passed joined first to (x ∷ xs) all away =
    ap (λ (b : Bool). seconds_of (if b then x ∷ filter (λ (g : Class). joined first g.first) xs else filter (λ (g : Class). joined first g.first) xs)) (ap (joined first) all.0 ∙ away)
    ∙ run_passed joined first to xs all.1 away

run_taken : (joined : ℕ → ℕ → Bool) (first to : ℕ) (xs : List Class) → AllByRecursion (λ (g : Class). g.first ≡ to) xs → joined first to ≡ true → seconds_from joined first xs ≡ seconds_of xs
run_taken joined first to [] all leads = refl
run_taken joined first to (x ∷ xs) all leads =
    ap (λ (b : Bool). seconds_of (if b then x ∷ filter (λ (g : Class). joined first g.first) xs else filter (λ (g : Class). joined first g.first) xs)) (ap (joined first) all.0 ∙ leads)
    ∙ ap (λ (l : List ℕ). x.second ∷ l) (run_taken joined first to xs all.1 leads)

-- the second actions from the groups of a first action on
abbrev pub seconds_left : (ℕ → ℕ → Bool) → ℕ → List Class → Heads → ℕ → List ℕ
seconds_left joined first found heads n = seconds_from joined first (drop (start_of (length found) heads n) found)

split_left : (joined : ℕ → ℕ → Bool) (first : ℕ) (found : List Class) (heads : Heads) (n : ℕ) → AreHeads found heads → n < length heads.firsts.items
    → seconds_left joined first found heads n ≡ seconds_from joined first (groups_at found heads n) ++ seconds_left joined first found heads (n + 1)
split_left joined first found heads n h w =
    let less = h.rising n w in
    ap (seconds_from joined first) (drop_split found (start_of (length found) heads n) (start_of (length found) heads (n + 1)) (omega (arith, less)))
    ∙ seconds_append joined first (groups_at found heads n) (drop (start_of (length found) heads (n + 1)) found)

one_passed : (joined : ℕ → ℕ → Bool) (first : ℕ) (found : List Class) (heads : Heads) (n : ℕ) → AreHeads found heads → n < length heads.firsts.items → joined first (get_or heads.firsts.items n 0) ≡ false
    → seconds_left joined first found heads n ≡ seconds_left joined first found heads (n + 1)
one_passed joined first found heads n h w away =
    split_left joined first found heads n h w
    ∙ ap (λ (l : List ℕ). l ++ seconds_left joined first found heads (n + 1)) (run_passed joined first (get_or heads.firsts.items n 0) (groups_at found heads n) (recursion_from_All (λ (g : Class). g.first ≡ get_or heads.firsts.items n 0) (groups_at found heads n) (h.each n w)) away)

one_taken : (joined : ℕ → ℕ → Bool) (first : ℕ) (found : List Class) (heads : Heads) (n : ℕ) → AreHeads found heads → n < length heads.firsts.items → joined first (get_or heads.firsts.items n 0) ≡ true
    → seconds_left joined first found heads n ≡ seconds_of (groups_at found heads n) ++ seconds_left joined first found heads (n + 1)
one_taken joined first found heads n h w leads =
    split_left joined first found heads n h w
    ∙ ap (λ (l : List ℕ). l ++ seconds_left joined first found heads (n + 1)) (run_taken joined first (get_or heads.firsts.items n 0) (groups_at found heads n) (recursion_from_All (λ (g : Class). g.first ≡ get_or heads.firsts.items n 0) (groups_at found heads n) (h.each n w)) leads)

many_passed : (joined : ℕ → ℕ → Bool) (first : ℕ) (found : List Class) (heads : Heads) (from k : ℕ) → AreHeads found heads → from + k ≤ length heads.firsts.items → ((m : ℕ) → m < k → joined first (get_or heads.firsts.items (from + m) 0) ≡ false)
    → seconds_left joined first found heads from ≡ seconds_left joined first found heads (from + k)
many_passed joined first found heads from zero h w away = let e : from ≡ from + 0 = omega arith in ap (seconds_left joined first found heads) e
many_passed joined first found heads from (suc k) h w away =
    let e : from + k + 1 ≡ from + suc k = omega arith in
    many_passed joined first found heads from k h (omega (arith, w)) (λ m l. away m (omega (arith, l)))
    ∙ one_passed joined first found heads (from + k) h (omega (arith, w)) (away k (omega arith))
    ∙ ap (seconds_left joined first found heads) e

-- what is asked of the rest

pub rest_is : (n : ℕ) (xs : List ℕ) → take (length xs - n) (drop n xs) ≡ drop n xs
rest_is n xs = let l = length-drop n xs in take_all (length xs - n) (drop n xs) (omega (arith, l))

pub rest_len : (n : ℕ) (xs : List ℕ) → length (take (length xs - n) (drop n xs)) ≡ length xs - n
rest_len n xs = ap length (rest_is n xs) ∙ length-drop n xs

pub rest_known : (P : ℕ → Type 0) (xs : List ℕ) (n : ℕ) → All P xs → All P (take (length xs - n) (drop n xs))
rest_known P xs n all = subst (All P) (sym (rest_is n xs)) (λ k d w. let l = length-drop n xs in subst P (sym (get_or-drop n xs k d)) (all (n + k) d (omega (arith, l, w))))

-- up to the answer no path leads
passed_to : (joined : ℕ → ℕ → Bool) (first : ℕ) (found : List Class) (heads : Heads) (from k : ℕ) → AreHeads found heads → from + k ≤ length heads.firsts.items → k ≡ first_led joined first (drop from heads.firsts.items)
    → seconds_left joined first found heads from ≡ seconds_left joined first found heads (from + k)
passed_to joined first found heads from k h w answer =
    many_passed joined first found heads from k h w
    (λ m l. ap (joined first) (sym (get_or-drop from heads.firsts.items m 0)) ∙ fails_before_first (joined first) (drop from heads.firsts.items) m 0 (omega (arith, l, answer)))

-- where it leads to none, nothing is left
pub none_left : (joined : ℕ → ℕ → Bool) (first : ℕ) (found : List Class) (heads : Heads) (from : ℕ) → AreHeads found heads → length heads.firsts.items ≤ from → seconds_left joined first found heads from ≡ []
none_left joined first found heads from h past = ap (seconds_from joined first) (drop_all (start_of (length found) heads from) found (let e = start_end found heads from h past in omega (arith, e)))

pub gathered_all : (joined : ℕ → ℕ → Bool) (first : ℕ) (found : List Class) (heads : Heads) (from k : ℕ) (firsts seconds all : List ℕ) → AreHeads found heads → firsts ≡ heads.firsts.items → k ≡ first_led joined first (take (length firsts - from) (drop from firsts)) → from + k ≡ length firsts
    → seconds ++ seconds_left joined first found heads from ≡ all → seconds ≡ all
gathered_all joined first found heads from k firsts seconds all h same answer end so =
    let long = ap length same in
    let p = passed_to joined first found heads from k h (omega (arith, end, long)) (answer ∙ ap (first_led joined first) (rest_is from firsts ∙ ap (drop from) same)) in
    let n = none_left joined first found heads (from + k) h (omega (arith, end, long)) in
    sym (append-nil seconds) ∙ ap (λ (l : List ℕ). seconds ++ l) (sym (p ∙ n)) ∙ so

pub gathered_more : (joined : ℕ → ℕ → Bool) (first : ℕ) (found : List Class) (heads : Heads) (from k : ℕ) (firsts seconds new all : List ℕ) (groups : List Class) → AreHeads found heads → firsts ≡ heads.firsts.items → k ≡ first_led joined first (take (length firsts - from) (drop from firsts)) → from + k < length firsts
    → groups ≡ groups_at found heads (from + k) → new ≡ seconds ++ seconds_of groups → seconds ++ seconds_left joined first found heads from ≡ all → new ++ seconds_left joined first found heads (from + k + 1) ≡ all
gathered_more joined first found heads from k firsts seconds new all groups h same answer within at added so =
    let a : k ≡ first_led joined first (drop from heads.firsts.items) = answer ∙ ap (first_led joined first) (rest_is from firsts ∙ ap (drop from) same) in
    let w : from + k < length heads.firsts.items = let long = ap length same in omega (arith, within, long) in
    let l = length-drop from heads.firsts.items in
    let leads : joined first (get_or heads.firsts.items (from + k) 0) ≡ true =
    ap (joined first) (sym (get_or-drop from heads.firsts.items k 0)) ∙ ap (λ (i : ℕ). joined first (get_or (drop from heads.firsts.items) i 0)) a ∙ passes_at_first (joined first) (drop from heads.firsts.items) 0 (omega (arith, a, l, w)) in
    ap (λ (n : List ℕ). n ++ seconds_left joined first found heads (from + k + 1)) (added ∙ ap (λ (g : List Class). seconds ++ seconds_of g) at)
    ∙ append_assoc seconds (seconds_of (groups_at found heads (from + k))) (seconds_left joined first found heads (from + k + 1))
    ∙ ap (λ (r : List ℕ). seconds ++ r) (sym (passed_to joined first found heads from k h (omega (arith, w)) a ∙ one_taken joined first found heads (from + k) h w leads))
    ∙ so

-- the first actions are known
pub firsts_known : (n : ℕ) (found : List Class) (heads : Heads) → AreHeads found heads → All (IsKnown n) found → All (λ j. j < n) heads.firsts.items
firsts_known n found heads h known = λ k d w.
    let g : Class = record { first = 0; second = 0 } in
    let a : ℕ = start_of (length found) heads k in
    let b : ℕ = start_of (length found) heads (k + 1) in
    let less : a < b = h.rising k w in
    let within : b ≤ length found = start_within found heads (k + 1) h (omega (arith, w)) in
    let long : length (take (b - a) (drop a found)) ≡ b - a = length-take (b - a) (drop a found) ∙ (let l = length-drop a found in omega (arith, l, less, within)) in
    let here : a + 0 ≡ a = omega arith in
    let read : get_or (groups_at found heads k) 0 g ≡ get_or found a g = get_or-take (b - a) (drop a found) 0 g (omega (arith, less)) ∙ get_or-drop a found 0 g ∙ ap (λ (i : ℕ). get_or found i g) here in
    let first : (get_or (groups_at found heads k) 0 g).first ≡ get_or heads.firsts.items k 0 = h.each k w 0 g (omega (arith, long, less)) in
    subst (λ (m : ℕ). m < n) (ap (λ (x : Class). x.first) (sym read) ∙ first ∙ get_or_default heads.firsts.items k 0 d w) (known a g (omega (arith, less, within))).0

-- whether any joins, by the place of the first
pub any_first : (p : ℕ → Bool) (xs : List ℕ) → nat_lt (position_or_len p xs) (length xs) ≡ list_any p xs
any_first p [] = refl
any_first p (x ∷ xs) = by (p x) (any_first p xs)
  where
    by : (b : Bool) → nat_lt (position_or_len p xs) (length xs) ≡ list_any p xs → nat_lt (cond (not b) (1 + position_or_len p xs) 0) (suc (length xs)) ≡ (b || list_any p xs)
    by true e = some (length xs)
      where
        some : (b : ℕ) → nat_lt 0 (suc b) ≡ true
        some b = grind (arith, nat_tests)
    by false e = more (position_or_len p xs) (length xs) ∙ e
      where
        more : (a b : ℕ) → nat_lt (1 + a) (suc b) ≡ nat_lt a b
        more a b = grind (arith, nat_tests)

-- the last first action

pub ends_so : (heads : Heads) (first : ℕ) → ends_with heads first ≡ true → (0 < length heads.firsts.items) × (slice_index heads.firsts.items (length heads.firsts.items - 1) ≡ first)
ends_so heads first e =
    let b = both (nat_lt 0 (length heads.firsts.items)) (slice_index heads.firsts.items (length heads.firsts.items - 1) == first) e in
    (grind (arith, nat_tests), eqb-true (slice_index heads.firsts.items (length heads.firsts.items - 1)) first b.1)

pub ends_otherwise : (heads : Heads) (first : ℕ) → ends_with heads first ≡ false → 0 < length heads.firsts.items → (slice_index heads.firsts.items (length heads.firsts.items - 1) == first) ≡ false
ends_otherwise heads first e some = let t : nat_lt 0 (length heads.firsts.items) ≡ true = grind (arith, nat_tests) in
    sym (ap (λ (b : Bool). b && (slice_index heads.firsts.items (length heads.firsts.items - 1) == first)) t) ∙ e

-- one group more

kept_range : (xs ys : List Class) (a b : ℕ) → a ≤ b → b ≤ length xs → slice_range (xs ++ ys) a b ≡ slice_range xs a b
kept_range xs ys a b up within =
    let l = length-drop a xs in
    ap (take (b - a)) (drop-append-le a xs ys (omega (arith, up, within))) ∙ take-append-le (b - a) (drop a xs) ys (omega (arith, l, up, within))

last_range : (xs : List Class) (x : Class) (a : ℕ) → a ≤ length xs → slice_range (xs ++ x ∷ []) a (length xs + 1) ≡ slice_range xs a (length xs) ++ x ∷ []
last_range xs x a within =
    let l = length-drop a xs in
    let m = length-append (drop a xs) (x ∷ []) in
    ap (take (length xs + 1 - a)) (drop-append-le a xs (x ∷ []) within)
    ∙ take_all (length xs + 1 - a) (drop a xs ++ x ∷ []) (omega (arith, l, m, within))
    ∙ ap (λ (ys : List Class). ys ++ x ∷ []) (sym (take_all (length xs - a) (drop a xs) (omega (arith, l, within))))

pub group_more : (found : List Class) (x : Class) → length (found ++ x ∷ []) ≡ length found + 1
group_more found x = length-append found (x ∷ [])

-- of the last first action

same_below : (found : List Class) (x : Class) (heads : Heads) (n : ℕ) → AreHeads found heads → n < length heads.firsts.items → start_of (length (found ++ x ∷ [])) heads n ≡ start_of (length found) heads n
same_below found x heads n h w = get_or_default heads.starts.items n (length (found ++ x ∷ [])) (length found) (omega (arith, w, h.paired))

same_end : (found : List Class) (x : Class) (heads : Heads) (n : ℕ) → AreHeads found heads → length heads.firsts.items ≤ n → start_of (length (found ++ x ∷ [])) heads n ≡ length found + 1
same_end found x heads n h past = get_or_past heads.starts.items n (length (found ++ x ∷ [])) (omega (arith, past, h.paired)) ∙ group_more found x

one_alone : (P : Class → Type 0) (x : Class) → P x → All P (x ∷ [])
one_alone P x here = All-from_recursion P (x ∷ []) (here, tt)

pub heads_same : (found : List Class) (x : Class) (heads : Heads) → AreHeads found heads → 0 < length heads.firsts.items → slice_index heads.firsts.items (length heads.firsts.items - 1) ≡ x.first → AreHeads (found ++ x ∷ []) heads
heads_same found x heads h some last = record {
  paired = h.paired;
  begin = same_below found x heads 0 h some ∙ h.begin;
  rising = λ n w. elim (place_cases (n + 1) (length heads.firsts.items)) [
    | inl below ↦ let a = same_below found x heads n h w in let b = same_below found x heads (n + 1) h below in let r = h.rising n w in omega (arith, a, b, r)
    | inr other ↦ let a = same_below found x heads n h w in let b = same_end found x heads (n + 1) h (omega (arith, other)) in let r = start_within found heads n h (omega (arith, w)) in omega (arith, a, b, r)
  ];
  each = λ n w. elim (place_cases (n + 1) (length heads.firsts.items)) [
    | inl below ↦
        let e : groups_at (found ++ x ∷ []) heads n ≡ groups_at found heads n =
        ap (λ (i : ℕ). slice_range (found ++ x ∷ []) i (start_of (length (found ++ x ∷ [])) heads (n + 1))) (same_below found x heads n h w)
        ∙ ap (slice_range (found ++ x ∷ []) (start_of (length found) heads n)) (same_below found x heads (n + 1) h below)
        ∙ kept_range found (x ∷ []) (start_of (length found) heads n) (start_of (length found) heads (n + 1)) (let r = h.rising n w in omega (arith, r)) (start_within found heads (n + 1) h (omega (arith, w))) in
        subst (All (λ (g : Class). g.first ≡ slice_index heads.firsts.items n)) (sym e) (h.each n w)
    | inr other ↦
        let past : length heads.firsts.items ≤ n + 1 = omega (arith, other) in
        let here : length heads.firsts.items - 1 ≡ n = omega (arith, past, w) in
        let e : groups_at (found ++ x ∷ []) heads n ≡ groups_at found heads n ++ x ∷ [] =
        ap (λ (i : ℕ). slice_range (found ++ x ∷ []) i (start_of (length (found ++ x ∷ [])) heads (n + 1))) (same_below found x heads n h w)
        ∙ ap (slice_range (found ++ x ∷ []) (start_of (length found) heads n)) (same_end found x heads (n + 1) h past)
        ∙ last_range found x (start_of (length found) heads n) (start_within found heads n h (omega (arith, w)))
        ∙ ap (λ (i : ℕ). slice_range found (start_of (length found) heads n) i ++ x ∷ []) (sym (start_end found heads (n + 1) h past)) in
        let P : Class → Type 0 = λ g. g.first ≡ slice_index heads.firsts.items n in
        subst (All P) (sym e) (All-append P (groups_at found heads n) (x ∷ []) (h.each n w) (one_alone P x (sym last ∙ ap (slice_index heads.firsts.items) here)))
  ];
  apart = h.apart;
}

-- of another

more_within : (found : List Class) (x : Class) (old new : Heads) (n : ℕ) → AreHeads found old → new.starts.items ≡ old.starts.items ++ length found ∷ [] → n ≤ length old.firsts.items → start_of (length (found ++ x ∷ [])) new n ≡ start_of (length found) old n
more_within found x old new n h starts w =
    ap (λ (l : List ℕ). get_or l n (length (found ++ x ∷ []))) starts
    ∙ elim (place_cases n (length old.starts.items)) [
      | inl below ↦ get_or_append_left old.starts.items (length found ∷ []) (length (found ++ x ∷ [])) n below ∙ get_or_default old.starts.items n (length (found ++ x ∷ [])) (length found) below
      | inr other ↦ get_or_push old.starts.items (length found) (length (found ++ x ∷ [])) n (omega (arith, other, w, h.paired)) ∙ sym (start_end found old n h (omega (arith, other, h.paired)))
    ]

more_end : (found : List Class) (x : Class) (old new : Heads) (n : ℕ) → AreHeads found old → new.starts.items ≡ old.starts.items ++ length found ∷ [] → length old.firsts.items < n → start_of (length (found ++ x ∷ [])) new n ≡ length found + 1
more_end found x old new n h starts past =
    let l = ap length starts ∙ length-append old.starts.items (length found ∷ []) in
    get_or_past new.starts.items n (length (found ++ x ∷ [])) (omega (arith, l, past, h.paired)) ∙ group_more found x

more_first : (firsts new : List ℕ) (first n : ℕ) → new ≡ firsts ++ first ∷ [] → n < length firsts → slice_index new n ≡ slice_index firsts n
more_first firsts new first n e w = ap (λ (l : List ℕ). slice_index l n) e ∙ get_or_append_left firsts (first ∷ []) 0 n w

last_first : (firsts new : List ℕ) (first n : ℕ) → new ≡ firsts ++ first ∷ [] → length firsts ≡ n → slice_index new n ≡ first
last_first firsts new first n e w = ap (λ (l : List ℕ). slice_index l n) e ∙ get_or_push firsts first 0 n w

pub heads_more : (found : List Class) (x : Class) (old new : Heads) → AreHeads found old → new.firsts.items ≡ old.firsts.items ++ x.first ∷ [] → new.starts.items ≡ old.starts.items ++ length found ∷ []
    → (0 < length old.firsts.items → (slice_index old.firsts.items (length old.firsts.items - 1) == x.first) ≡ false) → AreHeads (found ++ x ∷ []) new
heads_more found x old new h firsts starts another =
    let longer = ap length firsts ∙ length-append old.firsts.items (x.first ∷ []) in
    let longer2 = ap length starts ∙ length-append old.starts.items (length found ∷ []) in
    record {
      paired = omega (arith, longer, longer2, h.paired);
      begin = more_within found x old new 0 h starts (omega arith) ∙ h.begin;
      rising = λ n w. elim (place_cases n (length old.firsts.items)) [
        | inl below ↦ let a = more_within found x old new n h starts (omega (arith, below)) in let b = more_within found x old new (n + 1) h starts (omega (arith, below)) in let r = h.rising n below in omega (arith, a, b, r)
        | inr other ↦ let a = more_within found x old new n h starts (omega (arith, w, longer)) in let b = more_end found x old new (n + 1) h starts (omega (arith, other)) in let r = start_within found old n h (omega (arith, w, longer)) in omega (arith, a, b, r)
      ];
      each = λ n w. elim (place_cases n (length old.firsts.items)) [
        | inl below ↦
            let e : groups_at (found ++ x ∷ []) new n ≡ groups_at found old n =
            ap (λ (i : ℕ). slice_range (found ++ x ∷ []) i (start_of (length (found ++ x ∷ [])) new (n + 1))) (more_within found x old new n h starts (omega (arith, below)))
            ∙ ap (slice_range (found ++ x ∷ []) (start_of (length found) old n)) (more_within found x old new (n + 1) h starts (omega (arith, below)))
            ∙ kept_range found (x ∷ []) (start_of (length found) old n) (start_of (length found) old (n + 1)) (let r = h.rising n below in omega (arith, r)) (start_within found old (n + 1) h (omega (arith, below))) in
            subst (λ (m : ℕ). All (λ (g : Class). g.first ≡ m) (groups_at (found ++ x ∷ []) new n)) (sym (more_first old.firsts.items new.firsts.items x.first n firsts below))
            (subst (All (λ (g : Class). g.first ≡ slice_index old.firsts.items n)) (sym e) (h.each n below))
        | inr other ↦
            let at : length old.firsts.items ≡ n = omega (arith, other, w, longer) in
            let e : groups_at (found ++ x ∷ []) new n ≡ x ∷ [] =
            ap (λ (i : ℕ). slice_range (found ++ x ∷ []) i (start_of (length (found ++ x ∷ [])) new (n + 1))) (more_within found x old new n h starts (omega (arith, at)) ∙ start_end found old n h (omega (arith, at)))
            ∙ ap (slice_range (found ++ x ∷ []) (length found)) (more_end found x old new (n + 1) h starts (omega (arith, at)))
            ∙ last_range found x (length found) (omega arith)
            ∙ ap (λ (ys : List Class). take (length found - length found) ys ++ x ∷ []) (drop_all (length found) found (omega arith))
            ∙ ap (λ (ys : List Class). ys ++ x ∷ []) (take_none (length found - length found)) in
            let P : Class → Type 0 = λ g. g.first ≡ slice_index new.firsts.items n in
            subst (All P) (sym e) (one_alone P x (sym (last_first old.firsts.items new.firsts.items x.first n firsts at)))
      ];
      apart = λ n w. elim (place_cases (n + 1) (length old.firsts.items)) [
        | inl below ↦
            ap (λ (m : ℕ). m == slice_index new.firsts.items (n + 1)) (more_first old.firsts.items new.firsts.items x.first n firsts (omega (arith, below)))
            ∙ ap (λ (m : ℕ). slice_index old.firsts.items n == m) (more_first old.firsts.items new.firsts.items x.first (n + 1) firsts below)
            ∙ h.apart n below
        | inr other ↦
            let at : length old.firsts.items ≡ n + 1 = omega (arith, other, w, longer) in
            let here : n ≡ length old.firsts.items - 1 = omega (arith, at) in
            ap (λ (m : ℕ). m == slice_index new.firsts.items (n + 1)) (more_first old.firsts.items new.firsts.items x.first n firsts (omega (arith, at)) ∙ ap (slice_index old.firsts.items) here)
            ∙ ap (λ (m : ℕ). slice_index old.firsts.items (length old.firsts.items - 1) == m) (last_first old.firsts.items new.firsts.items x.first (n + 1) firsts at)
            ∙ another (omega (arith, at))
      ];
    }
  where
    take_none : (n : ℕ) → take {A = Class} n [] ≡ []
    take_none zero = refl
    take_none (suc n) = refl
