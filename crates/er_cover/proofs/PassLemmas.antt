-- The pass by rising rank.
use Rattle.std.proofs.Common.{◌≡◌, ℕ, zero, suc, ◌+◌, ◌*◌, ◌<◌, ◌≤◌, Bool, true, false, List, [], ◌∷◌, ◌++◌, length, get_or, take, drop, refl, sym, ap, ◌∙◌, arith, subst, inl, inr, All, ◌^◌}
use Rattle.std.specs.Prelude.{◌||◌, ◌&&◌, ◌==◌, ◌⊎◌, not, map, Option, Some, None, if◌then◌else◌}
use Rattle.std.specs.List.{list_any, AllByRecursion, filter}
use Rattle.std.proofs.lemmas.Grind.{common_steps}
use Rattle.std.proofs.lemmas.Bool.Decides.{nat_tests}
use Rattle.std.proofs.lemmas.List.Elements.{recursion_from_All, All-from_recursion}
use Rattle.std.proofs.lemmas.Nat.{mul-le}
use Rattle.er_cover.specs.declared.class.Class.{Class}
use Rattle.er_cover.specs.Classes.{is_among, same}
use Rattle.er_cover.specs.Groups.{covers, is_maximal, maximal_of, most_classes, name_of}
use Rattle.er_cover.specs.Passes.{rank, seconds_from, AreRising, AreDistinct, IsKnown, Keeps}
use Rattle.er_cover.proofs.CoverLemmas.{AreOrders, name_cons, decide, or_cases, same_is, same_refl, pass_decides, filter_append, fewer_before}

-- one step of the search
pub cover_step : (joined : ℕ → ℕ → Bool) (gs : List Class) (i : ℕ) (g x : Class) → i < length gs → g ≡ get_or gs i g → name_of joined (drop i gs) x ≡ (if covers joined g x then 0 else 1 + name_of joined (drop (i + 1) gs) x)
cover_step joined [] i g x h e = absurd (omega arith)
cover_step joined (y ∷ gs) zero g x h e = name_cons joined y gs x ∙ ap (λ (z : Class). if covers joined z x then 0 else 1 + name_of joined gs x) (sym e)
cover_step joined (y ∷ gs) (suc i) g x h e = let f : suc i + 1 ≡ suc (i + 1) = omega arith in rw f (cover_step joined gs i g x (omega arith) e)

pub cover_end : (joined : ℕ → ℕ → Bool) (gs : List Class) (i : ℕ) (x : Class) → length gs ≤ i → name_of joined (drop i gs) x ≡ 0
cover_end joined gs i x h = ap (λ (ys : List Class). name_of joined ys x) (past gs i h)
  where
    past : (xs : List Class) (i : ℕ) → length xs ≤ i → drop i xs ≡ []
    past [] i h = grind (arith, common_steps)
    past (y ∷ xs) zero h = absurd (omega arith)
    past (y ∷ xs) (suc i) h = past xs i (omega arith)

one_same : (a b : ℕ) → (1 + a == suc b) ≡ (a == b)
one_same a b = grind (arith, nat_tests)

-- none covers exactly where the search came to the end
pub none_covers : (joined : ℕ → ℕ → Bool) (gs : List Class) (x : Class) → (name_of joined gs x == length gs) ≡ not (list_any (λ g. covers joined g x) gs)
none_covers joined [] x = refl
none_covers joined (g ∷ gs) x = elim (decide (covers joined g x)) [
  | inl t ↦ rw t (grind (arith, nat_tests))
  | inr n ↦ rw n (one_same (name_of joined gs x) (length gs) ∙ none_covers joined gs x)
]

member_cases : (y z : Class) (zs : List Class) → is_among y (z ∷ zs) ≡ true → (z ≡ y) ⊎ (is_among y zs ≡ true)
member_cases y z zs h = elim (or_cases (same z y) (is_among y zs) h) [
  | inl s ↦ inl (same_is z y s)
  | inr n ↦ inr n
]

pub all_at : (P : Class → Type 0) (xs : List Class) (y : Class) → AllByRecursion P xs → is_among y xs ≡ true → P y
all_at P [] y a h = absurd (cc)
all_at P (z ∷ zs) y a h = elim (member_cases y z zs h) [
  | inl s ↦ subst P s a.0
  | inr n ↦ all_at P zs y a.1 n
]

member_at : (xs : List Class) (i : ℕ) (x : Class) → i < length xs → x ≡ get_or xs i x → is_among x xs ≡ true
member_at [] i x h e = absurd (omega arith)
member_at (z ∷ zs) zero x h e = let M : Class → Type 0 = λ m. is_among m (z ∷ zs) ≡ true in subst M (sym e) (let s = same_refl z in grind (arith))
member_at (z ∷ zs) (suc i) x h e = let m : is_among x zs ≡ true = member_at zs i x (omega arith) e in grind (arith)

-- what is of a lesser rank than the next was passed
pub lesser_before : (actions : ℕ) (xs : List Class) (i : ℕ) (x y : Class) → i < length xs → x ≡ get_or xs i x → AreRising actions xs → is_among y xs ≡ true → rank actions y < rank actions x → is_among y (take i xs) ≡ true
lesser_before actions [] i x y h e a m w = absurd (omega arith)
lesser_before actions (z ∷ zs) zero x y h e a m w = elim (member_cases y z zs m) [
  | inl s ↦ let t : rank actions x ≡ rank actions y = ap (λ (p : Class). rank actions p) (e ∙ s) in absurd (omega arith)
  | inr n ↦ let t : rank actions x ≡ rank actions z = ap (λ (p : Class). rank actions p) e in let l : rank actions z ≤ rank actions y = all_at (λ p. rank actions z ≤ rank actions p) zs y a.0 n in absurd (omega arith)
]
lesser_before actions (z ∷ zs) (suc i) x y h e a m w = elim (member_cases y z zs m) [
  | inl s ↦ let M : Class → Type 0 = λ p. is_among p (z ∷ take i zs) ≡ true in subst M s (let r = same_refl z in grind (arith))
  | inr n ↦ let k : is_among y (take i zs) ≡ true = lesser_before actions zs i x y (omega arith) e a.1 n w in grind (arith)
]

-- and what was passed is another
pub apart_before : (xs : List Class) (i : ℕ) (x y : Class) → i < length xs → x ≡ get_or xs i x → AreDistinct xs → is_among y (take i xs) ≡ true → (is_among y xs ≡ true) × (same y x ≡ false)
apart_before [] i x y h e a m = absurd (omega arith)
apart_before (z ∷ zs) zero x y h e a m = absurd (cc)
apart_before (z ∷ zs) (suc i) x y h e a m = elim (member_cases y z (take i zs) m) [
  | inl s ↦
      let n : same z x ≡ false = all_at (λ p. same z p ≡ false) zs x a.0 (member_at zs i x (omega arith) e) in
      let M : Class → Type 0 = λ p. (is_among p (z ∷ zs) ≡ true) × (same p x ≡ false) in
      subst M s (let r = same_refl z in grind (arith), n)
  | inr k ↦ let r = apart_before zs i x y (omega arith) e a.1 k in (let m2 : is_among y zs ≡ true = r.0 in grind (arith), r.1)
]

-- one step of the pass
pub pass_step : (actions : ℕ) (joined : ℕ → ℕ → Bool) (xs found : List Class) (i : ℕ) (x : Class) → AreOrders joined → AllByRecursion (IsKnown actions) xs → AreRising actions xs → AreDistinct xs → i < length xs → x ≡ get_or xs i x → found ≡ filter (λ y. is_maximal joined xs y) (take i xs)
    → filter (λ y. is_maximal joined xs y) (take (i + 1) xs) ≡ (if name_of joined found x == length found then found ++ x ∷ [] else found)
pass_step actions joined xs found i x o p up apart h e f =
    let t : Class → Bool = λ y. is_maximal joined xs y in
    let decides : list_any (λ g. covers joined g x) (filter t (take i xs)) ≡ not (is_maximal joined xs x) = pass_decides actions joined xs (take i xs) x o p (λ y m w. lesser_before actions xs i x y h e up m w) (λ y m. apart_before xs i x y h e apart m) in
    let same : (name_of joined found x == length found) ≡ is_maximal joined xs x = none_covers joined found x ∙ ap (λ (gs : List Class). not (list_any (λ g. covers joined g x) gs)) f ∙ ap not decides ∙ twice (is_maximal joined xs x) in
    ap (λ (ys : List Class). filter t ys) (taken xs i x h e) ∙ filter_append t (take i xs) (x ∷ []) ∙ ap (λ (ys : List Class). ys ++ filter t (x ∷ [])) (sym f) ∙ last found x (is_maximal joined xs x) ∙ ap (λ (b : Bool). if b then found ++ x ∷ [] else found) (sym same)
  where
    twice : (b : Bool) → not (not b) ≡ b
    twice true = refl
    twice false = refl

    append_none : (ys : List Class) → ys ++ [] ≡ ys
    append_none [] = refl
    append_none (y ∷ ys) = ap (λ (zs : List Class). y ∷ zs) (append_none ys)

    last : (found : List Class) (x : Class) (b : Bool) → found ++ (if b then x ∷ [] else []) ≡ (if b then found ++ x ∷ [] else found)
    last found x true = refl
    last found x false = append_none found

    taken : (xs : List Class) (i : ℕ) (x : Class) → i < length xs → x ≡ get_or xs i x → take (i + 1) xs ≡ take i xs ++ x ∷ []
    taken [] i x h e = absurd (omega arith)
    taken (z ∷ zs) zero x h e = ap (λ (y : Class). y ∷ []) (sym e)
    taken (z ∷ zs) (suc i) x h e = let f : suc i + 1 ≡ suc (i + 1) = omega arith in rw f (ap (λ (ys : List Class). z ∷ ys) (taken zs i x (omega arith) e))

-- the found ones are no more than the maximal ones
pub found_few : (joined : ℕ → ℕ → Bool) (xs found : List Class) (i : ℕ) → found ≡ filter (λ y. is_maximal joined xs y) (take i xs) → length found ≤ length (maximal_of joined xs)
found_few joined xs found i f = let t : Class → Bool = λ y. is_maximal joined xs y in let e : length (filter t (take i xs)) ≤ length (filter t (take i xs ++ drop i xs)) = fewer_before t (take i xs) (drop i xs) in
    let s : length (filter t (take i xs ++ drop i xs)) ≡ length (filter t xs) = ap (λ (ys : List Class). length (filter t ys)) (rejoin xs i) in omega (arith, ap (λ (ys : List Class). length ys) f)
  where
    rejoin : (xs : List Class) (i : ℕ) → take i xs ++ drop i xs ≡ xs
    rejoin xs i = grind (arith, common_steps)

-- and known
pub found_known : (n : ℕ) (joined : ℕ → ℕ → Bool) (xs found : List Class) (i : ℕ) → All (IsKnown n) xs → found ≡ filter (λ y. is_maximal joined xs y) (take i xs) → All (IsKnown n) found
found_known n joined xs found i a f =
    let K : Class → Type 0 = λ x. (x.first < n) × (x.second < n) in
    let F : List Class → Type 0 = λ ys. All K ys in
    subst F (sym f) (All-from_recursion K (filter (λ y. is_maximal joined xs y) (take i xs)) (kept K (λ y. is_maximal joined xs y) (take i xs) (front K i xs (recursion_from_All K xs a))))
  where
    front : (K : Class → Type 0) (i : ℕ) (xs : List Class) → AllByRecursion K xs → AllByRecursion K (take i xs)
    front K zero xs a = tt
    front K (suc i) [] a = tt
    front K (suc i) (x ∷ xs) a = (a.0, front K i xs a.1)

    kept : (K : Class → Type 0) (t : Class → Bool) (xs : List Class) → AllByRecursion K xs → AllByRecursion K (filter t xs)
    kept K t [] a = tt
    kept K t (x ∷ xs) a = elim (decide (t x)) [
      | inl e ↦ rw e (a.0, kept K t xs a.1)
      | inr e ↦ rw e (kept K t xs a.1)
    ]

-- the meter
more_times : (i f : ℕ) → (i + 1) * f ≡ i * f + f
more_times i f = grind arith

pub scan_bound : (o t u i f n g : ℕ) → t ≤ o + 2 * (i * f) → u ≤ t + 2 * f → i < n → f ≤ g → u ≤ o + 2 * (n * g)
scan_bound o t u i f n g a b c d = let m : (i + 1) * f ≤ n * g = mul-le (i + 1) f n g (omega arith) d in let e : (i + 1) * f ≡ i * f + f = more_times i f in omega arith

pub step_bound : (o t u i f g : ℕ) → t ≤ o + 2 * (i * f) → u ≤ t + 2 * f → f ≤ g → u ≤ o + 2 * ((i + 1) * g)
step_bound o t u i f g a b d = scan_bound o t u i f (i + 1) g a b (omega arith) d

pub room_left : (o t i f : ℕ) → o < 2 ^ 61 + 2 ^ 31 → t ≤ o + 2 * (i * f) → i ≤ most_classes → f ≤ most_classes → t + 2 * f < 2 ^ 62
room_left o t i f a b c d = let m : i * f ≤ most_classes * most_classes = mul-le i f most_classes most_classes c d in omega arith

pub same_read : (xs : List Class) (i : ℕ) (d e : Class) → i < length xs → get_or xs i d ≡ get_or xs i e
same_read [] i d e h = absurd (omega arith)
same_read (x ∷ xs) zero d e h = refl
same_read (x ∷ xs) (suc i) d e h = same_read xs i d e (omega arith)

pub filter_le : (t : Class → Bool) (xs : List Class) → length (filter t xs) ≤ length xs
filter_le t [] = omega arith
filter_le t (x ∷ xs) = elim (decide (t x)) [
  | inl e ↦ rw e (let h : length (filter t xs) ≤ length xs = filter_le t xs in omega arith)
  | inr e ↦ rw e (let h : length (filter t xs) ≤ length xs = filter_le t xs in omega arith)
]

pub found_small : (joined : ℕ → ℕ → Bool) (xs found : List Class) (i : ℕ) → found ≡ filter (λ y. is_maximal joined xs y) (take i xs) → length found ≤ length xs
found_small joined xs found i f = let a : length found ≤ length (maximal_of joined xs) = found_few joined xs found i f in let b : length (maximal_of joined xs) ≤ length xs = filter_le (λ y. is_maximal joined xs y) xs in omega arith

-- the loop's step
pub step_kept : (actions : ℕ) (joined : ℕ → ℕ → Bool) (xs found new : List Class) (i : ℕ) (d : Class) → AreOrders joined → AllByRecursion (IsKnown actions) xs → AreRising actions xs → AreDistinct xs → i < length xs
    → found ≡ filter (λ y. is_maximal joined xs y) (take i xs) → Keeps joined (get_or xs i d) found new → new ≡ filter (λ y. is_maximal joined xs y) (take (i + 1) xs)
step_kept actions joined xs found new i d o p up apart h f k =
    let x : Class = get_or xs i d in
    let here : x ≡ get_or xs i x = same_read xs i d x h in
    k
    ∙ turned (list_any (λ g. covers joined g x) found) (found ++ x ∷ []) found
    ∙ ap (λ (c : Bool). if c then found ++ x ∷ [] else found) (sym (none_covers joined found x))
    ∙ sym (pass_step actions joined xs found i x o p up apart h here f)
  where
    turned : (b : Bool) (more same : List Class) → (if b then same else more) ≡ (if not b then more else same)
    turned true more same = refl
    turned false more same = refl

-- where memory ran out, no more than one more class was compared
pub step_cost : (joined : ℕ → ℕ → Bool) (xs found : List Class) (i o t u : ℕ) → found ≡ filter (λ y. is_maximal joined xs y) (take i xs) → t ≤ o + 2 * (i * length (maximal_of joined xs)) → u ≤ t + 2 * length found
    → u ≤ o + 2 * ((i + 1) * length (maximal_of joined xs))
step_cost joined xs found i o t u f a b =
    let few = found_few joined xs found i f in
    let e : (i + 1) * length (maximal_of joined xs) ≡ i * length (maximal_of joined xs) + length (maximal_of joined xs) = more_times i (length (maximal_of joined xs)) in
    omega arith

pub whole_cost : (o u i n g : ℕ) → u ≤ o + 2 * (i * g) → i ≤ n → u ≤ o + 2 * (n * g)
whole_cost o u i n g a h = let m : i * g ≤ n * g = mul-le i g n g h (omega arith) in omega arith

pub room_kept : (joined : ℕ → ℕ → Bool) (xs found : List Class) (i o t : ℕ) → found ≡ filter (λ y. is_maximal joined xs y) (take i xs) → i < length xs → length xs ≤ most_classes → o < 2 ^ 61 → t ≤ o + 2 * (i * length (maximal_of joined xs)) → t + 2 * length found < 2 ^ 62
room_kept joined xs found i o t f within few r a =
    let l : length found ≤ length xs = found_small joined xs found i f in
    let g : length (maximal_of joined xs) ≤ length xs = filter_le (λ y. is_maximal joined xs y) xs in
    let s : length found ≤ length (maximal_of joined xs) = found_few joined xs found i f in
    let m : t + 2 * length (maximal_of joined xs) < 2 ^ 62 = room_left o t i (length (maximal_of joined xs)) (omega arith) a (omega arith) (omega arith) in
    omega arith

-- the second actions to which a first action leads

any_mapped : (joined : ℕ → ℕ → Bool) (first second : ℕ) (gs : List Class) → list_any (λ i. joined i second) (seconds_from joined first gs) ≡ list_any (λ g. covers joined g (record { first = first; second = second })) gs
any_mapped joined first second [] = refl
any_mapped joined first second (g ∷ gs) = by (joined first g.first) (any_mapped joined first second gs)
  where
    by : (b : Bool) → list_any (λ i. joined i second) (seconds_from joined first gs) ≡ list_any (λ g. covers joined g (record { first = first; second = second })) gs
        → list_any (λ i. joined i second) (map (λ (m : Class). m.second) (if b then g ∷ filter (λ (m : Class). joined first m.first) gs else filter (λ (m : Class). joined first m.first) gs))
        ≡ ((b && joined g.second second) || list_any (λ g. covers joined g (record { first = first; second = second })) gs)
    by true e = ap (λ (b : Bool). joined g.second second || b) e
    by false e = e

pub any_covers : (joined : ℕ → ℕ → Bool) (x : Class) (gs : List Class) → list_any (λ i. joined i x.second) (seconds_from joined x.first gs) ≡ list_any (λ g. covers joined g x) gs
any_covers joined x gs = any_mapped joined x.first x.second gs

pub seconds_more : (joined : ℕ → ℕ → Bool) (first : ℕ) (gs : List Class) (g : Class) → joined first g.first ≡ true → seconds_from joined first gs ++ g.second ∷ [] ≡ seconds_from joined first (gs ++ g ∷ [])
seconds_more joined first gs g leads =
    sym (ap (map (λ (m : Class). m.second)) (filter_append (λ (m : Class). joined first m.first) gs (g ∷ []) ∙ ap (λ (b : Bool). filter (λ (m : Class). joined first m.first) gs ++ (if b then g ∷ [] else [])) leads)
    ∙ mapped (filter (λ (m : Class). joined first m.first) gs) g)
  where
    mapped : (xs : List Class) (x : Class) → map (λ (m : Class). m.second) (xs ++ x ∷ []) ≡ map (λ (m : Class). m.second) xs ++ x.second ∷ []
    mapped [] x = refl
    mapped (y ∷ ys) x = ap (λ (l : List ℕ). y.second ∷ l) (mapped ys x)

pub seconds_few : (joined : ℕ → ℕ → Bool) (first : ℕ) (gs : List Class) → length (seconds_from joined first gs) ≤ length gs
seconds_few joined first [] = omega arith
seconds_few joined first (g ∷ gs) = by (joined first g.first) (seconds_few joined first gs)
  where
    by : (b : Bool) → length (seconds_from joined first gs) ≤ length gs → length (map (λ (m : Class). m.second) (if b then g ∷ filter (λ (m : Class). joined first m.first) gs else filter (λ (m : Class). joined first m.first) gs)) ≤ suc (length gs)
    by true h = omega (arith, h)
    by false h = omega (arith, h)

pub seconds_known : (n : ℕ) (joined : ℕ → ℕ → Bool) (first : ℕ) (gs : List Class) (seconds : List ℕ) → All (IsKnown n) gs → seconds ≡ seconds_from joined first gs → All (λ i. i < n) seconds
seconds_known n joined first gs seconds known e =
    let K : Class → Type 0 = λ x. (x.first < n) × (x.second < n) in
    subst (λ (l : List ℕ). All (λ i. i < n) l) (sym e) (All-from_recursion (λ i. i < n) (seconds_from joined first gs) (each gs (recursion_from_All K gs known)))
  where
    each : (xs : List Class) → AllByRecursion (λ (x : Class). (x.first < n) × (x.second < n)) xs → AllByRecursion (λ i. i < n) (seconds_from joined first xs)
    each [] all = tt
    each (x ∷ xs) all = by (joined first x.first) (each xs all.1)
      where
        by : (b : Bool) → AllByRecursion (λ i. i < n) (seconds_from joined first xs) → AllByRecursion (λ i. i < n) (map (λ (m : Class). m.second) (if b then x ∷ filter (λ (m : Class). joined first m.first) xs else filter (λ (m : Class). joined first m.first) xs))
        by true rest = (all.0.1, rest)
        by false rest = rest

pub one_some : (a b : ℕ) → Some a ≡ Some b → a ≡ b
one_some a b e = ap or_none e
  where
    or_none : Option ℕ → ℕ
    or_none None = 0
    or_none (Some n) = n
