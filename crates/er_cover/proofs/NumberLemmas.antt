-- Classes as they are found, race by race, and what is looked up under their numbers.
use Rattle.std.proofs.Common.{◌≡◌, ℕ, zero, suc, ◌+◌, ◌<◌, ◌≤◌, Bool, true, false, List, [], ◌∷◌, ◌++◌, length, get_or, take, set, ◌^◌, refl, sym, ap, ◌∙◌, arith, inl, inr}
use Rattle.std.specs.Prelude.{Some, ◌==◌, ◌||◌, ◌&&◌, not, cond, map, slice_index, if◌then◌else◌}
use Rattle.std.specs.List.{position, list_any, AllByRecursion, filter, position_or_len}
use Rattle.std.proofs.lemmas.Bool.Decides.{nat_tests}
use Rattle.std.proofs.lemmas.List.{take_more, get_or-set_same, get_or-set_other, length-take-le}
use Rattle.std.proofs.lemmas.List.Sums.{count_by_more_yes, count_by_more_no, count_by-le-length, position_or_len_is}
use Rattle.std.proofs.lemmas.List.Folds.{list_any_at}
use Rattle.std.proofs.lemmas.List.Quantifiers.{position-Some}
use Rattle.er_cover.specs.declared.class.Class.{Class}
use Rattle.er_cover.specs.Classes.{same, is_among, each_once}
use Rattle.er_cover.specs.Groups.{representative, size_of, covers, name_of}
use Rattle.er_cover.specs.Passes.{AreMaximal}
use Rattle.er_cover.proofs.OrderLemmas.{each_member}
use Rattle.er_cover.proofs.CoverLemmas.{name_cons, same_sym, decide, same_is, same_refl, member_filter, filter_append}

append_none : (ys : List Class) → ys ++ [] ≡ ys
append_none [] = refl
append_none (y ∷ ys) = ap (λ (zs : List Class). y ∷ zs) (append_none ys)

-- an added one is filtered too
tail_filter : (t : Class → Bool) (xs : List Class) (x : Class) (b : Bool) → filter t (if b then xs else xs ++ x ∷ []) ≡ (if b || not (t x) then filter t xs else filter t xs ++ x ∷ [])
tail_filter t xs x true = refl
tail_filter t xs x false = filter_append t xs (x ∷ []) ∙ last (t x)
  where
    last : (b : Bool) → filter t xs ++ (if b then x ∷ [] else []) ≡ (if not b then filter t xs else filter t xs ++ x ∷ [])
    last true = refl
    last false = append_none (filter t xs)

push_cons : (y : Class) (xs : List Class) (x : Class) (b : Bool) → y ∷ (if b then xs else xs ++ x ∷ []) ≡ (if b then y ∷ xs else (y ∷ xs) ++ x ∷ [])
push_cons y xs x true = refl
push_cons y xs x false = refl

either_way : (a s : Bool) → (a || not (not s)) ≡ (s || (a && not s))
either_way true true = refl
either_way true false = refl
either_way false true = refl
either_way false false = refl

or_apart : (a s : Bool) → (s || (a && not s)) ≡ (s || a)
or_apart true true = refl
or_apart true false = refl
or_apart false true = refl
or_apart false false = refl

-- one more race: its class goes last, where it is new
pub once_push : (xs : List Class) (x : Class) → each_once (xs ++ x ∷ []) ≡ (if is_among x (each_once xs) then each_once xs else each_once xs ++ x ∷ [])
once_push [] x = refl
once_push (y ∷ ys) x =
    let t : Class → Bool = λ z. not (same z y) in
    let known : (is_among x (each_once ys) || not (not (same x y))) ≡ (same y x || is_among x (filter t (each_once ys))) =
    either_way (is_among x (each_once ys)) (same x y) ∙ ap (λ (b : Bool). same x y || b) (sym (member_filter t (each_once ys) x)) ∙ ap (λ (b : Bool). b || is_among x (filter t (each_once ys))) (same_sym x y) in
    ap (λ (zs : List Class). y ∷ filter t zs) (once_push ys x) ∙ ap (λ (zs : List Class). y ∷ zs) (tail_filter t (each_once ys) x (is_among x (each_once ys))) ∙ push_cons y (filter t (each_once ys)) x _ ∙ ap (λ (b : Bool). if b then y ∷ filter t (each_once ys) else (y ∷ filter t (each_once ys)) ++ x ∷ []) known

-- the classes are those of the races
pub once_members : (xs : List Class) (x : Class) → is_among x (each_once xs) ≡ is_among x xs
once_members [] x = refl
once_members (y ∷ ys) x =
    let t : Class → Bool = λ z. not (same z y) in
    ap (λ (b : Bool). same y x || b) (member_filter t (each_once ys) x ∙ ap (λ (b : Bool). b && t x) (once_members ys x))
    ∙ ap (λ (b : Bool). b || (is_among x ys && t x)) (same_sym y x) ∙ or_apart (is_among x ys) (same x y) ∙ ap (λ (b : Bool). b || is_among x ys) (same_sym x y)

pub classes_step : (pairs keys new : List Class) (i : ℕ) (d : Class) → i < length pairs → keys ≡ each_once (take i pairs) → new ≡ (if is_among (get_or pairs i d) keys then keys else keys ++ get_or pairs i d ∷ []) → new ≡ each_once (take (i + 1) pairs)
classes_step pairs keys new i d h k n =
    let x : Class = get_or pairs i d in
    n ∙ ap (λ (zs : List Class). if is_among x zs then zs else zs ++ x ∷ []) k ∙ sym (once_push (take i pairs) x) ∙ ap (λ (zs : List Class). each_once zs) (sym (take_more pairs i d h))

pub among_turned : (x : Class) (xs : List Class) → list_any (λ y. same x y) xs ≡ is_among x xs
among_turned x [] = refl
among_turned x (y ∷ ys) = ap (λ (b : Bool). b || list_any (λ z. same x z) ys) (same_sym x y) ∙ ap (λ (b : Bool). same y x || b) (among_turned x ys)

-- the same, as the index set has it
pub set_step : (classes keys new : List Class) (i : ℕ) (d : Class) → i < length classes → keys ≡ each_once (take i classes) → new ≡ (if list_any (λ y. same (get_or classes i d) y) keys then keys else keys ++ get_or classes i d ∷ []) → new ≡ each_once (take (i + 1) classes)
set_step classes keys new i d h k n = classes_step classes keys new i d h k (n ∙ ap (λ (b : Bool). if b then keys else keys ++ get_or classes i d ∷ []) (among_turned (get_or classes i d) keys))

-- a race of a new class is the first of it
pub first_here : (xs : List Class) (i : ℕ) (d : Class) → i < length xs → is_among (get_or xs i d) (take i xs) ≡ false → representative xs (get_or xs i d) ≡ i
first_here [] i d h m = absurd (omega arith)
first_here (y ∷ ys) zero d h m = rw (same_refl y) refl
first_here (y ∷ ys) (suc i) d h m =
    let p = neither (same y (get_or ys i d)) (is_among (get_or ys i d) (take i ys)) m in
    rw p.0 (ap (λ (n : ℕ). 1 + n) (first_here ys i d (omega arith) p.1) ∙ omega arith)
  where
    neither : (a b : Bool) → (a || b) ≡ false → (a ≡ false) × (b ≡ false)
    neither true b e = absurd (cc)
    neither false b e = (refl, e)

map_push : (f : Class → ℕ) (xs : List Class) (x : Class) → map f (xs ++ x ∷ []) ≡ map f xs ++ f x ∷ []
map_push f [] x = refl
map_push f (y ∷ ys) x = ap (λ (zs : List ℕ). f y ∷ zs) (map_push f ys x)

pub firsts_step : (pairs keys : List Class) (old new : List ℕ) (i : ℕ) (d : Class) → i < length pairs → keys ≡ each_once (take i pairs) → old ≡ map (λ x. representative pairs x) (each_once (take i pairs)) → new ≡ (if is_among (get_or pairs i d) keys then old else old ++ i ∷ []) → new ≡ map (λ x. representative pairs x) (each_once (take (i + 1) pairs))
firsts_step pairs keys old new i d h k o n =
    let x : Class = get_or pairs i d in
    let f : Class → ℕ = λ z. representative pairs z in
    let e : List Class = each_once (take i pairs) in
    n ∙ ap (λ (zs : List Class). if is_among x zs then old else old ++ i ∷ []) k ∙ both (is_among x e) refl ∙ ap (λ (zs : List Class). map f zs) (sym (once_push (take i pairs) x) ∙ ap (λ (zs : List Class). each_once zs) (sym (take_more pairs i d h)))
  where
    both : (b : Bool) → is_among (get_or pairs i d) (each_once (take i pairs)) ≡ b → (if b then old else old ++ i ∷ []) ≡ map (λ z. representative pairs z) (if b then each_once (take i pairs) else each_once (take i pairs) ++ get_or pairs i d ∷ [])
    both true m = o
    both false m = ap (λ (zs : List ℕ). zs ++ i ∷ []) o ∙ ap (λ (j : ℕ). map (λ z. representative pairs z) (each_once (take i pairs)) ++ j ∷ []) (sym (first_here pairs i d h (sym (once_members (take i pairs) (get_or pairs i d)) ∙ m))) ∙ sym (map_push (λ z. representative pairs z) (each_once (take i pairs)) (get_or pairs i d))

-- what is kept for each class is read under its number
pub value_at : (f : Class → ℕ) (keys : List Class) (x : Class) → is_among x keys ≡ true → slice_index (map f keys) (position_or_len (λ y. same x y) keys) ≡ f x
value_at f [] x m = absurd (cc)
value_at f (k ∷ ks) x m = elim (decide (same x k)) [
  | inl e ↦ rw e (ap f (sym (same_is x k e)))
  | inr e ↦
      let there : is_among x ks ≡ true = sym (ap (λ (b : Bool). b || is_among x ks) (same_sym k x ∙ e)) ∙ m in
      let one : 1 + position_or_len (λ y. same x y) ks ≡ suc (position_or_len (λ y. same x y) ks) = omega arith in
      rw e (rw one (value_at f ks x there))
]

pub values_at : (f : Class → ℕ) (keys asked : List Class) (values : List ℕ) → values ≡ map f keys → AllByRecursion (λ x. is_among x keys ≡ true) asked → map (λ x. slice_index values (position_or_len (λ y. same x y) keys)) asked ≡ map f asked
values_at f keys [] values e a = refl
values_at f keys (x ∷ xs) values e a =
    let p : ℕ = position_or_len (λ y. same x y) keys in
    ap (λ (n : ℕ). n ∷ map (λ z. slice_index values (position_or_len (λ y. same z y) keys)) xs) (ap (λ (vs : List ℕ). slice_index vs p) e ∙ value_at f keys x a.0) ∙ ap (λ (ns : List ℕ). f x ∷ ns) (values_at f keys xs values e a.1)

-- the loops
pub kept_step : (t : Class → Bool) (xs old new : List Class) (i : ℕ) (d : Class) → i < length xs → old ≡ filter t (take i xs) → new ≡ (if t (get_or xs i d) then old ++ get_or xs i d ∷ [] else old) → new ≡ filter t (take (i + 1) xs)
kept_step t xs old new i d h o n = n ∙ last (t (get_or xs i d)) ∙ ap (λ (zs : List Class). zs ++ filter t (get_or xs i d ∷ [])) o ∙ sym (filter_append t (take i xs) (get_or xs i d ∷ [])) ∙ ap (λ (zs : List Class). filter t zs) (sym (take_more xs i d h))
  where
    last : (b : Bool) → (if b then old ++ get_or xs i d ∷ [] else old) ≡ old ++ (if b then get_or xs i d ∷ [] else [])
    last true = refl
    last false = sym (append_none old)

pub mapped_step : (f : Class → ℕ) (xs : List Class) (old new : List ℕ) (i : ℕ) (d : Class) → i < length xs → old ≡ map f (take i xs) → new ≡ old ++ f (get_or xs i d) ∷ [] → new ≡ map f (take (i + 1) xs)
mapped_step f xs old new i d h o n = n ∙ ap (λ (zs : List ℕ). zs ++ f (get_or xs i d) ∷ []) o ∙ sym (map_push f (take i xs) (get_or xs i d)) ∙ ap (λ (zs : List Class). map f zs) (sym (take_more xs i d h))

pub any_default : (xs : List ℕ) (i v : ℕ) → i < length xs → v ≡ get_or xs i v → v ≡ slice_index xs i
any_default [] i v h e = absurd (omega arith)
any_default (x ∷ xs) zero v h e = e
any_default (x ∷ xs) (suc i) v h e = any_default xs i v (omega arith) e

-- a count goes up where its number comes
pub counts_step : (names sizes : List ℕ) (i n v : ℕ) → i < length names → length sizes ≡ n → v ≡ slice_index sizes (slice_index names i) → ((g : ℕ) → g < n → slice_index sizes g ≡ size_of (take i names) g)
    → (g : ℕ) → g < n → slice_index (set sizes (slice_index names i) (v + 1)) g ≡ size_of (take (i + 1) names) g
counts_step names sizes i n v h l w e g k = elim (decide (slice_index names i == g)) [
  | inl t ↦
      let is : slice_index names i ≡ g = grind (arith, nat_tests) in
      let within : g < length sizes = omega arith in
      ap (λ (j : ℕ). slice_index (set sizes j (v + 1)) g) is ∙ get_or-set_same sizes g (v + 1) 0 within ∙ ap (λ (m : ℕ). m + 1) (w ∙ ap (λ (j : ℕ). slice_index sizes j) is ∙ e g k) ∙ sym (count_by_more_yes (λ m. m == g) names i 0 h t)
  | inr f ↦
      let other : g ≡ slice_index names i → ⊥ = λ same. let t : (slice_index names i == g) ≡ true = grind (arith, nat_tests) in cc in
      get_or-set_other sizes (slice_index names i) g (v + 1) 0 other ∙ e g k ∙ sym (count_by_more_no (λ m. m == g) names i 0 h f)
]

pub count_small : (names : List ℕ) (i g m : ℕ) → i < length names → length names ≤ 2 ^ 18 → m ≡ size_of (take i names) g → m < 2 ^ 18 + 1
count_small names i g m h l e = let a : size_of (take i names) g ≤ length (take i names) = count_by-le-length (λ n. n == g) (take i names) in omega (arith, length-take-le i names (omega arith))

-- a class that is covered by itself alone names itself
pub own_name : (joined : ℕ → ℕ → Bool) (groups : List Class) (x : Class) → AreMaximal joined groups → is_among x groups ≡ true → name_of joined groups x ≡ position_or_len (λ y. same x y) groups
own_name joined groups x alone m = alike joined groups x (each_member (λ y. covers joined y x ≡ same x y) groups (λ y h. alone x y m h))
  where
    turned : (b : Bool) (n : ℕ) → (if b then 0 else n) ≡ cond (not b) n 0
    turned true n = refl
    turned false n = refl

    alike : (joined : ℕ → ℕ → Bool) (ys : List Class) (x : Class) → AllByRecursion (λ y. covers joined y x ≡ same x y) ys → name_of joined ys x ≡ position_or_len (λ y. same x y) ys
    alike joined [] x a = refl
    alike joined (y ∷ ys) x a = name_cons joined y ys x ∙ ap (λ (b : Bool). if b then 0 else 1 + name_of joined ys x) a.0 ∙ ap (λ (n : ℕ). if same x y then 0 else 1 + n) (alike joined ys x a.1) ∙ turned (same x y) (1 + position_or_len (λ z. same x z) ys)

-- a class that has a number in the set is among its classes, and the number is its place
pub numbered : (test : Class → Bool) (keys : List Class) (g : ℕ) → position test keys ≡ Some g → (list_any test keys ≡ true) × (g ≡ position_or_len test keys)
numbered test keys g e =
    let d : Class = record { first = 0; second = 0 } in
    let p = position-Some test keys g d e in
    (list_any_at test keys g d p.0 p.1, sym (position_or_len_is test keys g d (below g (length keys) p.0) p.2 (λ _. p.1)))
  where
    below : (i n : ℕ) → i < n → i ≤ n
    below i n h = omega arith
