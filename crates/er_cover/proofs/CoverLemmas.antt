-- Which classes cover which.
use Rattle.std.proofs.Common.{◌≡◌, ℕ, zero, suc, ◌<◌, ◌≤◌, Bool, true, false, List, [], ◌∷◌, ◌++◌, length, refl, sym, ap, ◌∙◌, arith, subst, inl, inr, length-append}
use Rattle.std.specs.Prelude.{◌==◌, ◌||◌, ◌&&◌, ◌⊎◌, ◌+◌, ◌-◌, ◌*◌, nat_lt, not, cond, if◌then◌else◌}
use Rattle.std.specs.List.{list_any, AllByRecursion, filter}
use Rattle.std.proofs.lemmas.Bool.Decides.{nat_tests}
use Rattle.std.proofs.lemmas.Nat.{mul-le}
use Rattle.er_cover.specs.declared.class.Class.{Class}
use Rattle.er_cover.specs.Classes.{is_among, same}
use Rattle.er_cover.specs.Groups.{covers, is_maximal, maximal_of, name_of}
use Rattle.er_cover.specs.Passes.{rank, IsKnown}

-- what is asked of paths
pub record AreOrders (joined : ℕ → ℕ → Bool) : Type 0 where
  pub up : (i j : ℕ) → joined i j ≡ true → i ≤ j
  pub through : (i k j : ℕ) → joined i k ≡ true → joined k j ≡ true → joined i j ≡ true

pub decide : (b : Bool) → (b ≡ true) ⊎ (b ≡ false)
decide true = inl refl
decide false = inr refl

pub both : (a b : Bool) → (a && b) ≡ true → (a ≡ true) × (b ≡ true)
both true b e = (refl, e)
both false b e = absurd (cc)

pub and_true : (a b : Bool) → a ≡ true → b ≡ true → (a && b) ≡ true
and_true a b e f = grind (arith)

pub or_cases : (a b : Bool) → (a || b) ≡ true → (a ≡ true) ⊎ (b ≡ true)
or_cases true b e = inl refl
or_cases false b e = inr e

pub not_true : (a : Bool) → not a ≡ true → a ≡ false
not_true true e = absurd (cc)
not_true false e = refl

pub not_false : (a : Bool) → a ≡ false → not a ≡ true
not_false true e = absurd (cc)
not_false false e = refl

pub same_bool : (a b : Bool) → (a ≡ true → b ≡ true) → (b ≡ true → a ≡ true) → a ≡ b
same_bool true b f g = sym (f refl)
same_bool false true f g = g refl
same_bool false false f g = refl

pub same_is : (x y : Class) → same x y ≡ true → x ≡ y
same_is x y h = let b = both (x.first == y.first) (x.second == y.second) h in let e : x.first ≡ y.first = grind (arith, nat_tests) in let d : x.second ≡ y.second = grind (arith, nat_tests) in
    ap (λ (n : ℕ). the n x.second) e ∙ ap (λ (n : ℕ). the y.first n) d
  where
    the : ℕ → ℕ → Class
    the a b = record { first = a; second = b }

pub same_refl : (x : Class) → same x x ≡ true
same_refl x = grind (arith, nat_tests)

pub same_sym : (x y : Class) → same x y ≡ same y x
same_sym x y = grind (arith, nat_tests)

more_times : (i f : ℕ) → (i + 1) * f ≡ i * f + f
more_times i f = grind arith

-- a class that is covered by another is of a greater rank
pub covered_is_later : (actions : ℕ) (joined : ℕ → ℕ → Bool) (x y : Class) → AreOrders joined → IsKnown actions x → covers joined x y ≡ true → same x y ≡ false → rank actions x < rank actions y
covered_is_later actions joined x y o p h n =
    let a = both (joined y.first x.first) (joined x.second y.second) h in
    by x.first y.first x.second y.second (o.up y.first x.first a.0) (o.up x.second y.second a.1) p.0 p.1 n
  where
    by : (xf yf xs ys : ℕ) → yf ≤ xf → xs ≤ ys → xf < actions → xs < actions → ((xf == yf) && (xs == ys)) ≡ false → (actions - xf) * actions + xs < (actions - yf) * actions + ys
    by xf yf xs ys u v f s n = elim (decide (nat_lt yf xf)) [
      | inl t ↦
          let less : yf < xf = grind (arith, nat_tests) in
          let m : (actions - xf + 1) * actions ≤ (actions - yf) * actions = mul-le (actions - xf + 1) actions (actions - yf) actions (omega arith) (omega arith) in
          let e : (actions - xf + 1) * actions ≡ (actions - xf) * actions + actions = more_times (actions - xf) actions in
          omega arith
      | inr t ↦
          let same_first : xf ≡ yf = grind (arith, nat_tests) in
          let less : xs < ys = grind (arith, nat_tests) in
          let e : (actions - xf) * actions ≡ (actions - yf) * actions = ap (λ (m : ℕ). (actions - m) * actions) same_first in
          omega arith
    ]

pub covers_through : (joined : ℕ → ℕ → Bool) (x y z : Class) → AreOrders joined → covers joined x y ≡ true → covers joined y z ≡ true → covers joined x z ≡ true
covers_through joined x y z o h k = let a = both (joined y.first x.first) (joined x.second y.second) h in let b = both (joined z.first y.first) (joined y.second z.second) k in and_true _ _ (o.through z.first y.first x.first b.0 a.0) (o.through x.second y.second z.second a.1 b.1)

pub found : (q : Class → Bool) (xs : List Class) → list_any q xs ≡ true → (x : Class) × (is_among x xs ≡ true) × (q x ≡ true)
found q [] e = absurd (cc)
found q (x ∷ xs) e = elim (or_cases (q x) (list_any q xs) e) [
  | inl t ↦ (x, let s = same_refl x in grind (arith), t)
  | inr t ↦ let r = found q xs t in (r.0, grind (arith), r.2)
]

pub passes : (q : Class → Bool) (xs : List Class) (x : Class) → is_among x xs ≡ true → q x ≡ true → list_any q xs ≡ true
passes q [] x e t = absurd (cc)
passes q (y ∷ ys) x e t = elim (or_cases (same y x) (is_among x ys) e) [
  | inl s ↦ let Q : Class → Type 0 = λ m. q m ≡ true in let h : q y ≡ true = subst Q (sym (same_is y x s)) t in grind (arith)
  | inr n ↦ let h : list_any q ys ≡ true = passes q ys x n t in grind (arith)
]

pub member_filter : (t : Class → Bool) (xs : List Class) (x : Class) → is_among x (filter t xs) ≡ (is_among x xs && t x)
member_filter t [] x = refl
member_filter t (y ∷ ys) x = elim (decide (t y)) [
  | inl e ↦ rw e (elim (decide (same y x)) [
    | inl s ↦ let T : Class → Type 0 = λ m. t m ≡ true in let k : t x ≡ true = subst T (same_is y x s) e in grind (arith)
    | inr n ↦ grind (arith, member_filter t ys x)
  ])
  | inr e ↦ rw e (elim (decide (same y x)) [
    | inl s ↦ let T : Class → Type 0 = λ m. t m ≡ false in let k : t x ≡ false = subst T (same_is y x s) e in grind (arith, member_filter t ys x)
    | inr n ↦ grind (arith, member_filter t ys x)
  ])
]

-- what the test says
pub top_parts : (joined : ℕ → ℕ → Bool) (xs : List Class) (x : Class) → is_maximal joined xs x ≡ true → (y : Class) → is_among y xs ≡ true → same y x ≡ false → covers joined y x ≡ true → ⊥
top_parts joined xs x h y m n c = let e : list_any (λ z. not (same z x) && covers joined z x) xs ≡ true = passes (λ z. not (same z x) && covers joined z x) xs y m (and_true _ _ (not_false _ n) c) in let d : list_any (λ z. not (same z x) && covers joined z x) xs ≡ false = not_true _ h in cc

pub not_top : (joined : ℕ → ℕ → Bool) (xs : List Class) (x : Class) → is_maximal joined xs x ≡ false → (y : Class) × (is_among y xs ≡ true) × (same y x ≡ false) × (covers joined y x ≡ true)
not_top joined xs x h = let r = found (λ z. not (same z x) && covers joined z x) xs (elim (decide (list_any (λ z. not (same z x) && covers joined z x) xs)) [ inl t ↦ t | inr n ↦ absurd (let e = not_false _ n in cc) ]) in
    let b = both (not (same r.0 x)) (covers joined r.0 x) r.2 in (r.0, r.1, not_true _ b.0, b.1)

pub pair_of : (actions : ℕ) (xs : List Class) (x : Class) → AllByRecursion (IsKnown actions) xs → is_among x xs ≡ true → IsKnown actions x
pair_of actions [] x a h = absurd (cc)
pair_of actions (y ∷ ys) x a h = elim (or_cases (same y x) (is_among x ys) h) [
  | inl s ↦ subst (IsKnown actions) (same_is y x s) a.0
  | inr n ↦ pair_of actions ys x a.1 n
]

-- a class that another covers is covered by a maximal one, which is of a lesser rank
pub top_above : (actions : ℕ) (joined : ℕ → ℕ → Bool) (xs : List Class) (x y : Class) (fuel : ℕ) → AreOrders joined → AllByRecursion (IsKnown actions) xs → rank actions y < fuel → rank actions y < rank actions x → is_among y xs ≡ true → covers joined y x ≡ true
    → (g : Class) × (is_among g xs ≡ true) × (is_maximal joined xs g ≡ true) × (covers joined g x ≡ true) × (rank actions g < rank actions x)
top_above actions joined xs x y zero o p l w m c = absurd (omega arith)
top_above actions joined xs x y (suc fuel) o p l w m c = elim (decide (is_maximal joined xs y)) [
  | inl t ↦ (y, m, t, c, w)
  | inr n ↦
      let z = not_top joined xs y n in
      let narrow : rank actions z.0 < rank actions y = covered_is_later actions joined z.0 y o (pair_of actions xs z.0 p z.1) z.3 z.2 in
      top_above actions joined xs x z.0 fuel o p (omega arith) (omega arith) z.1 (covers_through joined z.0 y x o z.3 c)
]

-- the pass: among the maximal ones of those that were passed, one covers x exactly where
-- x is not maximal
pub pass_decides : (actions : ℕ) (joined : ℕ → ℕ → Bool) (xs done : List Class) (x : Class) → AreOrders joined → AllByRecursion (IsKnown actions) xs
    → ((y : Class) → is_among y xs ≡ true → rank actions y < rank actions x → is_among y done ≡ true)
    → ((y : Class) → is_among y done ≡ true → (is_among y xs ≡ true) × (same y x ≡ false))
    → list_any (λ g. covers joined g x) (filter (λ y. is_maximal joined xs y) done) ≡ not (is_maximal joined xs x)
pass_decides actions joined xs done x o p narrow apart = same_bool (list_any (λ g. covers joined g x) (filter (λ y. is_maximal joined xs y) done)) (not (is_maximal joined xs x))
    (λ h. let r = found (λ g. covers joined g x) (filter (λ y. is_maximal joined xs y) done) h in
    let b = both (is_among r.0 done) (is_maximal joined xs r.0) (sym (member_filter (λ y. is_maximal joined xs y) done r.0) ∙ r.1) in
    let a = apart r.0 b.0 in
    elim (decide (is_maximal joined xs x)) [
      | inl t ↦ absurd (top_parts joined xs x t r.0 a.0 a.1 r.2)
      | inr n ↦ not_false _ n
    ])
    (λ h. let z = not_top joined xs x (not_true _ h) in
    let less : rank actions z.0 < rank actions x = covered_is_later actions joined z.0 x o (pair_of actions xs z.0 p z.1) z.3 z.2 in
    let g = top_above actions joined xs x z.0 (suc (rank actions z.0)) o p (omega arith) less z.1 z.3 in
    passes (λ g. covers joined g x) (filter (λ y. is_maximal joined xs y) done) g.0 (member_filter (λ y. is_maximal joined xs y) done g.0 ∙ and_true _ _ (narrow g.0 g.1 g.4) g.2) g.3)

-- the first that covers x, class by class
pub name_cons : (joined : ℕ → ℕ → Bool) (g : Class) (gs : List Class) (x : Class) → name_of joined (g ∷ gs) x ≡ (if covers joined g x then 0 else 1 + name_of joined gs x)
name_cons joined g gs x = turned (covers joined g x) (1 + name_of joined gs x)
  where
    turned : (b : Bool) (n : ℕ) → cond (not b) n 0 ≡ (if b then 0 else n)
    turned true n = refl
    turned false n = refl

pub name_below : (joined : ℕ → ℕ → Bool) (gs : List Class) (x : Class) → list_any (λ g. covers joined g x) gs ≡ true → name_of joined gs x < length gs
name_below joined [] x h = absurd (cc)
name_below joined (g ∷ gs) x h = elim (decide (covers joined g x)) [
  | inl t ↦ rw (name_cons joined g gs x) (rw t (omega arith))
  | inr n ↦ rw (name_cons joined g gs x) (rw n (let l : name_of joined gs x < length gs = name_below joined gs x (sym (ap (λ (b : Bool). b || list_any (λ g. covers joined g x) gs) n) ∙ h) in omega arith))
]

-- each class is covered by a maximal one
pub each_covered : (actions : ℕ) (joined : ℕ → ℕ → Bool) (xs : List Class) (x : Class) → AreOrders joined → AllByRecursion (IsKnown actions) xs → joined x.first x.first ≡ true → joined x.second x.second ≡ true → is_among x xs ≡ true → list_any (λ g. covers joined g x) (maximal_of joined xs) ≡ true
each_covered actions joined xs x o p a b m = elim (decide (is_maximal joined xs x)) [
  | inl t ↦ passes (λ g. covers joined g x) (maximal_of joined xs) x (member_filter (λ y. is_maximal joined xs y) xs x ∙ and_true _ _ m t) (and_true _ _ a b)
  | inr n ↦
      let z = not_top joined xs x n in
      let less : rank actions z.0 < rank actions x = covered_is_later actions joined z.0 x o (pair_of actions xs z.0 p z.1) z.3 z.2 in
      let g = top_above actions joined xs x z.0 (suc (rank actions z.0)) o p (omega arith) less z.1 z.3 in
      passes (λ g. covers joined g x) (maximal_of joined xs) g.0 (member_filter (λ y. is_maximal joined xs y) xs g.0 ∙ and_true _ _ g.1 g.2) g.3
]

pub filter_append : (t : Class → Bool) (xs ys : List Class) → filter t (xs ++ ys) ≡ filter t xs ++ filter t ys
filter_append t [] ys = refl
filter_append t (x ∷ xs) ys = elim (decide (t x)) [
  | inl e ↦ rw e (ap (λ (zs : List Class). x ∷ zs) (filter_append t xs ys))
  | inr e ↦ rw e (filter_append t xs ys)
]

-- the maximal ones of a longer front are no fewer
pub fewer_before : (t : Class → Bool) (xs ys : List Class) → length (filter t xs) ≤ length (filter t (xs ++ ys))
fewer_before t xs ys = let e = filter_append t xs ys in omega (arith, ap length e, length-append (filter t xs) (filter t ys))
