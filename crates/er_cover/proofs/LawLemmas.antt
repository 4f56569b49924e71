-- The laws on covers.
use Rattle.std.proofs.Common.{◌≡◌, ℕ, zero, suc, ◌+◌, ◌<◌, ◌≤◌, Bool, true, false, List, [], ◌∷◌, map, length, Some, option_map, refl, sym, ap, ◌∙◌, subst, arith, inl, inr}
use Rattle.std.specs.Prelude.{◌⊎◌, ◌==◌, ◌&&◌, not, pos, ◌-ℤ◌, ◌<ℤ◌}
use Rattle.std.specs.List.{AllByRecursion, filter, list_any, position_or_len, slice_get}
use Rattle.std.specs.List.Sorted.{IsStrictlyIncreasing}
use Rattle.std.proofs.lemmas.Int.{ints}
use Rattle.std.proofs.lemmas.Bool.Decides.{nat_tests}
use Rattle.std.proofs.lemmas.List.Elements.{recursion_from_All}
use Rattle.std.proofs.lemmas.Option.{slice_get-map}
use Rattle.er_paths.specs.Paths.{joins}
use Rattle.er_cover.specs.declared.class.Class.{Class}
use Rattle.er_cover.specs.Classes.{same, is_among, each_once}
use Rattle.er_cover.specs.Groups.{covers, is_maximal, groups_by, name_of, names_by, representative}
use Rattle.er_cover.specs.Passes.{IsKnown, representatives_by}
use Rattle.er_cover.specs.Laws.{ClassesAreOnce, CoveredIsWider, EachIsCovered, EachNamesACover, EachNamesAGroup, GroupsInOrder, MaximalIsUncovered}
use Rattle.er_cover.proofs.ClockLemmas.{orders, selves}
use Rattle.er_cover.proofs.CoverLemmas.{both, decide, each_covered, not_top, same_is, same_refl, same_sym, top_parts}
use Rattle.er_cover.proofs.GroupLemmas.{names_below, race_covered}
use Rattle.er_cover.proofs.NumberLemmas.{once_members}
use Rattle.er_cover.proofs.OrderLemmas.{classes_apart}
use Rattle.er_cover.proofs.PassLemmas.{all_at}

apart_somewhere : (a b c d : ℕ) → c ≤ a → b ≤ d → ((a == c) && (b == d)) ≡ false → (c < a) ⊎ (b < d)
apart_somewhere a b c d u v n = grind (arith, nat_tests)

wider : (a b c d : ℕ) → c ≤ a → b ≤ d → (c < a) ⊎ (b < d) → (pos b -ℤ pos a) <ℤ (pos d -ℤ pos c)
wider a b c d u v n = elim n [ inl l ↦ omega (arith, ints) | inr l ↦ omega (arith, ints) ]

pub covered_is_wider : CoveredIsWider
covered_is_wider lists x y h n =
    let a = both (joins lists y.first x.first) (joins lists x.second y.second) h in
    let u : y.first ≤ x.first = (orders lists).up y.first x.first a.0 in
    let v : x.second ≤ y.second = (orders lists).up x.second y.second a.1 in
    wider x.first x.second y.first y.second u v (apart_somewhere x.first x.second y.first y.second u v n)

pub each_is_covered : EachIsCovered
each_is_covered lists classes x known m =
    let all = recursion_from_All (IsKnown (length lists)) classes known in
    let k : IsKnown (length lists) x = all_at (IsKnown (length lists)) classes x all m in
    each_covered (length lists) (joins lists) classes x (orders lists) all (selves lists x.first k.0) (selves lists x.second k.1) m

pub maximal_is_uncovered : MaximalIsUncovered
maximal_is_uncovered joined classes x = (alone, uncovered)
  where
    alone : is_maximal joined classes x ≡ true → (y : Class) → is_among y classes ≡ true → covers joined y x ≡ true → y ≡ x
    alone h y m c = elim (decide (same y x)) [
      | inl t ↦ same_is y x t
      | inr n ↦ absurd (top_parts joined classes x h y m n c)
    ]

    uncovered : ((y : Class) → is_among y classes ≡ true → covers joined y x ≡ true → y ≡ x) → is_maximal joined classes x ≡ true
    uncovered h = elim (decide (is_maximal joined classes x)) [
      | inl t ↦ t
      | inr n ↦
          let z = not_top joined classes x n in
          let S : Class → Type 0 = λ y. same y x ≡ true in
          let t : same z.0 x ≡ true = subst S (sym (h z.0 z.1 z.3)) (same_refl x) in
          let f : same z.0 x ≡ false = z.2 in
          absurd (cc)
    ]

pub classes_are_once : ClassesAreOnce
classes_are_once by_race = (classes_apart by_race, λ x. once_members by_race x)

pub each_names_a_group : EachNamesAGroup
each_names_a_group lists by_race known = names_below (length lists) (joins lists) by_race (names_by (joins lists) by_race) (length (groups_by (joins lists) by_race)) (orders lists) (selves lists) known refl refl

-- where one of a list passes, the first that does stands at the place of it
abbrev PassesFirst : (Class → Bool) → List Class → Type 0
PassesFirst p xs = (x : Class) × (slice_get xs (position_or_len p xs) ≡ Some x) × (p x ≡ true)

first_at : (p : Class → Bool) (xs : List Class) → list_any p xs ≡ true → PassesFirst p xs
first_at p [] any = absurd (cc)
first_at p (x ∷ xs) any = by (p x) refl (λ later. first_at p xs later)
  where
    by : (b : Bool) → p x ≡ b → (list_any p xs ≡ true → PassesFirst p xs) → PassesFirst p (x ∷ xs)
    by true is again = (x, rw is refl, is)
    by false is again =
        let later = again (rw is at any) in
        let next : suc (position_or_len p xs) ≡ 1 + position_or_len p xs = omega arith in
        (later.0, rw is (subst (λ n. slice_get (x ∷ xs) n ≡ Some later.0) next later.1), later.2)

-- what stands at a place is one of the list
among_at : (xs : List Class) (k : ℕ) (x : Class) → slice_get xs k ≡ Some x → is_among x xs ≡ true
among_at [] k x at = absurd (cc)
among_at (y ∷ ys) zero x at = let same : y ≡ x = cc in rw (same, same_refl x) refl
among_at (y ∷ ys) (suc k) x at = rw (among_at ys k x at) (grind arith)

pub each_names_a_cover : EachNamesACover
each_names_a_cover lists by_race k x known at =
    let joined = joins lists in
    let groups = groups_by joined by_race in
    let covered = race_covered (length lists) joined by_race x (orders lists) (selves lists) known (among_at by_race k x at) in
    let found = first_at (λ g. covers joined g x) groups covered in
    record {
      number = name_of joined groups x;
      group = found.0;
      names = slice_get-map (name_of joined groups) by_race k ∙ ap (option_map (name_of joined groups)) at;
      is = found.1;
      is_cover = found.2;
    }

-- the first races of the classes rise

abbrev Rises : List ℕ → Type 0
Rises [] = Unit {0}
Rises (x ∷ xs) = AllByRecursion (λ y. x < y) xs × Rises xs

mapped : {X : Type 0} (P : ℕ → Type 0) (f : X → ℕ) (t : X → Bool) (xs : List X) → AllByRecursion P (map f xs) → AllByRecursion P (map f (filter t xs))
mapped P f t [] a = tt
mapped P f t (x ∷ xs) a = elim (decide (t x)) [
  | inl e ↦ rw e (a.0, mapped P f t xs a.1)
  | inr e ↦ rw e (mapped P f t xs a.1)
]

rises_filter : (f : Class → ℕ) (t : Class → Bool) (xs : List Class) → Rises (map f xs) → Rises (map f (filter t xs))
rises_filter f t [] a = tt
rises_filter f t (x ∷ xs) a = elim (decide (t x)) [
  | inl e ↦ rw e (mapped (λ y. f x < y) f t xs a.0, rises_filter f t xs a.1)
  | inr e ↦ rw e (rises_filter f t xs a.1)
]

-- behind one race of another class all places are one more
moved : (x : Class) (later xs : List Class) → map (representative (x ∷ later)) (filter (λ y. not (same y x)) xs) ≡ map (λ y. 1 + representative later y) (filter (λ y. not (same y x)) xs)
moved x later [] = refl
moved x later (y ∷ ys) = elim (decide (same y x)) [
  | inl t ↦ rw t (moved x later ys)
  | inr n ↦ rw n (ap (λ (p : ℕ). p ∷ map (representative (x ∷ later)) (filter (λ z. not (same z x)) ys)) (one_more (same_sym x y ∙ n)) ∙ ap (λ (ps : List ℕ). (1 + representative later y) ∷ ps) (moved x later ys))
]
  where
    one_more : same x y ≡ false → representative (x ∷ later) y ≡ 1 + representative later y
    one_more e = rw e refl

raised : (f : Class → ℕ) (xs : List Class) → Rises (map f xs) → Rises (map (λ y. 1 + f y) xs) × AllByRecursion (λ n. 0 < n) (map (λ y. 1 + f y) xs)
raised f [] a = (tt, tt)
raised f (x ∷ xs) a = let r = raised f xs a.1 in ((above (f x) xs a.0, r.0), (omega arith, r.1))
  where
    above : (n : ℕ) (ys : List Class) → AllByRecursion (λ y. n < y) (map f ys) → AllByRecursion (λ y. 1 + n < y) (map (λ y. 1 + f y) ys)
    above n [] a = tt
    above n (y ∷ ys) a = (let h : n < f y = a.0 in omega arith, above n ys a.1)

firsts_rise : (by_race : List Class) → Rises (map (representative by_race) (each_once by_race))
firsts_rise [] = tt
firsts_rise (x ∷ later) =
    let r = raised (representative later) (filter (λ y. not (same y x)) (each_once later)) (rises_filter (representative later) (λ y. not (same y x)) (each_once later) (firsts_rise later)) in
    let Q : List ℕ → Type 0 = λ ns. Rises ns × AllByRecursion (λ n. 0 < n) ns in
    let s = subst Q (sym (moved x later (each_once later))) r in
    rw (same_refl x) (s.1, s.0)

increasing : (xs : List ℕ) → Rises xs → IsStrictlyIncreasing xs
increasing [] a k h = absurd (omega arith)
increasing (x ∷ []) a k h = absurd (omega arith)
increasing (x ∷ y ∷ ys) a zero h = a.0.0
increasing (x ∷ y ∷ ys) a (suc k) h = let e : suc k + 1 ≡ suc (k + 1) = omega arith in rw e (increasing (y ∷ ys) a.1 k (omega arith))

pub groups_in_order : GroupsInOrder
groups_in_order joined by_race = increasing (representatives_by joined by_race) (rises_filter (representative by_race) (λ x. is_maximal joined (each_once by_race) x) (each_once by_race) (firsts_rise by_race))
