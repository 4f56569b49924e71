-- The races by number, and the races of which they are the numbers.
use Rattle.std.proofs.Common.{◌≡◌, ℕ, suc, ◌+◌, ◌<◌, Bool, true, false, not, ◌&&◌, cond, List, [], ◌∷◌, map, length, Some, refl, sym, ap, ◌∙◌, arith, subst}
use Rattle.std.specs.Prelude.{nat_lt, slice_get}
use Rattle.std.specs.List.{All, AllByRecursion, filter, range_with_len}
use Rattle.std.proofs.lemmas.Bool.Decides.{nat_tests}
use Rattle.std.proofs.lemmas.List.{length-map}
use Rattle.std.proofs.lemmas.Simd.{map-map}
use Rattle.std.proofs.lemmas.List.Elements.{All-from_recursion}
use Rattle.er_access.specs.Kept.{Kept, is_candidate, pairs_of}
use Rattle.er_access.specs.Numbers.{by_number, accesses_of, access_at, locations_of, numbered, numbered_from}
use Rattle.er_access.proofs.LocationLemmas.{IsKnown, are_known, are_distinct}
use Rattle.er_access.proofs.LocatedLemmas.{candidates_alike, filter_map, filter_same, pairs_all, pairs_map}
use Rattle.er_races.specs.declared.race.Race.{Race}
use Rattle.er_races.specs.Races.{is_race, races_by, races_of, passing, ArePairs, IsWithin}
use Rattle.er_races.specs.Listing.{is_race_by_number}
use Rattle.er_races.specs.Pairs.{with_each, each, passes, all_pairs}
use Rattle.er_races.proofs.PairLemmas.{passing_is, passing_members, all_kept, all_mapped, all_append, range_below, all_more}

-- the numbers of the accesses are those of the kept ones

numbered_map : {X Y : Type 0} (f : X → Y) (n : ℕ) (xs : List X) → numbered_from n (map f xs) ≡ map (λ (p : ℕ × X). (p.0, f p.1)) (numbered_from n xs)
numbered_map f n [] = refl
numbered_map f n (x ∷ xs) = ap (λ l. (n, f x) ∷ l) (numbered_map f (n + 1) xs)

numbered_all : {X : Type 0} (P : X → Type 0) (n : ℕ) (xs : List X) → AllByRecursion P xs → AllByRecursion (λ (p : ℕ × X). P p.1) (numbered_from n xs)
numbered_all P n [] all = tt
numbered_all P n (x ∷ xs) all = (all.0, numbered_all P (n + 1) xs all.1)

abbrev number : {X : Type 0} → (ℕ × X) × (ℕ × X) → Race
number p = record { first = p.0.0; second = p.1.0 }

passing_map : {X Y : Type 0} (f : X → Y) (t : Y → Y → Bool) (u : X → X → Bool) (P : X → Type 0) (xs : List X) → ((x y : X) → P x → P y → t (f x) (f y) ≡ u x y) → AllByRecursion P xs → passing t (map f xs) ≡ passing u xs
passing_map {X = X} {Y = Y} f t u P xs alike all =
    ap (λ l. map number (filter T l)) (ap pairs_of (numbered_map f 0 xs) ∙ pairs_map g (numbered xs))
    ∙ (ap (map number) (filter_map T G (pairs_of (numbered xs)))
    ∙ (map-map number G (filter (λ p. T (G p)) (pairs_of (numbered xs)))
    ∙ ap (map number) (filter_same (λ p. T (G p)) U (pairs_of (numbered xs)) (pairs_all (λ (p : ℕ × X). P p.1) (λ p. T (G p) ≡ U p) (numbered xs) (λ p q in_p in_q. alike p.1 q.1 in_p in_q) (numbered_all P 0 xs all)))))
  where
    g : ℕ × X → ℕ × Y
    g p = (p.0, f p.1)

    G : (ℕ × X) × (ℕ × X) → (ℕ × Y) × (ℕ × Y)
    G p = (g p.0, g p.1)

    T : (ℕ × Y) × (ℕ × Y) → Bool
    T p = t p.0.1 p.1.1

    U : (ℕ × X) × (ℕ × X) → Bool
    U p = u p.0.1 p.1.1

pub races_by_number : (joined : ℕ → ℕ → Bool) (kept : List Kept) → passing (is_race_by_number joined) (accesses_of kept) ≡ races_of joined kept
races_by_number joined kept =
    let ls = locations_of kept in
    passing_map (by_number ls) (is_race_by_number joined) (is_race joined) (IsKnown ls) kept
    (λ a b in_a in_b. ap (λ t. t && not (joined a.action b.action)) (candidates_alike ls a b (are_distinct kept) in_a in_b)) (are_known kept)

-- the numbers are those of the races

pub filter_filter : {X : Type 0} (p q : X → Bool) (xs : List X) → filter q (filter p xs) ≡ filter (λ x. p x && q x) xs
filter_filter p q [] = refl
filter_filter p q (x ∷ xs) = by (p x) (filter_filter p q xs)
  where
    by : (b : Bool) → filter q (filter p xs) ≡ filter (λ y. p y && q y) xs → filter q (cond b (x ∷ filter p xs) (filter p xs)) ≡ cond (b && q x) (x ∷ filter (λ y. p y && q y) xs) (filter (λ y. p y && q y) xs)
    by true e = ap (λ l. cond (q x) (x ∷ l) l) e
    by false e = e

map_alike : {X Y : Type 0} (f g : X → Y) (xs : List X) → AllByRecursion (λ x. f x ≡ g x) xs → map f xs ≡ map g xs
map_alike f g [] all = refl
map_alike f g (x ∷ xs) all = ap (λ y. y ∷ map f xs) all.0 ∙ ap (λ l. g x ∷ l) (map_alike f g xs all.1)

numbered_at : {X : Type 0} (whole : List X) (n : ℕ) (xs : List X) → ((j : ℕ) → slice_get whole (n + j) ≡ slice_get xs j) → AllByRecursion (λ (p : ℕ × X). slice_get whole p.0 ≡ Some p.1) (numbered_from n xs)
numbered_at whole n [] at = tt
numbered_at whole n (x ∷ xs) at = (
  (let e : n ≡ n + 0 = omega arith in ap (slice_get whole) e ∙ at 0),
  numbered_at whole (n + 1) xs (λ j. (let e : n + 1 + j ≡ n + suc j = omega arith in ap (slice_get whole) e) ∙ at (suc j)),
)

pub numbers_are_pairs : (joined : ℕ → ℕ → Bool) (kept : List Kept) → ArePairs kept (races_of joined kept) (races_by joined kept)
numbers_are_pairs joined kept = (
  map-map (λ (r : Race). slice_get kept r.first) number found ∙ (map_alike (λ p. slice_get kept p.0.0) (λ p. Some p.0.1) found (all_kept (λ p. slice_get kept p.0.0 ≡ Some p.0.1) T (pairs_of (numbered kept)) firsts) ∙ (sym (map-map (λ (q : Kept × Kept). Some q.0) S found) ∙ ap (map (λ (q : Kept × Kept). Some q.0)) (sym are))),
  map-map (λ (r : Race). slice_get kept r.second) number found ∙ (map_alike (λ p. slice_get kept p.1.0) (λ p. Some p.1.1) found (all_kept (λ p. slice_get kept p.1.0 ≡ Some p.1.1) T (pairs_of (numbered kept)) seconds) ∙ (sym (map-map (λ (q : Kept × Kept). Some q.1) S found) ∙ ap (map (λ (q : Kept × Kept). Some q.1)) (sym are))),
)
  where
    T : (ℕ × Kept) × (ℕ × Kept) → Bool
    T p = is_race joined p.0.1 p.1.1

    S : (ℕ × Kept) × (ℕ × Kept) → Kept × Kept
    S p = (p.0.1, p.1.1)

    found : List ((ℕ × Kept) × (ℕ × Kept))
    found = filter T (pairs_of (numbered kept))

    all_at : AllByRecursion (λ (p : ℕ × Kept). slice_get kept p.0 ≡ Some p.1) (numbered kept)
    all_at = numbered_at kept 0 kept (λ j. let e : 0 + j ≡ j = omega arith in ap (slice_get kept) e)

    firsts : AllByRecursion (λ (p : (ℕ × Kept) × (ℕ × Kept)). slice_get kept p.0.0 ≡ Some p.0.1) (pairs_of (numbered kept))
    firsts = pairs_all (λ (p : ℕ × Kept). slice_get kept p.0 ≡ Some p.1) (λ (p : (ℕ × Kept) × (ℕ × Kept)). slice_get kept p.0.0 ≡ Some p.0.1) (numbered kept) (λ p q at_p at_q. at_p) all_at

    seconds : AllByRecursion (λ (p : (ℕ × Kept) × (ℕ × Kept)). slice_get kept p.1.0 ≡ Some p.1.1) (pairs_of (numbered kept))
    seconds = pairs_all (λ (p : ℕ × Kept). slice_get kept p.0 ≡ Some p.1) (λ (p : (ℕ × Kept) × (ℕ × Kept)). slice_get kept p.1.0 ≡ Some p.1.1) (numbered kept) (λ p q at_p at_q. at_q) all_at

    are : races_by joined kept ≡ map S found
    are = filter_filter (λ (p : Kept × Kept). is_candidate p.0 p.1) (λ (p : Kept × Kept). not (joined p.0.action p.1.action)) (pairs_of kept) ∙ passing_members (is_race joined) kept

pub as_many_races : (joined : ℕ → ℕ → Bool) (kept : List Kept) → length (races_by joined kept) ≡ length (races_of joined kept)
as_many_races joined kept =
    let counts = ap length (numbers_are_pairs joined kept).0 in
    omega (arith, counts, length-map (races_of joined kept) (λ (r : Race). slice_get kept r.first), length-map (races_by joined kept) (λ (p : Kept × Kept). Some p.0))

-- the numbers are of accesses, the first the lesser

all_passed : {X : Type 0} (P : X → Type 0) (q : X → Bool) (xs : List X) → AllByRecursion (λ x. q x ≡ true → P x) xs → AllByRecursion P (filter q xs)
all_passed P q [] all = tt
all_passed {X = X} P q (x ∷ xs) all = step (q x) x (filter q xs) all.0 (all_passed P q xs all.1)
  where
    step : (b : Bool) (y : X) (l : List X) → (b ≡ true → P y) → AllByRecursion P l → AllByRecursion P (cond b (y ∷ l) l)
    step true y l h rest = (h refl, rest)
    step false y l h rest = rest

all_seconds : (P : Race → Type 0) (f : ℕ → List ℕ) (is : List ℕ) → ((i : ℕ) → AllByRecursion (λ j. P (record { first = i; second = j })) (f i)) → AllByRecursion P (each f is)
all_seconds P f [] h = tt
all_seconds P f (i ∷ is) h = all_append P (with_each i (f i)) (each f is) (all_mapped P (λ j. record { first = i; second = j }) (f i) (h i)) (all_seconds P f is h)

abbrev IsOrdered : ℕ → Race → Type 0
IsOrdered n r = (r.first < r.second) × (r.second < n)

is_less : (i j : ℕ) (b : Bool) → (nat_lt i j && b) ≡ true → i < j
is_less i j b e = grind (arith, nat_tests)

pub numbers_within : (joined : ℕ → ℕ → Bool) (kept : List Kept) → All (IsWithin kept) (races_of joined kept)
numbers_within joined kept =
    let accesses = accesses_of kept in
    let n = length accesses in
    let nums = range_with_len 0 n in
    let t = passes (is_race_by_number joined) accesses in
    let P : List Race → Type 0 = λ l. All (IsWithin kept) l in
    let Q : ℕ → Type 0 = λ m. All (IsOrdered m) (all_pairs t n) in
    let count : n ≡ length kept = length-map kept (by_number (locations_of kept)) in
    subst P (races_by_number joined kept) (subst P (sym (passing_is (is_race_by_number joined) accesses))
    (subst Q count (All-from_recursion (IsOrdered n) (all_pairs t n)
    (all_seconds (IsOrdered n) (λ i. filter (t i) nums) nums
    (λ i. all_passed (λ j. IsOrdered n (record { first = i; second = j })) (t i) nums
    (all_more (λ j. j < n) (λ j. t i j ≡ true → IsOrdered n (record { first = i; second = j })) nums (λ j h e. (is_less i j (is_race_by_number joined (access_at accesses i) (access_at accesses j)) e, h)) (range_below 0 n n (omega arith))))))))
