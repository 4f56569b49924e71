-- Steps of the listing.
use Rattle.std.proofs.Common.{◌≡◌, ℕ, zero, suc, ◌+◌, ◌<◌, ◌≤◌, Bool, true, false, not, ◌&&◌, cond, List, [], ◌∷◌, ◌++◌, map, length, get_or, drop, refl, sym, ap, ◌∙◌, arith, subst, append_assoc}
use Rattle.std.specs.Prelude.{nat_lt, ◌==◌, ◌||◌, ◌%◌}
use Rattle.std.specs.List.{All, AllByRecursion, filter, range_with_len}
use Rattle.std.specs.List.Sorted.{IsPermutation}
use Rattle.std.proofs.lemmas.Bool.Decides.{nat_tests}
use Rattle.std.proofs.lemmas.List.{drop_more, drop_all, append-nil, length-append, length-map}
use Rattle.std.proofs.lemmas.Simd.{map-map}
use Rattle.std.proofs.lemmas.List.Elements.{All-from_recursion, All-map, recursion_from_All}
use Rattle.std.proofs.lemmas.List.Sorted.{IsPermutation-refl, IsPermutation-append_left, IsPermutation-trans, length_permutation}
use Rattle.er_trace.specs.declared.record.Mode.TheVariants.{R}
use Rattle.er_access.specs.declared.access.Access.{Access}
use Rattle.er_access.specs.Kept.{Kept, is_write, candidates_of}
use Rattle.er_access.specs.Numbers.{rows_of, access_at, accesses_of, by_number, locations_of}
use Rattle.er_access.specs.ByNumber.{is_candidate_by_number}
use Rattle.er_access.proofs.LocatedLemmas as located
use Rattle.er_access.proofs.LocatedLemmas.{filter_map, filter_same}
use Rattle.er_races.specs.declared.race.Race.{Race}
use Rattle.er_races.specs.Races.{races_by}
use Rattle.er_races.specs.Pairs.{with_each, each, all_pairs}
use Rattle.er_races.specs.Listing.{is_race_by_number, candidate, race, at_location, own_at, part, leaves}
use Rattle.er_races.proofs.RaceLemmas.{as_many_races, races_by_number}
use Rattle.er_races.proofs.PairLemmas.{filter_within, filter_all, filter_none, all_of, all_more, all_filtered, all_kept, all_each, range_below, each_kept, range_rises, rising_kept, IsRising, numbered_is, passing_is, passing_count, one_more, two_parts}

-- the accesses of one location

pub rows_is : (accesses : List Access) (k : ℕ) → rows_of accesses k ≡ filter (λ i. (access_at accesses i).location == k) (range_with_len 0 (length accesses))
rows_is accesses k =
    ap (λ l. map (λ (p : ℕ × Access). p.0) (filter (λ (p : ℕ × Access). p.1.location == k) l)) (numbered_is accesses)
    ∙ (ap (map (λ (p : ℕ × Access). p.0)) (filter_map (λ (p : ℕ × Access). p.1.location == k) (λ i. (i, access_at accesses i)) (range_with_len 0 (length accesses)))
    ∙ (map-map (λ (p : ℕ × Access). p.0) (λ i. (i, access_at accesses i)) rows ∙ map_same rows))
  where
    rows : List ℕ
    rows = filter (λ i. (access_at accesses i).location == k) (range_with_len 0 (length accesses))

    map_same : (xs : List ℕ) → map (λ i. i) xs ≡ xs
    map_same [] = refl
    map_same (x ∷ xs) = ap (λ l. x ∷ l) (map_same xs)

pub rows_within : (accesses : List Access) (k : ℕ) → AllByRecursion (λ n. n < length accesses) (rows_of accesses k)
rows_within accesses k =
    let P : List ℕ → Type 0 = λ l. AllByRecursion (λ n. n < length accesses) l in
    subst P (sym (rows_is accesses k)) (all_kept (λ n. n < length accesses) (λ i. (access_at accesses i).location == k) (range_with_len 0 (length accesses)) (range_below 0 (length accesses) (length accesses) (omega arith)))

pub kept_count : (kept : List Kept) → length (accesses_of kept) ≡ length kept
kept_count kept = length-map kept (by_number (locations_of kept))

pub rows_known : (kept : List Kept) (k : ℕ) (rows : List ℕ) → rows ≡ rows_of (accesses_of kept) k → All (λ n. n < length kept) rows
rows_known kept k rows e =
    let P : List ℕ → Type 0 = λ l. All (λ n. n < length kept) l in
    let Q : ℕ → Type 0 = λ m. All (λ n. n < m) (rows_of (accesses_of kept) k) in
    subst P (sym e) (subst Q (length-map kept (by_number (locations_of kept))) (All-from_recursion (λ n. n < length (accesses_of kept)) (rows_of (accesses_of kept) k) (rows_within (accesses_of kept) k)))

-- the rows rise

pub rows_rise : (accesses : List Access) (k : ℕ) (rows : List ℕ) → rows ≡ rows_of accesses k → IsRising rows
rows_rise accesses k rows e =
    let P : List ℕ → Type 0 = λ l. IsRising l in
    subst P (sym (e ∙ rows_is accesses k)) (rising_kept (λ i. (access_at accesses i).location == k) (range_with_len 0 (length accesses)) (range_rises 0 (length accesses)))

-- all actions are known
pub actions_known : (most : ℕ) (kept : List Kept) → All (λ (x : Kept). x.action < most) kept → All (λ (x : Access). x.action < most) (accesses_of kept)
actions_known most kept all = All-map (λ (x : Access). x.action < most) (by_number (locations_of kept)) kept all

-- the tests ask for a later access, for one location and a write
abbrev pub IsNarrow : List Access → (ℕ → ℕ → Bool) → Type 0
IsNarrow accesses t = (i j : ℕ) → t i j ≡ true → (nat_lt i j ≡ true) × (is_candidate_by_number (access_at accesses i) (access_at accesses j) ≡ true)

and_left : (a b : Bool) → (a && b) ≡ true → a ≡ true
and_left true b e = refl
and_left false b e = e

and_right : (a b : Bool) → (a && b) ≡ true → b ≡ true
and_right true b e = e
and_right false b e = let no : false ≡ true = e in cc

pub candidate_narrow : (accesses : List Access) → IsNarrow accesses (candidate accesses)
candidate_narrow accesses i j e = (
  and_left (nat_lt i j) (is_candidate_by_number (access_at accesses i) (access_at accesses j)) e,
  and_right (nat_lt i j) (is_candidate_by_number (access_at accesses i) (access_at accesses j)) e,
)

pub race_narrow : (joined : ℕ → ℕ → Bool) (accesses : List Access) → IsNarrow accesses (race joined accesses)
race_narrow joined accesses i j e = (
  and_left (nat_lt i j) (is_race_by_number joined (access_at accesses i) (access_at accesses j)) e,
  and_left (is_candidate_by_number (access_at accesses i) (access_at accesses j)) (not (joined (access_at accesses i).action (access_at accesses j).action))
      (and_right (nat_lt i j) (is_race_by_number joined (access_at accesses i) (access_at accesses j)) e),
)

pub one_location : (a b : Access) (k : ℕ) → is_candidate_by_number a b ≡ true → (a.location == k) ≡ true → (b.location == k) ≡ true
one_location a b k e h = swap a.location b.location k (and_left (a.location == b.location) (not (a.action == b.action) && (is_write a.mode || is_write b.mode)) e) h
  where
    swap : (x y z : ℕ) → (x == y) ≡ true → (x == z) ≡ true → (y == z) ≡ true
    swap x y z e h = grind (arith, nat_tests)

pub all_rows_at : (accesses : List Access) (k : ℕ) (rows : List ℕ) → rows ≡ rows_of accesses k → AllByRecursion (λ n. ((access_at accesses n).location == k) ≡ true) rows
all_rows_at accesses k rows e =
    let P : List ℕ → Type 0 = λ l. AllByRecursion (λ n. ((access_at accesses n).location == k) ≡ true) l in
    subst P (sym (e ∙ rows_is accesses k)) (all_filtered (λ n. ((access_at accesses n).location == k) ≡ true) (λ n. (access_at accesses n).location == k) (range_with_len 0 (length accesses)) (λ n h. h))

pub rows_at : (accesses : List Access) (k : ℕ) (rows : List ℕ) (i : ℕ) → rows ≡ rows_of accesses k → i < length rows → ((access_at accesses (get_or rows i 0)).location == k) ≡ true
rows_at accesses k rows i e h = All-from_recursion (λ n. ((access_at accesses n).location == k) ≡ true) rows (all_rows_at accesses k rows e) i 0 h

-- the pairs at one location are those of its rows
pub location_is : (accesses : List Access) (t : ℕ → ℕ → Bool) (k : ℕ) (rows : List ℕ) → rows ≡ rows_of accesses k → each (λ i. filter (t i) (range_with_len 0 (length accesses))) rows ≡ at_location t accesses k
location_is accesses t k rows e =
    ap (each (λ i. filter (t i) (range_with_len 0 (length accesses)))) (e ∙ rows_is accesses k)
    ∙ each_kept (λ i. filter (t i) (range_with_len 0 (length accesses))) (λ i. (access_at accesses i).location == k) (range_with_len 0 (length accesses))

-- all locations that are asked for

abbrev pub before : (ℕ → Bool) → List Access → (ℕ → ℕ → Bool) → ℕ → List Race
before own accesses t k = filter (λ (r : Race). nat_lt (access_at accesses r.first).location k && own (access_at accesses r.first).location) (all_pairs t (length accesses))

pub before_none : (own : ℕ → Bool) (accesses : List Access) (t : ℕ → ℕ → Bool) → before own accesses t 0 ≡ []
before_none own accesses t = filter_none (λ (r : Race). nat_lt (access_at accesses r.first).location 0 && own (access_at accesses r.first).location) (all_pairs t (length accesses)) (all_of (λ (r : Race). (nat_lt (access_at accesses r.first).location 0 && own (access_at accesses r.first).location) ≡ false) (all_pairs t (length accesses)) (λ r. not_less (access_at accesses r.first).location))
  where
    not_less : (n : ℕ) → (nat_lt n 0 && own n) ≡ false
    not_less n = let less : nat_lt n 0 ≡ false = grind (arith, nat_tests) in ap (λ b. b && own n) less

pub before_more : (own : ℕ → Bool) (accesses : List Access) (t : ℕ → ℕ → Bool) (k : ℕ) → IsPermutation (before own accesses t k ++ own_at own t accesses k) (before own accesses t (k + 1))
before_more own accesses t k = one_more (λ (r : Race). (access_at accesses r.first).location) own k (all_pairs t (length accesses))

pub before_count : (own : ℕ → Bool) (accesses : List Access) (t : ℕ → ℕ → Bool) (k : ℕ) → length (before own accesses t (k + 1)) ≡ length (before own accesses t k) + length (own_at own t accesses k)
before_count own accesses t k = length_permutation (before own accesses t k ++ own_at own t accesses k) (before own accesses t (k + 1)) (before_more own accesses t k) ∙ length-append (before own accesses t k) (own_at own t accesses k)

pub filter_short : {X : Type 0} (p : X → Bool) (xs : List X) → length (filter p xs) ≤ length xs
filter_short p [] = omega arith
filter_short p (x ∷ xs) = let h : length (filter p (x ∷ xs)) ≤ length xs + 1 = shorter (p x) (filter p xs) x (filter_short p xs) in omega arith
  where
    shorter : {X : Type 0} {n : ℕ} (t : Bool) (l : List X) (x : X) → length l ≤ n → length (cond t (x ∷ l) l) ≤ n + 1
    shorter true l x h = omega arith
    shorter false l x h = omega arith

filter_shorter : {X : Type 0} (p q : X → Bool) (xs : List X) → length (filter (λ x. p x && q x) xs) ≤ length (filter q xs)
filter_shorter p q [] = omega arith
filter_shorter {X = X} p q (x ∷ xs) = step (p x) (q x) x (filter (λ y. p y && q y) xs) (filter q xs) (filter_shorter p q xs)
  where
    step : (b c : Bool) (y : X) (l m : List X) → length l ≤ length m → length (cond (b && c) (y ∷ l) l) ≤ length (cond c (y ∷ m) m)
    step true true y l m h = omega (arith, h)
    step true false y l m h = h
    step false true y l m h = omega (arith, h)
    step false false y l m h = h

pub before_short : (own : ℕ → Bool) (accesses : List Access) (t : ℕ → ℕ → Bool) (k : ℕ) → length (before own accesses t k) ≤ length (part own t accesses)
before_short own accesses t k = filter_shorter (λ (r : Race). nat_lt (access_at accesses r.first).location k) (λ (r : Race). own (access_at accesses r.first).location) (all_pairs t (length accesses))

pub part_short : (own : ℕ → Bool) (accesses : List Access) (t : ℕ → ℕ → Bool) → length (part own t accesses) ≤ length (all_pairs t (length accesses))
part_short own accesses t = filter_short (λ (r : Race). own (access_at accesses r.first).location) (all_pairs t (length accesses))

-- every access is of a lesser location
pub before_all : (own : ℕ → Bool) (accesses : List Access) (t : ℕ → ℕ → Bool) (k n : ℕ) → All (λ (x : Access). x.location < n) accesses → n ≤ k → before own accesses t k ≡ part own t accesses
before_all own accesses t k n known le =
    filter_same (λ (r : Race). nat_lt (access_at accesses r.first).location k && own (access_at accesses r.first).location) (λ (r : Race). own (access_at accesses r.first).location) (all_pairs t (length accesses))
    (all_each (λ i. (nat_lt (access_at accesses i).location k && own (access_at accesses i).location) ≡ own (access_at accesses i).location) (λ i. filter (t i) (range_with_len 0 (length accesses))) (range_with_len 0 (length accesses))
    (all_more (λ i. i < length accesses) (λ i. (nat_lt (access_at accesses i).location k && own (access_at accesses i).location) ≡ own (access_at accesses i).location) (range_with_len 0 (length accesses))
    (λ i h. ap (λ b. b && own (access_at accesses i).location) (is_less (access_at accesses i).location (omega (arith, known i (record { line = 0; action = 0; mode = R; location = 0 }) h, le)))) (range_below 0 (length accesses) (length accesses) (omega arith))))
  where
    is_less : (n : ℕ) → n < k → nat_lt n k ≡ true
    is_less n h = grind (arith, nat_tests)

-- where all are asked for, they are all
pub part_whole : (own : ℕ → Bool) (accesses : List Access) (t : ℕ → ℕ → Bool) → ((k : ℕ) → own k ≡ true) → part own t accesses ≡ all_pairs t (length accesses)
part_whole own accesses t all = filter_all (λ (r : Race). own (access_at accesses r.first).location) (all_pairs t (length accesses)) (all_of (λ (r : Race). own (access_at accesses r.first).location ≡ true) (all_pairs t (length accesses)) (λ r. all (access_at accesses r.first).location))

-- the same locations, the same part
pub part_alike : (a b : ℕ → Bool) (accesses : List Access) (t : ℕ → ℕ → Bool) → ((k : ℕ) → a k ≡ b k) → part a t accesses ≡ part b t accesses
part_alike a b accesses t alike = filter_same (λ (r : Race). a (access_at accesses r.first).location) (λ (r : Race). b (access_at accesses r.first).location) (all_pairs t (length accesses)) (all_of (λ (r : Race). a (access_at accesses r.first).location ≡ b (access_at accesses r.first).location) (all_pairs t (length accesses)) (λ r. alike (access_at accesses r.first).location))

pub one_shard : (k : ℕ) → leaves 1 0 k ≡ true
one_shard k = let none : k % 1 ≡ 0 = omega arith in ap (λ m. m == 0) none

pub as_long : (found due : List Race) → IsPermutation found due → length found ≡ length due
as_long found due same = sym (length_permutation found due same)

-- two parts that share no location make one
pub parts_joined : (a b c : ℕ → Bool) (accesses : List Access) (t : ℕ → ℕ → Bool) → ((k : ℕ) → c k ≡ (a k || b k)) → ((k : ℕ) → (a k && b k) ≡ false) → IsPermutation (part a t accesses ++ part b t accesses) (part c t accesses)
parts_joined a b c accesses t either not_both = two_parts (λ (r : Race). a (access_at accesses r.first).location) (λ (r : Race). b (access_at accesses r.first).location) (λ (r : Race). c (access_at accesses r.first).location) (all_pairs t (length accesses)) (λ r. either (access_at accesses r.first).location) (λ r. not_both (access_at accesses r.first).location)

pub parts_counted : (a b c : ℕ → Bool) (accesses : List Access) (t : ℕ → ℕ → Bool) → ((k : ℕ) → c k ≡ (a k || b k)) → ((k : ℕ) → (a k && b k) ≡ false) → length (part a t accesses) + length (part b t accesses) ≡ length (part c t accesses)
parts_counted a b c accesses t either not_both = sym (length_permutation (part a t accesses ++ part b t accesses) (part c t accesses) (parts_joined a b c accesses t either not_both) ∙ length-append (part a t accesses) (part b t accesses))

pub start_listed : (own : ℕ → Bool) (accesses : List Access) (t : ℕ → ℕ → Bool) (found : List Race) → found ≡ [] → IsPermutation found (before own accesses t 0)
start_listed own accesses t found e =
    let P : List Race → Type 0 = λ l. IsPermutation l (before own accesses t 0) in
    let Q : List Race → Type 0 = λ l. IsPermutation [] l in
    subst P (sym e) (subst Q (sym (before_none own accesses t)) (IsPermutation-refl []))

pub start_counted : (own : ℕ → Bool) (accesses : List Access) (t : ℕ → ℕ → Bool) (meter : ℕ) → meter ≡ meter + length (before own accesses t 0)
start_counted own accesses t meter = let none = ap length (before_none own accesses t) in omega (arith, none)

pub more_listed : (own : ℕ → Bool) (accesses : List Access) (t : ℕ → ℕ → Bool) (k : ℕ) (found new : List Race) → IsPermutation found (before own accesses t k) → IsPermutation new (found ++ own_at own t accesses k) → IsPermutation new (before own accesses t (k + 1))
more_listed own accesses t k found new same more =
    let here = own_at own t accesses k in
    IsPermutation-trans new (found ++ here) (before own accesses t (k + 1)) more (IsPermutation-trans (found ++ here) (before own accesses t k ++ here) (before own accesses t (k + 1)) (IsPermutation-append_left here found (before own accesses t k) same) (before_more own accesses t k))

pub more_counted : (own : ℕ → Bool) (accesses : List Access) (t : ℕ → ℕ → Bool) (k start meter new : ℕ) → meter ≡ start + length (before own accesses t k) → new ≡ meter + length (own_at own t accesses k) → new ≡ start + length (before own accesses t (k + 1))
more_counted own accesses t k start meter new e f = omega (arith, e, f, before_count own accesses t k)

-- what one location adds is no more than all
pub one_fits : (own : ℕ → Bool) (accesses : List Access) (t : ℕ → ℕ → Bool) (k : ℕ) → length (before own accesses t k) + length (own_at own t accesses k) ≤ length (part own t accesses)
one_fits own accesses t k = omega (arith, before_count own accesses t k, before_short own accesses t (k + 1))

pub as_many : (own : ℕ → Bool) (accesses : List Access) (t : ℕ → ℕ → Bool) (k : ℕ) (found : List Race) → IsPermutation found (before own accesses t k) → length found ≡ length (before own accesses t k)
as_many own accesses t k found same = sym (length_permutation found (before own accesses t k) same)

pub candidate_count : (kept : List Kept) → length (candidates_of kept) ≡ length (all_pairs (candidate (accesses_of kept)) (length (accesses_of kept)))
candidate_count kept = sym (located.candidate_count kept) ∙ passing_count is_candidate_by_number (accesses_of kept)

pub race_count : (joined : ℕ → ℕ → Bool) (kept : List Kept) → length (races_by joined kept) ≡ length (all_pairs (race joined (accesses_of kept)) (length (accesses_of kept)))
race_count joined kept = as_many_races joined kept ∙ ap length (sym (races_by_number joined kept) ∙ passing_is (is_race_by_number joined) (accesses_of kept))
