-- The sort leaves the races in the order of their pairs.
use Rattle.std.proofs.Common.{Ordering, Less, Equal, Greater, ◌≡◌, ℕ, Bool, true, false, ◌&&◌, cond, List, length, get_or, refl, sym, ap, ◌∙◌, arith}
use Rattle.std.specs.Prelude.{nat_lt, ◌==◌, ◌||◌}
use Rattle.std.specs.Cmp.{IsTotalOrder}
use Rattle.std.specs.List.Sorted.{IsPermutation, IsSorted}
use Rattle.std.specs.Ordering.{nat_cmp, ordering_then, is_lt, on, then_cmp}
use Rattle.std.proofs.lemmas.Bool.Decides.{nat_tests}
use Rattle.std.proofs.lemmas.Cmp.{then_total, on_total, nat_cmp_total}
use Rattle.std.proofs.lemmas.List.Sorted.{ranks_by, sorted_far, sum_by-IsPermutation}
use Rattle.er_access.specs.Kept.{Kept}
use Rattle.er_access.specs.Numbers.{accesses_of}
use Rattle.er_races.specs.declared.race.Race.{Race}
use Rattle.er_races.specs.Races.{races_of}
use Rattle.er_races.specs.Pairs.{all_pairs}
use Rattle.er_races.specs.Listing.{is_race_by_number, race}
use Rattle.er_races.proofs.Order.{one_order, up_of_far}
use Rattle.er_races.proofs.PairLemmas.{race_below, all_pairs_up, passing_is}
use Rattle.er_races.proofs.RaceLemmas.{races_by_number}

abbrev pub race_cmp : Race → Race → Ordering
race_cmp = then_cmp (on (λ (r : Race). r.first) nat_cmp) (on (λ (r : Race). r.second) nat_cmp)

race_cmp_total : IsTotalOrder race_cmp
race_cmp_total = then_total (on_total (λ (r : Race). r.first) nat_cmp_total) (on_total (λ (r : Race). r.second) nat_cmp_total)

same_below : (x y : Race) → race_below x y ≡ is_lt (race_cmp x y)
same_below x y = by (nat_lt x.first y.first) (x.first == y.first) (nat_lt x.second y.second) (x.second == y.second)
  where
    by : (l e m f : Bool) → (l || (e && m)) ≡ is_lt (ordering_then (cond l Less (cond e Equal Greater)) (cond m Less (cond f Equal Greater)))
    by true e m f = refl
    by false true true f = refl
    by false true false true = refl
    by false true false false = refl
    by false false m f = refl

not_self : (x : Race) → race_below x x ≡ false
not_self x = by x.first x.second
  where
    by : (a b : ℕ) → (nat_lt a a || ((a == a) && nat_lt b b)) ≡ false
    by a b = grind (arith, nat_tests)

one_race : (x y : Race) → race_below x y ≡ false → race_below y x ≡ false → x ≡ y
one_race x y e f =
    let first : x.first ≡ y.first = firsts x.first x.second y.first y.second e f in
    let second : x.second ≡ y.second = seconds x.first x.second y.first y.second e f in
    let with_first : ℕ → Race = λ n. record { first = n; second = x.second } in
    let with_second : ℕ → Race = λ n. record { first = y.first; second = n } in
    ap with_first first ∙ ap with_second second
  where
    firsts : (a b c d : ℕ) → (nat_lt a c || ((a == c) && nat_lt b d)) ≡ false → (nat_lt c a || ((c == a) && nat_lt d b)) ≡ false → a ≡ c
    firsts a b c d e f = grind (arith, nat_tests)

    seconds : (a b c d : ℕ) → (nat_lt a c || ((a == c) && nat_lt b d)) ≡ false → (nat_lt c a || ((c == a) && nat_lt d b)) ≡ false → b ≡ d
    seconds a b c d e f = grind (arith, nat_tests)

pub sorted_is_due : (found sorted : List Race) (t : ℕ → ℕ → Bool) (n : ℕ) → IsPermutation found sorted → IsSorted race_cmp sorted → IsPermutation found (all_pairs t n) → sorted ≡ all_pairs t n
sorted_is_due found sorted t n moved in_order same =
    let far = sorted_far (λ x y. is_lt (race_cmp x y)) (ranks_by race_cmp_total (λ (r : Race). r)) sorted in_order in
    one_order race_below not_self one_race sorted (all_pairs t n)
    (up_of_far race_below sorted (λ i j d le h. same_below (get_or sorted j d) (get_or sorted i d) ∙ far i j d le h))
    (all_pairs_up t n)
    (λ f. sum_by-IsPermutation f found sorted moved ∙ sym (sum_by-IsPermutation f found (all_pairs t n) same))

pub listed_is_due : (joined : ℕ → ℕ → Bool) (kept : List Kept) (found sorted : List Race)
    → IsPermutation found (all_pairs (race joined (accesses_of kept)) (length (accesses_of kept))) → IsPermutation found sorted → IsSorted race_cmp sorted → sorted ≡ races_of joined kept
listed_is_due joined kept found sorted same moved in_order =
    let accesses = accesses_of kept in
    sorted_is_due found sorted (race joined accesses) (length accesses) moved in_order same
    ∙ (sym (passing_is (is_race_by_number joined) accesses) ∙ races_by_number joined kept)
