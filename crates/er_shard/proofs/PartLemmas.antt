-- Parts of shards: one, two halves, all.
use Rattle.std.proofs.Common.{◌≡◌, ℕ, ◌+◌, ◌<◌, ◌≤◌, Bool, true, false, ◌&&◌, List, ◌++◌, length, sym, ap, ◌∙◌, arith, subst}
use Rattle.std.specs.Prelude.{◌%◌, ◌||◌, ◌==◌, nat_le, nat_lt, Result, Ok, Err, IfOk, OnOk}
use Rattle.std.specs.declared.vec.Vec.{Vec}
use Rattle.std.proofs.Common.{Global}
use Rattle.std.specs.List.Sorted.{IsPermutation}
use Rattle.std.proofs.lemmas.Bool.Decides.{nat_tests}
use Rattle.std.proofs.lemmas.List.Sorted.{IsPermutation-append, IsPermutation-trans}
use Rattle.er_access.specs.Kept.{Kept, candidates_of}
use Rattle.er_access.specs.Numbers.{accesses_of}
use Rattle.er_races.specs.declared.fault.ListFault.{ListFault}
use Rattle.er_races.specs.declared.fault.ListFault.TheVariants.{TooManyRaces}
use Rattle.er_races.specs.declared.race.Race.{Race}
use Rattle.er_races.specs.Listing.{candidate, race, part, leaves}
use Rattle.er_races.specs.Races.{most_races, races_by}
use Rattle.er_races.specs.Pairs.{all_pairs}
use Rattle.er_races.proofs.ListLemmas.{part_whole, part_short, part_alike, parts_joined, parts_counted, candidate_count, race_count, as_long}
use Rattle.er_shard.specs.Parts.{is_between, races_between, candidates_between, IsPart, AreBoth}

-- one

is_one : (m s : ℕ) → (m == s) ≡ (nat_le s m && nat_lt m (s + 1))
is_one m s = grind (arith, nat_tests)

pub one_part : (shards s : ℕ) (k : ℕ) → leaves shards s k ≡ is_between shards s (s + 1) k
one_part shards s k = is_one (k % shards) s

pub one_listed : (shards s : ℕ) (joined : ℕ → ℕ → Bool) (kept : List Kept) (races : Result (Vec Race Global) ListFault) (start made : ℕ) → start ≡ 0
    → IfOk races (λ r. IsPermutation r.items (part (leaves shards s) (race joined (accesses_of kept)) (accesses_of kept)))
    → OnOk races (made ≡ start + length (part (leaves shards s) (candidate (accesses_of kept)) (accesses_of kept)))
    → IfOk races (λ r. length r.items ≤ most_races)
    → (races ≡ Err TooManyRaces → most_races < length (part (leaves shards s) (race joined (accesses_of kept)) (accesses_of kept)))
    → made ≤ start + length (part (leaves shards s) (candidate (accesses_of kept)) (accesses_of kept))
    → IsPart shards s (s + 1) joined kept races made
one_listed shards s joined kept (Ok r) start made none is_listed once few many at_most =
    let all = ap length (part_alike (leaves shards s) (is_between shards s (s + 1)) (accesses_of kept) (candidate (accesses_of kept)) (one_part shards s)) in
    let P : List Race → Type 0 = λ l. IsPermutation r.items l in
    record {
      listed = subst P (part_alike (leaves shards s) (is_between shards s (s + 1)) (accesses_of kept) (race joined (accesses_of kept)) (one_part shards s)) is_listed;
      once = omega (arith, all, none, once);
      few = few;
      many = λ e. (let never : Ok r ≡ Err TooManyRaces = e in cc);
      at_most = omega (arith, all, none, at_most);
    }
one_listed shards s joined kept (Err f) start made none is_listed once few many at_most =
    let all = ap length (part_alike (leaves shards s) (is_between shards s (s + 1)) (accesses_of kept) (candidate (accesses_of kept)) (one_part shards s)) in
    let raced = ap length (part_alike (leaves shards s) (is_between shards s (s + 1)) (accesses_of kept) (race joined (accesses_of kept)) (one_part shards s)) in
    record {
      listed = tt;
      once = tt;
      few = tt;
      many = λ e. (let over = many e in omega (arith, over, raced));
      at_most = omega (arith, all, none, at_most);
    }

-- two

either : (m from middle to : ℕ) → from ≤ middle → middle ≤ to → (nat_le from m && nat_lt m to) ≡ ((nat_le from m && nat_lt m middle) || (nat_le middle m && nat_lt m to))
either m from middle to le le2 = grind (arith, nat_tests)

not_both : (m from middle to : ℕ) → ((nat_le from m && nat_lt m middle) && (nat_le middle m && nat_lt m to)) ≡ false
not_both m from middle to = grind (arith, nat_tests)

pub counted : (shards from middle to : ℕ) (kept : List Kept) → from ≤ middle → middle ≤ to → length (candidates_between shards from middle kept) + length (candidates_between shards middle to kept) ≡ length (candidates_between shards from to kept)
counted shards from middle to kept le le2 =
    parts_counted (is_between shards from middle) (is_between shards middle to) (is_between shards from to) (accesses_of kept) (candidate (accesses_of kept)) (λ k. either (k % shards) from middle to le le2) (λ k. not_both (k % shards) from middle to)

raced : (shards from middle to : ℕ) (joined : ℕ → ℕ → Bool) (kept : List Kept) → from ≤ middle → middle ≤ to → length (races_between shards from middle joined kept) + length (races_between shards middle to joined kept) ≡ length (races_between shards from to joined kept)
raced shards from middle to joined kept le le2 =
    parts_counted (is_between shards from middle) (is_between shards middle to) (is_between shards from to) (accesses_of kept) (race joined (accesses_of kept)) (λ k. either (k % shards) from middle to le le2) (λ k. not_both (k % shards) from middle to)

listed : (shards from middle to : ℕ) (joined : ℕ → ℕ → Bool) (kept : List Kept) → from ≤ middle → middle ≤ to → (r m a : List Race)
    → IsPermutation r (races_between shards from middle joined kept) → IsPermutation m (races_between shards middle to joined kept) → a ≡ r ++ m → IsPermutation a (races_between shards from to joined kept)
listed shards from middle to joined kept le le2 r m a left right e =
    let P : List Race → Type 0 = λ l. IsPermutation l (races_between shards from to joined kept) in
    subst P (sym e) (IsPermutation-trans (r ++ m) (races_between shards from middle joined kept ++ races_between shards middle to joined kept) (races_between shards from to joined kept)
    (IsPermutation-append r (races_between shards from middle joined kept) m (races_between shards middle to joined kept) left right)
    (parts_joined (is_between shards from middle) (is_between shards middle to) (is_between shards from to) (accesses_of kept) (race joined (accesses_of kept)) (λ k. either (k % shards) from middle to le le2) (λ k. not_both (k % shards) from middle to)))

pub two_parts : (shards from middle to : ℕ) (joined : ℕ → ℕ → Bool) (kept : List Kept) → from ≤ middle → middle ≤ to → (races more all : Result (Vec Race Global) ListFault) (made others total : ℕ)
    → IsPart shards from middle joined kept races made → IsPart shards middle to joined kept more others → AreBoth races more all → total ≡ made + others → IsPart shards from to joined kept all total
two_parts shards from middle to joined kept le le2 (Ok r) (Ok m) (Ok a) made others total left right both sum = record {
  listed = listed shards from middle to joined kept le le2 r.items m.items a.items left.listed right.listed both.0.0;
  once = omega (arith, sum, left.once, right.once, counted shards from middle to kept le le2);
  few = both.0.1;
  many = λ e. (let never : Ok a ≡ Err TooManyRaces = e in cc);
  at_most = omega (arith, sum, left.at_most, right.at_most, counted shards from middle to kept le le2);
}
two_parts shards from middle to joined kept le le2 (Ok r) (Ok m) (Err f) made others total left right both sum = record {
  listed = tt;
  once = tt;
  few = tt;
  many = λ e. (let over = both.1 e in omega (arith, over, as_long r.items _ left.listed, as_long m.items _ right.listed, raced shards from middle to joined kept le le2));
  at_most = omega (arith, sum, left.at_most, right.at_most, counted shards from middle to kept le le2);
}
two_parts shards from middle to joined kept le le2 (Ok r) (Err f) (Ok a) made others total left right both sum = let never : Ok a ≡ Err f = both in cc
two_parts shards from middle to joined kept le le2 (Ok r) (Err f) (Err a) made others total left right both sum = record {
  listed = tt;
  once = tt;
  few = tt;
  many = λ e. (let over = right.many (sym both ∙ e) in omega (arith, over, raced shards from middle to joined kept le le2));
  at_most = omega (arith, sum, left.at_most, right.at_most, counted shards from middle to kept le le2);
}
two_parts shards from middle to joined kept le le2 (Err f) more (Ok a) made others total left right both sum = let never : Ok a ≡ Err f = both in cc
two_parts shards from middle to joined kept le le2 (Err f) more (Err a) made others total left right both sum = record {
  listed = tt;
  once = tt;
  few = tt;
  many = λ e. (let over = left.many (sym both ∙ e) in omega (arith, over, raced shards from middle to joined kept le le2));
  at_most = omega (arith, sum, left.at_most, right.at_most, counted shards from middle to kept le le2);
}

-- all

is_any : (m shards : ℕ) → m < shards → (nat_le 0 m && nat_lt m shards) ≡ true
is_any m shards h = grind (arith, nat_tests)

pub all_shards : (shards : ℕ) → 1 ≤ shards → (k : ℕ) → is_between shards 0 shards k ≡ true
all_shards shards some k = is_any (k % shards) shards (omega (arith, some))

pub all_races : (shards : ℕ) (joined : ℕ → ℕ → Bool) (kept : List Kept) → 1 ≤ shards → races_between shards 0 shards joined kept ≡ all_pairs (race joined (accesses_of kept)) (length (accesses_of kept))
all_races shards joined kept some = part_whole (is_between shards 0 shards) (accesses_of kept) (race joined (accesses_of kept)) (all_shards shards some)

pub all_counted : (shards : ℕ) (kept : List Kept) → 1 ≤ shards → length (candidates_between shards 0 shards kept) ≡ length (candidates_of kept)
all_counted shards kept some = ap length (part_whole (is_between shards 0 shards) (accesses_of kept) (candidate (accesses_of kept)) (all_shards shards some)) ∙ sym (candidate_count kept)

pub all_raced : (shards : ℕ) (joined : ℕ → ℕ → Bool) (kept : List Kept) → 1 ≤ shards → length (races_between shards 0 shards joined kept) ≡ length (races_by joined kept)
all_raced shards joined kept some = ap length (all_races shards joined kept some) ∙ sym (race_count joined kept)

-- no part has more candidates than all
pub few_between : (shards from to : ℕ) (kept : List Kept) → length (candidates_between shards from to kept) ≤ length (candidates_of kept)
few_between shards from to kept = omega (arith, part_short (is_between shards from to) (accesses_of kept) (candidate (accesses_of kept)), candidate_count kept)

pub part_is : (shards from to : ℕ) (joined : ℕ → ℕ → Bool) (kept : List Kept) (races races2 : Result (Vec Race Global) ListFault) (made : ℕ) → races ≡ races2 → IsPart shards from to joined kept races made → IsPart shards from to joined kept races2 made
part_is shards from to joined kept races races2 made e found =
    let P : Result (Vec Race Global) ListFault → Type 0 = λ r. IsPart shards from to joined kept r made in
    subst P e found
