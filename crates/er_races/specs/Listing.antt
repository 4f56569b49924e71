-- What a listing of races goes through, by the numbers of accesses and locations.
use Rattle.std.specs.Prelude.{ℕ, Bool, not, ◌&&◌, ◌==◌, ◌%◌, cond, List, [], filter, length}
use Rattle.er_access.specs.declared.access.Access.{Access}
use Rattle.er_access.specs.Kept.{Kept, is_write}
use Rattle.er_access.specs.Numbers.{access_at, accesses_of}
use Rattle.er_access.specs.ByNumber.{is_candidate_by_number}
use Rattle.er_races.specs.declared.race.Race.{Race}
use Rattle.er_races.specs.Pairs.{passes, all_pairs}

abbrev pub is_race_by_number : (ℕ → ℕ → Bool) → Access → Access → Bool
is_race_by_number joined a b = is_candidate_by_number a b && not (joined a.action b.action)

abbrev pub candidate : List Access → ℕ → ℕ → Bool
candidate accesses i j = passes is_candidate_by_number accesses i j

abbrev pub race : (ℕ → ℕ → Bool) → List Access → ℕ → ℕ → Bool
race joined accesses i j = passes (is_race_by_number joined) accesses i j

-- the pairs that pass, of the accesses of location k
abbrev pub at_location : (ℕ → ℕ → Bool) → List Access → ℕ → List Race
at_location test accesses k =
    filter (λ (r : Race). (access_at accesses r.first).location == k)
    (all_pairs test (length accesses))

-- the same, where the location is one of those asked for
abbrev pub own_at : (ℕ → Bool) → (ℕ → ℕ → Bool) → List Access → ℕ → List Race
own_at own test accesses k = cond (own k) (at_location test accesses k) []

-- the pairs that pass, of the accesses of all locations asked for
abbrev pub part : (ℕ → Bool) → (ℕ → ℕ → Bool) → List Access → List Race
part own test accesses =
    filter (λ (r : Race). own (access_at accesses r.first).location)
    (all_pairs test (length accesses))

-- the number of the location leaves this rest
abbrev pub leaves : ℕ → ℕ → ℕ → Bool
leaves shards shard k = (k % shards) == shard

abbrev pub writes_among : List Access → List ℕ → List ℕ
writes_among accesses rows = filter (λ n. is_write (access_at accesses n).mode) rows

-- The candidates and the races of kept accesses at location k, at the same where it is one of those
-- asked for, and at all locations asked for.

abbrev pub candidates_at : List Kept → ℕ → List Race
candidates_at kept k = at_location (candidate (accesses_of kept)) (accesses_of kept) k

abbrev pub races_at : (ℕ → ℕ → Bool) → List Kept → ℕ → List Race
races_at joined kept k = at_location (race joined (accesses_of kept)) (accesses_of kept) k

abbrev pub own_candidates : (ℕ → Bool) → List Kept → ℕ → List Race
own_candidates own kept k = own_at own (candidate (accesses_of kept)) (accesses_of kept) k

abbrev pub own_races : (ℕ → Bool) → (ℕ → ℕ → Bool) → List Kept → ℕ → List Race
own_races own joined kept k = own_at own (race joined (accesses_of kept)) (accesses_of kept) k

abbrev pub candidates_in : (ℕ → Bool) → List Kept → List Race
candidates_in own kept = part own (candidate (accesses_of kept)) (accesses_of kept)

abbrev pub races_in : (ℕ → Bool) → (ℕ → ℕ → Bool) → List Kept → List Race
races_in own joined kept = part own (race joined (accesses_of kept)) (accesses_of kept)

-- those of these earlier accesses that are candidates with a second one, and those that
-- race with it

abbrev pub candidates_with : List Kept → ℕ → List ℕ → List ℕ
candidates_with kept second earlier = filter (λ i. candidate (accesses_of kept) i second) earlier

abbrev pub races_with : (ℕ → ℕ → Bool) → List Kept → ℕ → List ℕ → List ℕ
races_with joined kept second earlier =
    filter (λ i. race joined (accesses_of kept) i second) earlier
