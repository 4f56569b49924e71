-- What some of the shards list.
use Rattle.std.specs.Prelude.{◌≡◌, ◌+◌, ◌≤◌, ◌<◌, ℕ, Bool, ◌&&◌, ◌%◌, nat_le, nat_lt, List, ◌++◌, length, Result, Ok, Err, IfOk, OnOk}
use Rattle.std.specs.List.Sorted.{IsPermutation}
use Rattle.std.specs.declared.vec.Vec.{Vec}
use Rattle.std.proofs.Common.{Global}
use Rattle.er_access.specs.Kept.{Kept}
use Rattle.er_access.specs.Numbers.{accesses_of}
use Rattle.er_races.specs.declared.fault.ListFault.{ListFault}
use Rattle.er_races.specs.declared.fault.ListFault.TheVariants.{TooManyRaces}
use Rattle.er_races.specs.declared.race.Race.{Race}
use Rattle.er_races.specs.Listing.{candidate, race, part}
use Rattle.er_races.specs.Races.{most_races}

-- location k is that of the shard `k % shards`, which is not below `from`, and below `to`
abbrev pub is_between : ℕ → ℕ → ℕ → ℕ → Bool
is_between shards from to k = nat_le from (k % shards) && nat_lt (k % shards) to

abbrev pub races_between : ℕ → ℕ → ℕ → (ℕ → ℕ → Bool) → List Kept → List Race
races_between shards from to joined kept =
    part (is_between shards from to) (race joined (accesses_of kept)) (accesses_of kept)

abbrev pub candidates_between : ℕ → ℕ → ℕ → List Kept → List Race
candidates_between shards from to kept =
    part (is_between shards from to) (candidate (accesses_of kept)) (accesses_of kept)

-- the races at the locations of these shards, in some order, by one comparison a candidate there
pub record IsPart (shards from to : ℕ) (joined : ℕ → ℕ → Bool) (kept : List Kept)
    (races : Result (Vec Race Global) ListFault) (made : ℕ) : Type 0 where
  pub listed : IfOk races (λ r. IsPermutation r.items (races_between shards from to joined kept))
  pub once : OnOk races (made ≡ length (candidates_between shards from to kept))
  pub few : IfOk races (λ r. length r.items ≤ most_races)
  pub many : races ≡ Err TooManyRaces
      → most_races < length (races_between shards from to joined kept)
  pub at_most : made ≤ length (candidates_between shards from to kept)

-- those of the first, then those of the second, unless they are too many
abbrev pub AreBoth : Result (Vec Race Global) ListFault → Result (Vec Race Global) ListFault
    → Result (Vec Race Global) ListFault → Type 0
AreBoth (Ok r) (Ok m) all =
    IfOk all (λ a. (a.items ≡ r.items ++ m.items) × (length a.items ≤ most_races))
    × (all ≡ Err TooManyRaces → most_races < length r.items + length m.items)
AreBoth (Ok r) (Err fault) all = all ≡ Err fault
AreBoth (Err fault) _ all = all ≡ Err fault
