use Rattle.std.proofs.Common.{◌≡◌, ◌+◌, ◌≤◌, length}
use Rattle.std.specs.Prelude.{nat_lt, ◌&&◌}
use Rattle.std.specs.List.{filter}
use Rattle.std.specs.List.Sorted.{IsPermutation}
use Rattle.er_access.specs.Numbers.{access_at, accesses_of}
use Rattle.er_races.specs.declared.race.Race.{Race}
use Rattle.er_races.specs.Races.{most_races}
use Rattle.er_races.specs.Pairs.{all_pairs}
use Rattle.er_races.specs.Listing.{candidate, race, leaves}
use Rattle.er_races.proofs.lister.list_part.Given as goal

-- all pairs at the lesser locations of the shard are done
abbrev pub invariant-loop-k : goal.invariant-loop-k
invariant-loop-k g l =
    let accesses = accesses_of l.table in
    let joined = g.P.Paths.joins l.paths in
    record {
      listed : IsPermutation l.found.items (filter (λ (r : Race). nat_lt (access_at accesses r.first).location l.k && leaves l.shards l.shard (access_at accesses r.first).location) (all_pairs (race joined accesses) (length accesses)));
      counted : l.meter ≡ l.fn.meter + length (filter (λ (r : Race). nat_lt (access_at accesses r.first).location l.k && leaves l.shards l.shard (access_at accesses r.first).location) (all_pairs (candidate accesses) (length accesses)));
      few : length l.found.items ≤ most_races;
      rises : l.fn.meter ≤ l.meter;
    }
