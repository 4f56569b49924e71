use Rattle.std.proofs.Common.{◌≡◌, length, arith, ap, subst, List}
use Rattle.std.specs.List.Sorted.{IsPermutation}
use Rattle.er_access.specs.Numbers.{accesses_of}
use Rattle.er_races.specs.declared.fault.ListFault.TheVariants.{TooManyRaces}
use Rattle.er_races.specs.declared.race.Race.{Race}
use Rattle.er_races.specs.Listing.{candidate, race, leaves}
use Rattle.er_races.proofs.ListLemmas.{part_whole, one_shard, candidate_count, race_count, as_long}
use Rattle.er_races.proofs.SortLemmas.{listed_is_due}
use Rattle.er_races.proofs.lister.list.Goals as goal

pub returns-in-Ok-clause-races : goal.returns-in-Ok-clause-races
returns-in-Ok-clause-races g c =
    let accesses = accesses_of c.args.table.now in
    let joined = g.P.Paths.joins c.args.paths.now in
    let P : List Race → Type 0 = λ l. IsPermutation c.in-Ok.found.items l in
    listed_is_due joined c.args.table.now c.in-Ok.found.items _ (subst P (part_whole (leaves 1 0) accesses (race joined accesses) one_shard) c.in-Ok.ensures.races) c.sort_unstable.ensures.permutation c.sort_unstable.ensures.sorted

pub returns-in-Ok-clause-once : goal.returns-in-Ok-clause-once
returns-in-Ok-clause-once g c =
    let accesses = accesses_of c.args.table.now in
    let all = ap length (part_whole (leaves 1 0) accesses (candidate accesses) one_shard) in
    omega (arith, all, c.in-Ok.ensures.once, candidate_count c.args.table.now)

pub returns-in-Ok-clause-few : goal.returns-in-Ok-clause-few
returns-in-Ok-clause-few g c =
    let accesses = accesses_of c.args.table.now in
    let joined = g.P.Paths.joins c.args.paths.now in
    let all = ap length (part_whole (leaves 1 0) accesses (race joined accesses) one_shard) in
    omega (arith, all, c.in-Ok.ensures.few, as_long c.in-Ok.found.items _ c.in-Ok.ensures.races, race_count joined c.args.table.now)

pub returns-in-Ok-clause-at_most : goal.returns-in-Ok-clause-at_most
returns-in-Ok-clause-at_most g c =
    let accesses = accesses_of c.args.table.now in
    let all = ap length (part_whole (leaves 1 0) accesses (candidate accesses) one_shard) in
    omega (arith, all, c.in-Ok.ensures.once, candidate_count c.args.table.now)

pub returns-in-Err-clause-many : goal.returns-in-Err-clause-many
returns-in-Err-clause-many g c = λ e.
    let accesses = accesses_of c.args.table.now in
    let joined = g.P.Paths.joins c.args.paths.now in
    let same : c.in-Err.fault ≡ TooManyRaces = cc in
    let all = ap length (part_whole (leaves 1 0) accesses (race joined accesses) one_shard) in
    let over = c.list_part.ensures.many (cc) in
    omega (arith, all, over, race_count joined c.args.table.now)

pub returns-in-Err-clause-at_most : goal.returns-in-Err-clause-at_most
returns-in-Err-clause-at_most g c =
    let accesses = accesses_of c.args.table.now in
    let all = ap length (part_whole (leaves 1 0) accesses (candidate accesses) one_shard) in
    omega (arith, all, c.list_part.ensures.at_most, candidate_count c.args.table.now)
