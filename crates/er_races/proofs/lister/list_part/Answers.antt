use Rattle.std.proofs.Common.{◌≡◌, length, arith, ap, subst, List}
use Rattle.std.specs.List.Sorted.{IsPermutation}
use Rattle.er_access.specs.Numbers.{accesses_of, locations_of}
use Rattle.er_access.proofs.LocatedLemmas.{numbers_known}
use Rattle.er_races.specs.declared.fault.ListFault.TheVariants.{TooManyRaces}
use Rattle.er_races.specs.declared.race.Race.{Race}
use Rattle.er_races.specs.Listing.{candidate, race, leaves}
use Rattle.er_races.proofs.ListLemmas.{before_all, before_short, part_short, start_listed, start_counted, more_listed, more_counted, one_fits, as_many, candidate_count, actions_known}
use Rattle.er_races.proofs.lister.list_part.Goals as goal

pub loop-k-init : goal.loop-k-init
loop-k-init g c =
    let own = leaves c.args.shards c.args.shard in
    let t = race (g.P.Paths.joins c.args.paths.now) (accesses_of c.args.table.now) in
    let none = ap length c.new-found.ensures.items in
    record {
      listed = start_listed own (accesses_of c.args.table.now) t c.new-found.result.items c.new-found.ensures.items;
      counted = start_counted own (accesses_of c.args.table.now) (candidate (accesses_of c.args.table.now)) c.args.meter.now;
      few = omega (arith, none);
      rises = omega arith;
    }

pub list_own-requires-clause-room : goal.list_own-requires-clause-room
list_own-requires-clause-room g c =
    let accesses = accesses_of c.args.table.now in
    let own = leaves c.args.shards c.args.shard in
    omega (arith, c.requires.few, c.requires.room, c.loop-k.invariant.counted, candidate_count c.args.table.now, part_short own accesses (candidate accesses), one_fits own accesses (candidate accesses) c.loop-k.k)

pub list_own-requires-clause-known : goal.list_own-requires-clause-known
list_own-requires-clause-known g c = actions_known (g.P.Paths.actions c.args.paths.now) c.args.table.now c.requires.known

pub returns-in-Err-clause-many : goal.returns-in-Err-clause-many
returns-in-Err-clause-many g c = λ e.
    let accesses = accesses_of c.args.table.now in
    let own = leaves c.args.shards c.args.shard in
    let t = race (g.P.Paths.joins c.args.paths.now) accesses in
    let same : c.in-Err.fault ≡ TooManyRaces = cc in
    let over = c.in-Err.ensures.many same in
    omega (arith, over, one_fits own accesses t c.loop-k.k, as_many own accesses t c.loop-k.k c.loop-k.found.items c.loop-k.invariant.listed)

pub returns-in-Err-clause-at_most : goal.returns-in-Err-clause-at_most
returns-in-Err-clause-at_most g c =
    let accesses = accesses_of c.args.table.now in
    let least = c.in-Err.ensures.at_most in
    omega (arith, least, c.loop-k.invariant.counted, one_fits (leaves c.args.shards c.args.shard) accesses (candidate accesses) c.loop-k.k)

pub loop-k-preserved : goal.loop-k-preserved
loop-k-preserved g c =
    let accesses = accesses_of c.args.table.now in
    let own = leaves c.args.shards c.args.shard in
    let t = race (g.P.Paths.joins c.args.paths.now) accesses in
    record {
      listed = more_listed own accesses t c.loop-k.k c.loop-k.found.items _ c.loop-k.invariant.listed c.in_default.ensures.found;
      counted = more_counted own accesses (candidate accesses) c.loop-k.k c.args.meter.now c.loop-k.meter _ c.loop-k.invariant.counted c.in_default.ensures.once;
      few = c.in_default.ensures.few;
      rises = omega (arith, c.loop-k.invariant.rises, c.in_default.ensures.rises);
    }

pub returns-clause-races : goal.returns-clause-races
returns-clause-races g c =
    let accesses = accesses_of c.args.table.now in
    let P : List Race → Type 0 = λ l. IsPermutation c.loop-k.found.items l in
    subst P (before_all (leaves c.args.shards c.args.shard) accesses (race (g.P.Paths.joins c.args.paths.now) accesses) c.loop-k.k (length (locations_of c.args.table.now)) (numbers_known c.args.table.now) (omega (arith, c.locations-k-end.ensures, c.loop-k-test.false))) c.loop-k.invariant.listed

pub returns-clause-once : goal.returns-clause-once
returns-clause-once g c =
    let accesses = accesses_of c.args.table.now in
    let all = ap length (before_all (leaves c.args.shards c.args.shard) accesses (candidate accesses) c.loop-k.k (length (locations_of c.args.table.now)) (numbers_known c.args.table.now) (omega (arith, c.locations-k-end.ensures, c.loop-k-test.false))) in
    omega (arith, all, c.loop-k.invariant.counted)

pub returns-clause-at_most : goal.returns-clause-at_most
returns-clause-at_most g c =
    let accesses = accesses_of c.args.table.now in
    omega (arith, c.loop-k.invariant.counted, before_short (leaves c.args.shards c.args.shard) accesses (candidate accesses) c.loop-k.k)
