use Rattle.std.proofs.Common.{◌≡◌, List, arith, subst}
use Rattle.std.specs.List.Sorted.{IsPermutation}
use Rattle.std.specs.Prelude.{Ok}
use Rattle.er_races.specs.declared.fault.ListFault.TheVariants.{TooManyRaces}
use Rattle.er_races.specs.declared.race.Race.{Race}
use Rattle.er_races.proofs.ListLemmas.{as_long}
use Rattle.er_races.proofs.SortLemmas.{listed_is_due}
use Rattle.er_shard.specs.Parts.{races_between}
use Rattle.er_shard.proofs.PartLemmas.{part_is, all_races, all_counted, all_raced}
use Rattle.er_shard.proofs.shards.list_shards.Goals as goal

pub absorb-requires : goal.absorb-requires
absorb-requires g c = omega (arith, c.requires.room, c.requires.few, c.list_between-all.ensures.at_most, all_counted c.args.work.now.shards c.args.table.now c.requires.some)

pub returns-in-Ok-clause-races : goal.returns-in-Ok-clause-races
returns-in-Ok-clause-races g c =
    let joined = g.P.Paths.joins c.args.paths.now in
    let kept = c.args.table.now in
    let found = part_is c.args.work.now.shards 0 c.args.work.now.shards joined kept c.list_between-all.result.races (Ok c.in-Ok.races) c.list_between-all.result.meter c.in-Ok.is c.list_between-all.ensures in
    let P : List Race → Type 0 = λ l. IsPermutation c.in-Ok.races.items l in
    listed_is_due joined kept c.in-Ok.races.items c.sort_unstable.new.self.items (subst P (all_races c.args.work.now.shards joined kept c.requires.some) found.listed) c.sort_unstable.ensures.permutation c.sort_unstable.ensures.sorted

pub returns-in-Ok-clause-once : goal.returns-in-Ok-clause-once
returns-in-Ok-clause-once g c =
    let found = part_is c.args.work.now.shards 0 c.args.work.now.shards (g.P.Paths.joins c.args.paths.now) c.args.table.now c.list_between-all.result.races (Ok c.in-Ok.races) c.list_between-all.result.meter c.in-Ok.is c.list_between-all.ensures in
    omega (arith, found.once, c.absorb.ensures, all_counted c.args.work.now.shards c.args.table.now c.requires.some)

pub returns-in-Ok-clause-few : goal.returns-in-Ok-clause-few
returns-in-Ok-clause-few g c =
    let joined = g.P.Paths.joins c.args.paths.now in
    let kept = c.args.table.now in
    let found = part_is c.args.work.now.shards 0 c.args.work.now.shards joined kept c.list_between-all.result.races (Ok c.in-Ok.races) c.list_between-all.result.meter c.in-Ok.is c.list_between-all.ensures in
    omega (arith, found.few, as_long c.in-Ok.races.items (races_between c.args.work.now.shards 0 c.args.work.now.shards joined kept) found.listed, all_raced c.args.work.now.shards joined kept c.requires.some)

pub returns-in-Ok-clause-at_most : goal.returns-in-Ok-clause-at_most
returns-in-Ok-clause-at_most g c = omega (arith, c.list_between-all.ensures.at_most, c.absorb.ensures, all_counted c.args.work.now.shards c.args.table.now c.requires.some)

pub returns-in-Err-clause-many : goal.returns-in-Err-clause-many
returns-in-Err-clause-many g c = λ e.
    let same : c.in-Err.fault ≡ TooManyRaces = cc in
    let over = c.list_between-all.ensures.many (cc) in
    omega (arith, over, all_raced c.args.work.now.shards (g.P.Paths.joins c.args.paths.now) c.args.table.now c.requires.some)

pub returns-in-Err-clause-at_most : goal.returns-in-Err-clause-at_most
returns-in-Err-clause-at_most g c = omega (arith, c.list_between-all.ensures.at_most, c.absorb.ensures, all_counted c.args.work.now.shards c.args.table.now c.requires.some)
