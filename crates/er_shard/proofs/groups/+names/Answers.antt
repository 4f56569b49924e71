use Rattle.std.proofs.Common.{◌+◌, ◌-◌, ◌/◌, length, arith}
use Rattle.er_paths.specs.Paths.{joins}
use Rattle.er_cover.specs.Parts.{once_of}
use Rattle.er_shard.proofs.NamedLemmas.{begins_rise, part_small}
use Rattle.er_shard.proofs.groups.+names.Goals as goal

pub returns : goal.returns
returns g t c =
    let shards = c.args.work.now.shards in
    let from = c.args.from in
    let to = c.args.to in
    let middle = from + (to - from) / 2 in
    let count = length (once_of c.args.classes.now) in
    c.together.ensures shards from middle to (joins c.args.clocks.now) c.args.classes.now
    (begins_rise from middle count shards (omega (arith, c.requires.some, c.requires.within)) (omega arith)) (begins_rise middle to count shards (omega (arith, c.requires.some, c.requires.within)) (omega (arith, c.requires.some)))
    c.join-left.ensures.first c.join-left.ensures.second

pub together-requires : goal.together-requires
together-requires g t c =
    let shards = c.args.work.now.shards in
    let from = c.args.from in
    let to = c.args.to in
    let middle = from + (to - from) / 2 in
    let one = part_small shards from middle (joins c.args.clocks.now) c.args.classes.now c.join-left.result.0.names c.join-left.result.0.meter (omega (arith, c.requires.some, c.requires.within)) c.requires.few c.requires.few_groups c.join-left.ensures.first in
    let two = part_small shards middle to (joins c.args.clocks.now) c.args.classes.now c.join-left.result.1.names c.join-left.result.1.meter c.requires.within c.requires.few c.requires.few_groups c.join-left.ensures.second in
    omega (arith, one, two)
