use Rattle.std.proofs.Common.{◌+◌, ◌-◌, ◌/◌, arith}
use Rattle.er_shard.proofs.PartLemmas.{counted, few_between}
use Rattle.er_shard.proofs.shards.+halves.Goals as goal

pub together-requires : goal.together-requires
together-requires g t c =
    let shards = c.args.work.now.shards in
    let from = c.args.from in
    let to = c.args.to in
    let middle = from + (to - from) / 2 in
    let kept = c.args.table.now in
    let first = c.join-left.ensures.first in
    let second = c.join-left.ensures.second in
    omega (arith, first.at_most, second.at_most, counted shards from middle to kept (omega arith) (omega (arith, c.requires.some)), few_between shards from to kept, c.requires.few)

pub returns : goal.returns
returns g t c =
    let from = c.args.from in
    let to = c.args.to in
    c.together.ensures c.args.work.now.shards from (from + (to - from) / 2) to (g.P.Paths.joins c.args.paths.now) c.args.table.now (omega arith) (omega (arith, c.requires.some)) c.join-left.ensures.first c.join-left.ensures.second
