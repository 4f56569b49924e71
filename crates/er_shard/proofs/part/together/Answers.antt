use Rattle.er_shard.proofs.PartLemmas.{two_parts}
use Rattle.er_shard.proofs.part.together.Goals as goal

pub returns : goal.returns
returns c = λ shards from middle to joined kept le le2 left right.
    two_parts shards from middle to joined kept le le2 c.args.left.races c.args.right.races c.both.result c.args.left.meter c.args.right.meter c.absorb.new.self left right c.both.ensures c.absorb.ensures
