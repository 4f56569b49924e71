use Rattle.er_shard.proofs.NamedLemmas.{two_named}
use Rattle.er_shard.proofs.names.together.Goals as goal

pub returns : goal.returns
returns c = λ shards from middle to joined classes h k left right.
    two_named shards from middle to joined classes h k c.args.left.names c.args.right.names c.both.result c.args.left.meter c.args.right.meter c.absorb.new.self left right c.both.ensures c.absorb.ensures
