use Rattle.er_shard.proofs.PartLemmas.{one_listed}
use Rattle.er_shard.proofs.shards.list_one.Goals as goal

pub returns : goal.returns
returns g c =
    one_listed c.args.work.now.shards c.args.shard (g.P.Paths.joins c.args.paths.now) c.args.table.now c.list_part-races.result c.new-meter.result c.list_part-races.new.meter c.new-meter.ensures
    c.list_part-races.ensures.races c.list_part-races.ensures.once c.list_part-races.ensures.few c.list_part-races.ensures.many c.list_part-races.ensures.at_most
