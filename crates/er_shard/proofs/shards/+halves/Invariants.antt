use Rattle.std.proofs.Common.{◌+◌, ◌-◌, ◌*◌}
use Rattle.er_shard.proofs.shards.+halves.Given as goal

abbrev pub decreases-join+arg2 : goal.decreases-join+arg2
decreases-join+arg2 g l = 2 * (l.middle - l.from) + 1

abbrev pub decreases-join+arg3 : goal.decreases-join+arg3
decreases-join+arg3 g l = 2 * (l.to - l.middle) + 1

abbrev pub decreases-list_between : goal.decreases-list_between
decreases-list_between g l = 2 * (l.to - l.from)
