use Rattle.er_run.proofs.RaceOrders.{orders_keep_rules}
use Rattle.er_run.proofs.laws.orders_keep_rules.Goals as goal

pub returns : goal.returns
returns c = orders_keep_rules
