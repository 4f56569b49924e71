use Rattle.er_paths.proofs.orders.Orders.{both_orders_are_shown}
use Rattle.er_paths.proofs.orders.both_orders_are_shown.Goals as goal

pub returns : goal.returns
returns c = both_orders_are_shown
