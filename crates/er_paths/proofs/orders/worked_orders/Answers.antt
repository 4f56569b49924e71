use Rattle.std.proofs.Common.{refl}
use Rattle.er_paths.proofs.orders.worked_orders.Goals as goal

pub returns-clause-orders : goal.returns-clause-orders
returns-clause-orders c = (record { first_is = refl; second_is = refl }, record { first_is = refl; second_is = refl })

pub returns-clause-schedules : goal.returns-clause-schedules
returns-clause-schedules c = (refl, refl, refl, refl, refl, refl)

pub returns-clause-laws : goal.returns-clause-laws
returns-clause-laws c = (refl, refl)
