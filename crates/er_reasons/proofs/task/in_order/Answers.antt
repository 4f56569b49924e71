use Rattle.std.proofs.Common.{refl}
use Rattle.std.specs.Prelude.{nat_lt}
use Rattle.er_paths.specs.Paths.{joins}
use Rattle.er_history.specs.Edges.{up_to}
use Rattle.er_reasons.proofs.TaskLemmas.{order_no_second, order_both}
use Rattle.er_reasons.proofs.task.in_order.Goals as goal

pub returns-in_default-second : goal.returns-in_default-second
returns-in_default-second c = λ kind m n h lists stands timed at also. order_no_second c.args.page.now kind m n h (up_to c.args.before (joins lists)) c.args.second stands c.in_default-second.is also

pub returns : goal.returns
returns c = λ kind m n h lists stands timed at also.
    let x = c.in-Some.earlier in
    let y = c.in-Some-second.later in
    order_both c.args.page.now kind m n h (up_to c.args.before (joins lists)) c.args.first c.args.second x y (nat_lt x.rank y.rank) c.leads_before.result stands c.in-Some.is c.in-Some-second.is at also refl (c.leads_before.ensures lists timed)
