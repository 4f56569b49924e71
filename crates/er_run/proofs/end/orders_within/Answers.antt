use Rattle.std.proofs.Common.{arith}
use Rattle.er_run.specs.Legal.{race_cause}
use Rattle.er_run.proofs.JudgedLemmas.{judged_orders, no_race}
use Rattle.er_run.proofs.end.orders_within.Goals as goal

pub orders_of-requires-clause-listed : goal.orders_of-requires-clause-listed
orders_of-requires-clause-listed g c = rw c.as_slice.ensures.value c.in-Ok.ensures.listed

pub returns-in-Ok-orders_of-clause-found : goal.returns-in-Ok-orders_of-clause-found
returns-in-Ok-orders_of-clause-found g c = λ h stands.
    judged_orders c.args.session.now c.args.race h c.in-Ok.races _ stands (rw c.as_slice.ensures.value at (c.in-Ok-orders_of.ensures h stands))

pub returns-in-Err-clause-refused : goal.returns-in-Err-clause-refused
returns-in-Err-clause-refused g c = λ h stands. c.in-Err.ensures.refused h stands (race_cause c.args.race c.args.session.now.graph.version h)

pub returns-then-race-len-clause-refused : goal.returns-then-race-len-clause-refused
returns-then-race-len-clause-refused g c = λ h stands.
    let count = stands.count in
    (omega (arith, count, c.next_line.ensures), no_race c.args.session.now.graph.version h c.in-Ok.races.items c.args.race (c.in-Ok.ensures.listed h stands) (omega (arith, c.if-race-len.true, c.in-Ok.races.ok.0)))
