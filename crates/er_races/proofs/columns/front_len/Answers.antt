use Rattle.std.proofs.Common.{true, false, arith}
use Rattle.std.proofs.lemmas.Bool.Decides.{nat_tests}
use Rattle.er_races.proofs.FrontLemmas.{front_all, front_less}
use Rattle.er_races.proofs.columns.front_len.Goals as goal

pub returns-then-actions-last-clause-len : goal.returns-then-actions-last-clause-len
returns-then-actions-last-clause-len c = front_less c.args.actions.now c.args.action (let some = c.if-is_empty.false in let e = c.is_empty.ensures in grind (arith, nat_tests)) c.if-actions-last.true

pub returns-else-actions-last-clause-len : goal.returns-else-actions-last-clause-len
returns-else-actions-last-clause-len c = front_all c.args.actions.now c.args.action (let some = c.if-is_empty.false in let e = c.is_empty.ensures in grind (arith, nat_tests)) c.if-actions-last.false
