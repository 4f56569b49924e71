use Rattle.er_reasons.proofs.NumberLemmas.{least_here}
use Rattle.er_reasons.proofs.numbers.least_from.Goals as goal

pub returns-then-tests-n : goal.returns-then-tests-n
returns-then-tests-n c = least_here c.args.first c.args.tests.now c.loop-n.n c.loop-n-test.true c.if-tests-n.true c.loop-n.invariant
