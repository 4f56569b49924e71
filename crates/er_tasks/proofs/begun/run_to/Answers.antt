use Rattle.std.proofs.Common.{arith}
use Rattle.er_tasks.proofs.TaskLemmas.{run_goes_on}
use Rattle.er_tasks.proofs.begun.run_to.Goals as goal

pub returns-then-count-eq0 : goal.returns-then-count-eq0
returns-then-count-eq0 c = λ are. record { within = omega arith; each = λ j d from lt. absurd (omega (arith, lt, c.if-count-eq0.true)) }

pub returns-then-goes_on : goal.returns-then-goes_on
returns-then-goes_on c = λ are. run_goes_on c.args.begun.now _ c.args.task are (omega arith) (c.goes_on.ensures.0 c.if-goes_on.true)

pub returns : goal.returns
returns c = λ are. record { within = omega arith; each = λ j d from lt. absurd (omega (arith, from, lt)) }
