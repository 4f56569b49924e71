use Rattle.std.proofs.Common.{◌-◌, arith, sym, ◌∙◌}
use Rattle.er_schedule.proofs.MakeLemmas.{next_last, next_more}
use Rattle.er_schedule.proofs.check.stands_before.Goals as goal

pub loop-n-preserved : goal.loop-n-preserved
loop-n-preserved c = record {
  rest = next_more c.args.i c.args.j c.args.order.now c.loop-n.n c.loop-n.invariant.begun c.loop-n-test.true c.if-are.ensures c.loop-n.invariant.rest;
  begun = omega arith;
}

pub returns : goal.returns
returns c = sym (next_last c.args.i c.args.j c.args.order.now (c.loop-n.n - 1) (omega arith)) ∙ c.loop-n.invariant.rest
