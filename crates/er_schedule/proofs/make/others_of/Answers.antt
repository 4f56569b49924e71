use Rattle.std.proofs.Common.{arith}
use Rattle.er_paths.specs.Paths.{joins}
use Rattle.er_paths.specs.orders.Orders.{comes_before, comes_after}
use Rattle.er_schedule.proofs.MakeLemmas.{part_more, part_whole}
use Rattle.er_schedule.proofs.make.others_of.Goals as goal

pub loop-k-preserved : goal.loop-k-preserved
loop-k-preserved c = record {
  before = λ lists stands. part_more (comes_before (joins lists) c.args.i c.args.j) c.loop-k.k c.loop-k.before.items c.place.new.before.items (c.loop-k.invariant.before lists stands) (c.in_ok-place.ensures.before lists stands);
  after = λ lists stands. part_more (comes_after (joins lists) c.args.i c.args.j) c.loop-k.k c.loop-k.after.items c.place.new.after.items (c.loop-k.invariant.after lists stands) (c.in_ok-place.ensures.after lists stands);
}

pub returns-clause-before : goal.returns-clause-before
returns-clause-before c = λ lists stands. part_whole (comes_before (joins lists) c.args.i c.args.j) c.args.clocks.now lists c.loop-k.k c.loop-k.before.items stands (omega (arith, c.len-k-end.ensures)) (c.loop-k.invariant.before lists stands)

pub returns-clause-after : goal.returns-clause-after
returns-clause-after c = λ lists stands. part_whole (comes_after (joins lists) c.args.i c.args.j) c.args.clocks.now lists c.loop-k.k c.loop-k.after.items stands (omega (arith, c.len-k-end.ensures)) (c.loop-k.invariant.after lists stands)
