use Rattle.std.proofs.Common.{arith}
use Rattle.er_path_rules.proofs.timer.WalkLemmas.{walk_begun, walk_ended, walk_stopped, on_err}
use Rattle.er_path_rules.proofs.timer.fired.hand_fired.Goals as goal

pub loop-walk-init : goal.loop-walk-init
loop-walk-init c = record {
  within = omega arith;
  walks = λ h timed. walk_begun c.args.version h c.args.next.timeout c.args.fired.now c.args.out.now.items;
}

pub walk_on-requires : goal.walk_on-requires
walk_on-requires c = record {
  some = omega (arith, c.loop-walk-test.true);
  within = c.loop-walk.invariant.within;
  page = c.requires.page;
  next = c.requires.next;
  fired = c.requires.fired;
  joined = c.requires.joined;
}

pub returns-in_err-walk-clause-part : goal.returns-in_err-walk-clause-part
returns-in_err-walk-clause-part c = on_err c.from_residual.result (λ h timed.
    walk_stopped c.args.version h c.args.next.timeout c.args.fired.now c.loop-walk.walk c.args.out.now.items c.loop-walk.out.items c.walk_on.new.out.items c.in_err-walk.ensures.same (c.loop-walk.invariant.walks h timed))

pub loop-walk-smaller : goal.loop-walk-smaller
loop-walk-smaller c = c.in_ok-walk.ensures.less

pub loop-walk-preserved : goal.loop-walk-preserved
loop-walk-preserved c = record {
  within = omega (arith, c.loop-walk.invariant.within, c.in_ok-walk.ensures.less);
  walks = λ h timed. c.in_ok-walk.ensures.walked h timed c.args.out.now.items (c.loop-walk.invariant.walks h timed);
}

pub returns-clause-whole : goal.returns-clause-whole
returns-clause-whole c = λ h timed.
    walk_ended c.args.version h c.args.next.timeout c.args.fired.now c.loop-walk.walk c.args.out.now.items c.loop-walk.out.items (omega (arith, c.loop-walk-test.false)) (c.loop-walk.invariant.walks h timed)
