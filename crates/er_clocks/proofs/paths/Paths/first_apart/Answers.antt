use Rattle.std.proofs.Common.{◌∙◌, sym, arith}
use Rattle.er_clocks.proofs.AskedLemmas.{asked_all, asked_to, found_apart, joins_more, none_apart}
use Rattle.er_clocks.proofs.paths.Paths.first_apart.Goals as goal

pub before-requires-clause-room : goal.before-requires-clause-room
before-requires-clause-room g c = omega (arith, c.loop-n-test.true, c.loop-n.invariant.counted, c.requires.room)

pub returns-then-not-before-clause-answer : goal.returns-then-not-before-clause-answer
returns-then-not-before-clause-answer g c =
    found_apart (g.Self.Paths.joins c.args.self.now) c.args.firsts.now c.args.j c.loop-n.n c.loop-n-test.true c.loop-n.invariant.joined (sym c.before-in-loop-n.ensures.answer ∙ c.if-not-before.true)

pub returns-then-not-before-clause-once : goal.returns-then-not-before-clause-once
returns-then-not-before-clause-once g c = omega (arith, c.before-in-loop-n.ensures.once, c.loop-n.invariant.counted, asked_to c.args.firsts.now c.loop-n.n c.loop-n-test.true)

pub loop-n-preserved : goal.loop-n-preserved
loop-n-preserved g c = record {
  joined = joins_more (g.Self.Paths.joins c.args.self.now) c.args.firsts.now c.args.j c.loop-n.n c.loop-n.invariant.joined (sym c.before-in-loop-n.ensures.answer ∙ c.if-not-before.false);
  counted = omega (arith, c.before-in-loop-n.ensures.once, c.loop-n.invariant.counted);
}

pub returns-clause-answer : goal.returns-clause-answer
returns-clause-answer g c = none_apart (g.Self.Paths.joins c.args.self.now) c.args.firsts.now c.args.j c.loop-n.n c.loop-n-test.false c.loop-n.invariant.joined

pub returns-clause-once : goal.returns-clause-once
returns-clause-once g c = omega (arith, c.loop-n.invariant.counted, asked_all c.args.firsts.now, c.loop-n-test.false, c.loop-n.auto.n-end)
