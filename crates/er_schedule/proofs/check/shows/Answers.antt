use Rattle.er_schedule.proofs.MarkLemmas.{shows_next, shows_not}
use Rattle.er_schedule.proofs.check.shows.Goals as goal

pub returns-then-not-come : goal.returns-then-not-come
returns-then-not-come c = λ lists stands. shows_not c.args.clocks.now lists c.args.marks.now c.args.order.now c.args.i c.args.j stands c.requires (c.if-not-come.ensures lists stands)

pub returns : goal.returns
returns c = λ lists stands. shows_next c.args.clocks.now lists c.args.marks.now c.args.order.now c.args.i c.args.j c.stands_before.result stands c.requires (c.if-not-come.ensures lists stands) c.stands_before.ensures
