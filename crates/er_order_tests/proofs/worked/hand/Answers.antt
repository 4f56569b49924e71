use Rattle.er_order_tests.proofs.StandingLemmas.{whole_after}
use Rattle.er_order_tests.proofs.worked.hand.Goals as goal

pub returns-in-Ok : goal.returns-in-Ok
returns-in-Ok c = whole_after c.args.graph.now c.accept.new.self c.args.line _ c.requires.whole c.in-Ok.ensures.accepted
