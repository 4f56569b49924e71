use Rattle.er_graph_tests.proofs.StandingLemmas.{some_timed}
use Rattle.er_graph_tests.proofs.handed.timers.Goals as goal

pub predecessors-done-requires : goal.predecessors-done-requires
predecessors-done-requires c = record { timed = some_timed c.args.graph.now _ _ _ c.requires.whole c.page.ensures c.clocks.ensures c.version.ensures }
