use Rattle.er_graph_tests.proofs.StandingLemmas.{some_page}
use Rattle.er_graph_tests.proofs.graph.is_handed_by_parsing.Goals as goal

pub predecessors-done-requires : goal.predecessors-done-requires
predecessors-done-requires c = record { some = some_page c.args.graph.now _ c.page.ensures }
