use Rattle.er_graph_tests.proofs.StandingLemmas.{has_begun}
use Rattle.er_graph_tests.proofs.graph.line_of.Goals as goal

pub line_of-requires : goal.line_of-requires
line_of-requires c = record { begun = has_begun c.args.graph.now _ c.args.action c.actions.result c.page.ensures c.actions.ensures c.if-action-actions.false }
