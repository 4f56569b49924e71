use Rattle.er_graph_tests.proofs.StandingLemmas.{some_page}
use Rattle.er_graph_tests.proofs.handed.handed.Goals as goal

pub steps-requires : goal.steps-requires
steps-requires c = record { some = some_page c.args.graph.now _ c.page-page.ensures }

pub runs-requires : goal.runs-requires
runs-requires c = record { some = some_page c.args.graph.now _ c.page-page.ensures }

pub loads-requires : goal.loads-requires
loads-requires c = record { some = some_page c.args.graph.now _ c.page-page.ensures }

pub replies-requires : goal.replies-requires
replies-requires c = record { some = some_page c.args.graph.now _ c.page-page.ensures }

pub dispatches-requires : goal.dispatches-requires
dispatches-requires c = record { some = some_page c.args.graph.now _ c.page-page.ensures }
