use Rattle.std.proofs.Common.{◌≡◌, false}
use Rattle.er_graph_tests.proofs.handed.add_up.Given as goal

abbrev pub invariant-loop-text : goal.invariant-loop-text
invariant-loop-text g l = l.graph.has_failed ≡ false
