use Rattle.std.proofs.Common.{◌≡◌, false}
use Rattle.er_graph_tests.proofs.graph.hand_each.Given as goal

abbrev pub invariant-loop-line : goal.invariant-loop-line
invariant-loop-line g l = l.graph.has_failed ≡ false
