use Rattle.std.proofs.Common.{◌≡◌, false}
use Rattle.er_order_tests.proofs.worked.hand_all.Given as goal

abbrev pub invariant-loop-text : goal.invariant-loop-text
invariant-loop-text l = l.graph.has_failed ≡ false
