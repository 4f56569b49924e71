use Rattle.std.proofs.Common.{◌≤◌, length}
use Rattle.er_claims.specs.Fired.{AreCounted, IsNoEarlier}
use Rattle.er_claims.proofs.CountedLemmas.{AllFrom}
use Rattle.er_claims.proofs.counted.later_before.Given as goal

abbrev pub invariant-loop-left : goal.invariant-loop-left
invariant-loop-left l = record {
  within : l.left ≤ length l.fn.fired;
  from : AreCounted l.fn.fired → AllFrom IsNoEarlier l.fn.fired l.left l.fn.set;
}

abbrev pub decreases-loop-left : goal.decreases-loop-left
decreases-loop-left l = l.left
