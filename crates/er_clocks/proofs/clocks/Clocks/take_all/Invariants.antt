use Rattle.std.proofs.Common.{◌≤◌, ◌<◌, All, length, drop}
use Rattle.er_clocks.specs.Sources.{IsTaken}
use Rattle.er_clocks.proofs.clocks.Clocks.take_all.Given as goal

-- of the numbers from place n on
abbrev pub invariant-loop-n : goal.invariant-loop-n
invariant-loop-n l = record {
  within : l.n ≤ length l.sorted;
  known : All (λ k. k < length l.self) l.links.items;
  taken : IsTaken l.self l.row l.links.items (drop l.n l.sorted);
}

abbrev pub decreases-loop-n : goal.decreases-loop-n
decreases-loop-n l = l.n
