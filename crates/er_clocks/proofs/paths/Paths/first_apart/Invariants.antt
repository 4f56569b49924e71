use Rattle.std.proofs.Common.{◌≡◌, ◌+◌, ◌<◌, ℕ, true, slice_index}
use Rattle.er_clocks.proofs.paths.Paths.first_apart.Given as goal

abbrev pub invariant-loop-n : goal.invariant-loop-n
invariant-loop-n g l = record {
  joined : (k : ℕ) → k < l.n → g.Self.Paths.joins l.self (slice_index l.firsts k) l.j ≡ true;
  counted : l.meter ≡ l.fn.meter + l.n;
}
