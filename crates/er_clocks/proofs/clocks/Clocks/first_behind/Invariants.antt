use Rattle.std.proofs.Common.{◌≡◌, ◌<◌, ℕ, false, slice_index}
use Rattle.er_paths.specs.Paths.{joins}
use Rattle.er_clocks.proofs.clocks.Clocks.first_behind.Given as goal

abbrev pub invariant-loop-n : goal.invariant-loop-n
invariant-loop-n l = (k : ℕ) → k < l.n → joins l.self l.i (slice_index l.seconds k) ≡ false
