use Rattle.std.proofs.Common.{◌≡◌, ◌<◌, ℕ, true, slice_index}
use Rattle.er_paths.specs.Paths.{joins}
use Rattle.er_clocks.proofs.clocks.Clocks.near_pathless.Given as goal

abbrev pub invariant-loop-n : goal.invariant-loop-n
invariant-loop-n l = (k : ℕ) → k < l.n → joins l.self (slice_index l.firsts k) l.j ≡ true
