use Rattle.std.proofs.Common.{◌≡◌, ◌<◌, ℕ, true, slice_index}
use Rattle.er_paths.specs.Paths.{joins}
use Rattle.er_clocks.specs.Asked.{AreLaid}
use Rattle.er_clocks.proofs.clocks.Clocks.first_uncovered.Given as goal

abbrev pub invariant-loop-n : goal.invariant-loop-n
invariant-loop-n l = (j : ℕ) → AreLaid l.self j l.laid → (k : ℕ) → k < l.n → joins l.self (slice_index l.firsts k) j ≡ true
