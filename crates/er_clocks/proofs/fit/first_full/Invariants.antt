use Rattle.std.proofs.Common.{◌≢◌, ◌≤◌, ◌<◌, ℕ, slice_index}
use Rattle.er_clocks.proofs.fit.first_full.Given as goal

abbrev pub invariant-loop-c : goal.invariant-loop-c
invariant-loop-c l = (d : ℕ) → l.from ≤ d → d < l.c → slice_index l.row d ≢ slice_index l.chains d
