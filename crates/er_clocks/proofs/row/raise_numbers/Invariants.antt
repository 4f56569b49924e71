use Rattle.std.proofs.Common.{◌≡◌, ◌≤◌, ◌<◌, ℕ, max, slice_index}
use Rattle.er_clocks.proofs.row.raise_numbers.Given as goal

abbrev pub invariant-loop-c : goal.invariant-loop-c
invariant-loop-c l = record {
  raised : (k : ℕ) → k < l.c → slice_index l.numbers k ≡ max (slice_index l.fn.numbers k) (slice_index l.more k);
  rest : (k : ℕ) → l.c ≤ k → slice_index l.numbers k ≡ slice_index l.fn.numbers k;
}
