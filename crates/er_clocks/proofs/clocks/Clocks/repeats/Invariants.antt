use Rattle.std.proofs.Common.{◌≡◌, ◌≤◌, ◌<◌, ◌-◌, ℕ, true, length, slice_index}
use Rattle.er_paths.specs.Paths.{joins, is_among}
use Rattle.er_clocks.proofs.clocks.Clocks.repeats.Given as goal

abbrev pub invariant-loop-n : goal.invariant-loop-n
invariant-loop-n l = record {
  within : l.found ≤ length l.links;
  stand : (m : ℕ) → m < l.found → is_among (slice_index l.links m) l.preds ≡ true;
  before : (m : ℕ) → m < l.n → (slice_index l.preds (length l.preds - 1 - m) < l.j) × (joins l.self (slice_index l.preds (length l.preds - 1 - m)) l.j ≡ true);
}
