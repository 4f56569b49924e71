use Rattle.std.proofs.Common.{ℕ, ◌≤◌, ◌<◌, length, slice_index}
use Rattle.er_latest.proofs.groups.place_of.Given as goal

abbrev pub invariant-loop-place : goal.invariant-loop-place
invariant-loop-place l = (l.place ≤ length l.groups) × ((k : ℕ) → l.place ≤ k → k < length l.groups → l.group ≤ slice_index l.groups k)

abbrev pub decreases-loop-place : goal.decreases-loop-place
decreases-loop-place l = l.place
