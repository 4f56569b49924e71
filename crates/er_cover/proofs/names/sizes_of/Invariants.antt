use Rattle.std.proofs.Common.{◌≡◌, ℕ, ◌<◌, take, length}
use Rattle.std.specs.Prelude.{slice_index}
use Rattle.er_cover.specs.Groups.{size_of}
use Rattle.er_cover.proofs.names.sizes_of.Given as goal

abbrev pub invariant-loop-name : goal.invariant-loop-name
invariant-loop-name l = record {
  len : length l.sizes.items ≡ l.count;
  each : (g : ℕ) → g < l.count → slice_index l.sizes.items g ≡ size_of (take l.name-index l.names) g;
}
