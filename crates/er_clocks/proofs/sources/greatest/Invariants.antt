use Rattle.std.proofs.Common.{◌≡◌, true}
use Rattle.er_paths.specs.Paths.{is_among}
use Rattle.er_clocks.proofs.sources.greatest.Given as goal

abbrev pub invariant-loop-n : goal.invariant-loop-n
invariant-loop-n l = is_among l.most l.numbers ≡ true
