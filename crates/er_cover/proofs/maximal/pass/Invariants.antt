use Rattle.std.proofs.Common.{◌≡◌, ◌+◌, ◌*◌, ◌≤◌, take, length}
use Rattle.std.specs.List.{filter}
use Rattle.er_paths.specs.Paths.{joins}
use Rattle.er_cover.specs.Groups.{is_maximal, maximal_of}
use Rattle.er_cover.specs.Passes.{AreHeads, IsLeading}
use Rattle.er_cover.proofs.maximal.pass.Given as goal

abbrev pub invariant-loop-class : goal.invariant-loop-class
invariant-loop-class l = record {
  found : l.found.items ≡ filter (λ y. is_maximal (joins l.clocks) l.classes y) (take l.class-index l.classes);
  heads : AreHeads l.found.items l.heads;
  leading : IsLeading (joins l.clocks) l.found.items l.leading;
  bound : l.tests ≤ l.fn.tests + 2 * (l.class-index * length (maximal_of (joins l.clocks) l.classes));
  rises : l.fn.tests ≤ l.tests;
}
