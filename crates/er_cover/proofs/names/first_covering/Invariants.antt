use Rattle.std.proofs.Common.{◌≡◌, ◌+◌, ◌*◌, ◌≤◌, drop}
use Rattle.er_paths.specs.Paths.{joins}
use Rattle.er_cover.specs.Groups.{name_of}
use Rattle.er_cover.proofs.names.first_covering.Given as goal

abbrev pub invariant-loop-g : goal.invariant-loop-g
invariant-loop-g l = record {
  first : l.g + name_of (joins l.clocks) (drop l.g l.groups) l.class ≡ name_of (joins l.clocks) l.groups l.class;
  bound : l.tests ≤ l.fn.tests + 2 * l.g;
  rises : l.fn.tests ≤ l.tests;
}
