use Rattle.std.proofs.Common.{◌≡◌, ◌+◌, ◌*◌, ◌≤◌, take, length}
use Rattle.std.specs.Prelude.{map}
use Rattle.er_paths.specs.Paths.{joins}
use Rattle.er_cover.specs.Groups as spec
use Rattle.er_cover.proofs.names.name_all.Given as goal

abbrev pub invariant-loop-class : goal.invariant-loop-class
invariant-loop-class l = record {
  named : l.names.items ≡ map (spec.name_of (joins l.clocks) l.groups.keys) (take l.class-index l.classes);
  bound : l.tests ≤ l.fn.tests + 2 * (l.class-index * length l.groups.keys);
  rises : l.fn.tests ≤ l.tests;
}
