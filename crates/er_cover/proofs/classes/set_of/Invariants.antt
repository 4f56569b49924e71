use Rattle.std.proofs.Common.{◌≡◌, take}
use Rattle.er_cover.specs.Classes.{each_once}
use Rattle.er_cover.proofs.classes.set_of.Given as goal

abbrev pub invariant-loop-class : goal.invariant-loop-class
invariant-loop-class l = l.set.keys ≡ each_once (take l.class-index l.classes)
