use Rattle.std.proofs.Common.{◌≡◌, take, map}
use Rattle.er_cover.specs.Passes as spec
use Rattle.er_cover.proofs.classes.look_up.Given as goal

abbrev pub invariant-loop-class : goal.invariant-loop-class
invariant-loop-class l = l.found.items ≡ map (spec.value_of l.set.keys l.values) (take l.class-index l.asked)
