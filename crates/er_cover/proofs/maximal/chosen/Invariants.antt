use Rattle.std.proofs.Common.{◌≡◌, take}
use Rattle.std.specs.List.{filter}
use Rattle.er_cover.specs.Classes.{is_among}
use Rattle.er_cover.proofs.maximal.chosen.Given as goal

abbrev pub invariant-loop-class : goal.invariant-loop-class
invariant-loop-class l = l.kept.items ≡ filter (λ x. is_among x l.set.keys) (take l.class-index l.classes)
