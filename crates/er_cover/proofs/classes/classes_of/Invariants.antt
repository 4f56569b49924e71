use Rattle.std.proofs.Common.{◌≡◌, take}
use Rattle.er_cover.specs.Classes.{each_once}
use Rattle.er_cover.specs.Passes.{representatives_of}
use Rattle.er_cover.proofs.classes.classes_of.Given as goal

abbrev pub invariant-loop-race : goal.invariant-loop-race
invariant-loop-race l = record {
  classes : l.set.keys ≡ each_once (take l.race l.by_race);
  firsts : l.firsts.items ≡ representatives_of l.by_race (each_once (take l.race l.by_race));
}
