use Rattle.std.proofs.Common.{◌≡◌, ◌++◌, drop}
use Rattle.er_access.specs.Numbers.{accesses_of}
use Rattle.er_cover.specs.Passes as spec
use Rattle.er_cover.proofs.class.classes_by_race.Given as goal

abbrev pub invariant-loop-race : goal.invariant-loop-race
invariant-loop-race l = l.classes.items ++ spec.classes_by_number (accesses_of l.table) (drop l.race-index l.races) ≡ spec.classes_by_number (accesses_of l.table) l.races
