use Rattle.std.proofs.Common.{◌≡◌, ◌+◌, ◌≤◌, ◌++◌, take, length}
use Rattle.std.specs.List.Sorted.{IsPermutation}
use Rattle.er_access.specs.Numbers.{accesses_of}
use Rattle.er_races.specs.Races.{most_races}
use Rattle.er_races.specs.Fronts.{AreColumns}
use Rattle.er_races.specs.Listing.{candidate, race}
use Rattle.er_races.proofs.SecondLemmas.{up_to}
use Rattle.er_races.proofs.location.list_location.Given as goal

-- the pairs of the first n accesses are done
abbrev pub invariant-loop-n : goal.invariant-loop-n
invariant-loop-n g l = record {
  columns : AreColumns (accesses_of l.table) (take l.n l.rows) l.columns;
  listed : IsPermutation l.found.items (l.fn.found.items ++ up_to (race (g.P.Paths.joins l.paths) (accesses_of l.table)) l.rows l.n);
  counted : l.meter ≡ l.fn.meter + length (up_to (candidate (accesses_of l.table)) l.rows l.n);
  few : length l.found.items ≤ most_races;
}
