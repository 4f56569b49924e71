use Rattle.std.proofs.Common.{length, ◌-◌, ◌≡◌, ◌+◌, ◌≤◌, ◌++◌}
use Rattle.er_races.specs.Races.{most_races}
use Rattle.er_races.specs.Pairs.{with_second}
use Rattle.er_races.specs.Fronts.{unjoined}
use Rattle.er_races.proofs.FrontLemmas.{rest}
use Rattle.er_races.proofs.location.list_front.Given as goal

-- what was done and what is left give all
abbrev pub invariant-loop-from : goal.invariant-loop-from
invariant-loop-from g l = record {
  within : l.from ≤ length l.actions;
  listed : l.found.items ++ with_second (rest (g.P.Paths.joins l.paths) l.action l.numbers l.actions l.from) l.second
      ≡ l.fn.found.items ++ with_second (unjoined (λ a. g.P.Paths.joins l.paths a l.action) l.numbers l.actions) l.second;
  counted : l.meter ≡ l.fn.meter + l.from;
  few : length l.found.items ≤ most_races;
}

abbrev pub decreases-loop-from : goal.decreases-loop-from
decreases-loop-from g l = length l.actions - l.from
