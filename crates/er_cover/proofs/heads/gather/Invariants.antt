use Rattle.std.proofs.Common.{◌≡◌, ◌+◌, ◌-◌, ◌≤◌, ◌++◌, length}
use Rattle.er_paths.specs.Paths.{joins}
use Rattle.er_cover.specs.Passes.{seconds_from}
use Rattle.er_cover.proofs.HeadLemmas.{seconds_left}
use Rattle.er_cover.proofs.heads.gather.Given as goal

-- what was gathered and what is left give all
abbrev pub invariant-loop-from : goal.invariant-loop-from
invariant-loop-from l = record {
  within : l.from ≤ length l.heads.firsts.items;
  gathered : l.seconds.items ++ seconds_left (joins l.clocks) l.first l.found l.heads l.from ≡ seconds_from (joins l.clocks) l.first l.found;
  counted : l.tests ≡ l.fn.tests + l.from;
}

abbrev pub decreases-loop-from : goal.decreases-loop-from
decreases-loop-from l = length l.heads.firsts.items - l.from
