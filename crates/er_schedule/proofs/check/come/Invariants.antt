use Rattle.std.proofs.Common.{◌≡◌, drop, length}
use Rattle.er_paths.specs.links.Links.{links_of}
use Rattle.er_clocks.specs.Clock.{Tells}
use Rattle.er_schedule.specs.Marks.{all_come}
use Rattle.er_schedule.proofs.check.come.Given as goal

-- the rest of the order decides
abbrev pub invariant-loop-k : goal.invariant-loop-k
invariant-loop-k l = record {
  rest : Tells l.clocks (λ lists. all_come (links_of lists) l.marks (drop l.k-index l.order) ≡ all_come (links_of lists) l.fn.marks l.order);
  long : length l.marks ≡ length l.clocks;
}
