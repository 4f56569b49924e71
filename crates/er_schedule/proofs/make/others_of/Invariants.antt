use Rattle.std.proofs.Common.{◌≡◌}
use Rattle.std.specs.List.{filter}
use Rattle.er_paths.specs.Paths.{joins}
use Rattle.er_paths.specs.links.Links.{numbers_below}
use Rattle.er_clocks.specs.Clock.{Tells}
use Rattle.er_paths.specs.orders.Orders.{comes_before, comes_after}
use Rattle.er_schedule.proofs.make.others_of.Given as goal

-- of the actions so far those that pass
abbrev pub invariant-loop-k : goal.invariant-loop-k
invariant-loop-k l = record {
  before : Tells l.clocks (λ lists. l.before.items ≡ filter (comes_before (joins lists) l.i l.j) (numbers_below l.k));
  after : Tells l.clocks (λ lists. l.after.items ≡ filter (comes_after (joins lists) l.i l.j) (numbers_below l.k));
}
