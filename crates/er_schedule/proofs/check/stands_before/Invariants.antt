use Rattle.std.proofs.Common.{◌≡◌, ◌-◌, ◌≤◌, drop}
use Rattle.er_paths.specs.orders.Orders.{is_next}
use Rattle.er_schedule.proofs.check.stands_before.Given as goal

-- the rest of the order decides
abbrev pub invariant-loop-n : goal.invariant-loop-n
invariant-loop-n l = record {
  rest : is_next l.i l.j (drop (l.n - 1) l.order) ≡ is_next l.i l.j l.order;
  begun : 1 ≤ l.n;
}
