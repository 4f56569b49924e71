use Rattle.std.proofs.Common.{◌≤◌, List, length}
use Rattle.er_trace.specs.declared.record.Record.{Record}
use Rattle.er_path_rules.specs.timer.Timed.{IsTimed}
use Rattle.er_path_rules.specs.timer.Walk.{IsWalk}
use Rattle.er_path_rules.proofs.timer.fired.hand_fired.Given as goal

abbrev pub invariant-loop-walk : goal.invariant-loop-walk
invariant-loop-walk l = record {
  within : l.walk.left ≤ length l.fn.fired;
  walks : (h : List Record) → IsTimed l.fn.version l.fn.page l.fn.clocks h → IsWalk l.fn.version h l.fn.next.timeout l.fn.fired l.walk l.fn.out.items l.out.items;
}

abbrev pub decreases-loop-walk : goal.decreases-loop-walk
decreases-loop-walk l = l.walk.left
