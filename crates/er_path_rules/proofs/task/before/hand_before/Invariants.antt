use Rattle.std.proofs.Common.{◌≤◌, List, length}
use Rattle.er_trace.specs.declared.record.Record.{Record}
use Rattle.er_trace.specs.declared.version.Version.TheVariants.{Three}
use Rattle.er_history.specs.History.{told}
use Rattle.er_history.specs.Rules.{rules}
use Rattle.er_history.specs.Edges.{path}
use Rattle.er_path_rules.specs.timer.Timed.{IsTimed}
use Rattle.er_path_rules.specs.task.Before.{IsWalk}
use Rattle.er_path_rules.proofs.task.before.hand_before.Given as goal

abbrev pub invariant-loop-walk : goal.invariant-loop-walk
invariant-loop-walk l = record {
  within : l.walk.left ≤ length l.fn.begun;
  walks : (h : List Record) → IsTimed Three l.fn.page l.fn.clocks h → IsWalk (path (rules Three) h) (told h).actions l.fn.asked l.fn.begun l.walk l.fn.out.items l.out.items;
}

abbrev pub decreases-loop-walk : goal.decreases-loop-walk
decreases-loop-walk l = l.walk.left
