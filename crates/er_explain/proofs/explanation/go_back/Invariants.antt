use Rattle.std.proofs.Common.{◌≡◌, ◌+◌, ◌≤◌, true, List, length}
use Rattle.er_trace.specs.declared.record.Record.{Record}
use Rattle.er_history.specs.History.{told}
use Rattle.er_history.specs.Rules.{rules}
use Rattle.er_history.specs.Edges.{edges, path}
use Rattle.er_path_rules.specs.timer.Timed.{IsTimed}
use Rattle.er_pieces.specs.steps.Steps.{rule_of}
use Rattle.er_explain.specs.Steps.{all_shown}
use Rattle.er_explain.proofs.StepLemmas.{IsBack}
use Rattle.er_explain.proofs.explanation.go_back.Given as goal

-- the steps to the action, and those noted, are all
abbrev pub invariant-loop-at : goal.invariant-loop-at
invariant-loop-at l = record {
  back : (h : List Record) → IsTimed l.version l.page l.clocks h → path (rules l.version) h l.from l.to ≡ true
      → IsBack (rule_of (rules l.version) h) (edges (rules l.version) (told h).actions) l.from l.to l.at (all_shown l.found.items);
  few : length l.found.items + l.at ≤ l.to;
}

abbrev pub decreases-loop-at : goal.decreases-loop-at
decreases-loop-at l = l.at
