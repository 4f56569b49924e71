-- The rules of tasks, by version. Lists of records stand newest first.
use Rattle.std.specs.Prelude.{◌≡◌, ℕ, Bool, false, List}
use Rattle.std.specs.List.{list_any}
use Rattle.er_trace.specs.declared.record.Record.{Record}
use Rattle.er_trace.specs.Versions.{is_of_task}
use Rattle.er_history.specs.History.{Action, told}
use Rattle.er_history.specs.Rules.{any_holds, task_rules}
use Rattle.er_history.specs.Laws.{Among}

-- In a list with no record of tasks none of these rules holds between two events.
-- So they hold in version 3 alone, which alone has such records.
abbrev pub TasksAreOfVersionThree : Type 0
TasksAreOfVersionThree = (h : List Record) (joined : ℕ → ℕ → Bool) (a b : Action)
    → list_any is_of_task h ≡ false → Among a (told h).actions → Among b (told h).actions
    → any_holds task_rules joined a.event b.event ≡ false
