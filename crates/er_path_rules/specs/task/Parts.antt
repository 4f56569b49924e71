-- What is due for each form of record, and how many pieces it may be. Lists of records
-- stand newest first.
use Rattle.std.specs.Prelude.{ℕ, ◌+◌, ◌||◌, Bool, List, length, Option}
use Rattle.er_trace.specs.declared.record.Record.{Record}
use Rattle.er_trace.specs.declared.version.Version.TheVariants.{Three}
use Rattle.er_history.specs.History.{Event, told}
use Rattle.er_history.specs.Rules.{rules}
use Rattle.er_history.specs.Edges.{path}
use Rattle.er_history.specs.Latest.{events_of_each}
use Rattle.er_history.specs.Tasks.{TaskKind, task_made}
use Rattle.er_path_rules.specs.task.Counts.{queued_count}
use Rattle.er_path_rules.specs.task.Due.{due, comes_before, is_earlier, is_job_of, maker_of}

-- by the paths of version 3
abbrev pub due_for : Record → List Record → Event → Bool
due_for x h u = due (path (rules Three) h) h x u

-- before a task

abbrev pub task_due : TaskKind → ℕ → List Record → Event → Bool
task_due kind number h u = comes_before (path (rules Three) h) kind (task_made kind h number) u

abbrev pub earlier_tasks : TaskKind → ℕ → List Record → ℕ
earlier_tasks kind number h = length
    (events_of_each (is_earlier (path (rules Three) h) kind (task_made kind h number))
    (told h).actions)

abbrev pub task_count : TaskKind → ℕ → List Record → ℕ
task_count kind number h = 1 + earlier_tasks kind number h

-- the jobs of an event
abbrev pub jobs_due : Option ℕ → List Record → Event → Bool
jobs_due queuer h u = is_job_of queuer u

-- before a task that is no job

abbrev pub callback_due : TaskKind → ℕ → List Record → Event → Bool
callback_due kind number h u =
    task_due kind number h u || jobs_due (maker_of (task_made kind h number)) h u

abbrev pub callback_count : TaskKind → ℕ → List Record → ℕ
callback_count kind number h =
    task_count kind number h + queued_count h (maker_of (task_made kind h number))
