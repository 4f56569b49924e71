-- Which events come before the one that a record begins, by the rules of tasks. Lists of records
-- stand newest first.
use Rattle.std.specs.Prelude.{ℕ, Bool, false, ◌==◌, ◌&&◌, ◌||◌, nat_lt, List, Option, Some, None}
use Rattle.er_trace.specs.declared.record.Record.{Record}
use Rattle.er_trace.specs.declared.record.Record.TheVariants as records
use Rattle.er_history.specs.History.{Task, What, MessageRun, AnimRun, JobRun, Event}
use Rattle.er_history.specs.Kinds.{is_job_within}
use Rattle.er_history.specs.LookUps.{maker_of_timeout, maker_of_interval}
use Rattle.er_history.specs.Rules.{made_by, is_some_and}
use Rattle.er_history.specs.Tasks.{TaskKind, OfMessage, OfAnim, OfJob, task_made}

-- the number of the task of the kind whose event it is, with what declared it
abbrev pub run_of : TaskKind → What → Option (ℕ × Option Task)
run_of OfMessage (MessageRun m made) = Some (m, made)
run_of OfMessage _ = None
run_of OfAnim (AnimRun a made) = Some (a, made)
run_of OfAnim _ = None
run_of OfJob (JobRun j made within) = Some (j, made)
run_of OfJob _ = None

-- it is one that passes
abbrev pub run_passes : (Task → Bool) → Option (ℕ × Option Task) → Bool
run_passes test None = false
run_passes test (Some p) = is_some_and test p.1

-- the event of a task of the kind that passes
abbrev pub is_task : TaskKind → (Task → Bool) → Event → Bool
is_task kind test u = run_passes test (run_of kind u.what)

-- the second was declared before the first, in a piece from which a path leads to that of the first
abbrev pub declared_first : (ℕ → ℕ → Bool) → Task → Task → Bool
declared_first joined y x = nat_lt x.place y.place && joined x.piece y.piece

-- a task of the kind that was declared so before this one
abbrev pub is_earlier : (ℕ → ℕ → Bool) → TaskKind → Option Task → Event → Bool
is_earlier joined kind None u = false
is_earlier joined kind (Some y) u = is_task kind (declared_first joined y) u

-- a job that the event queued
abbrev pub is_job_of : Option ℕ → Event → Bool
is_job_of None u = false
is_job_of (Some m) u = is_task OfJob (λ (x : Task). x.maker == m) u

abbrev pub maker_of : Option Task → Option ℕ
maker_of None = None
maker_of (Some x) = Some x.maker

-- what declared the task, and the tasks of its kind before it
abbrev pub comes_before : (ℕ → ℕ → Bool) → TaskKind → Option Task → Event → Bool
comes_before joined kind made u = made_by (maker_of made) u || is_earlier joined kind made u

-- Before a message or an animation callback come besides the jobs of the event that declared it,
-- and before a timeout and a tick these alone; before a close the jobs that began while the
-- dispatch was on the stack.
abbrev pub due : (ℕ → ℕ → Bool) → List Record → Record → Event → Bool
due joined h (records.Message m) u = comes_before joined OfMessage (task_made OfMessage h m) u
    || is_job_of (maker_of (task_made OfMessage h m)) u
due joined h (records.Anim a) u = comes_before joined OfAnim (task_made OfAnim h a) u
    || is_job_of (maker_of (task_made OfAnim h a)) u
due joined h (records.Job j) u = comes_before joined OfJob (task_made OfJob h j) u
due joined h (records.Timer t) u = is_job_of (maker_of_timeout h t) u
due joined h (records.Tick i) u = is_job_of (maker_of_interval h i) u
due joined h (records.Close p) u = is_job_within p u
due joined h _ u = false
