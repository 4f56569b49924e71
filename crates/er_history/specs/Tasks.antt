-- Messages, animation callbacks and jobs: tasks of three kinds. Lists of records stand newest
-- first; a list of tasks that have begun stands oldest first.
use Rattle.std.specs.Prelude.{ℕ, Bool, ◌==◌, if◌then◌else◌, List, [], ◌∷◌, ◌++◌, option_map, Option, Some, None}
use Rattle.er_trace.specs.declared.record.Record.{Record}
use Rattle.er_trace.specs.Signature.{Claims, StartsMessage, StartsAnim, StartsJob, claims}
use Rattle.er_history.specs.History.{Task, told, first_to, maker_by, makes_task, posts_message, asks_for_anim, queues_job}
use Rattle.er_history.specs.Naming.{begins_message, begins_anim, begins_job}

pub data TaskKind : Type 0 where
  OfMessage : TaskKind
  OfAnim : TaskKind
  OfJob : TaskKind

-- the record declares the task of this number
abbrev pub declares_task : TaskKind → ℕ → Record → Bool
declares_task OfMessage = posts_message
declares_task OfAnim = asks_for_anim
declares_task OfJob = queues_job

-- the record begins its event
abbrev pub starts_task : TaskKind → ℕ → Record → Bool
starts_task OfMessage = begins_message
starts_task OfAnim = begins_anim
starts_task OfJob = begins_job

-- the number of the task whose event the record begins
abbrev pub task_started : TaskKind → Record → Option ℕ
task_started kind x = by kind (claims x)
  where
    by : TaskKind → Claims → Option ℕ
    by OfMessage (StartsMessage m) = Some m
    by OfMessage _ = None
    by OfAnim (StartsAnim a) = Some a
    by OfAnim _ = None
    by OfJob (StartsJob j) = Some j
    by OfJob _ = None

-- the task of this number
abbrev pub task_made : TaskKind → List Record → ℕ → Option Task
task_made kind h number = first_to (makes_task (declares_task kind number)) (told h).entries

-- the piece that declared it
abbrev pub task_piece : TaskKind → List Record → ℕ → Option ℕ
task_piece kind h number = option_map (λ (x : Task). x.piece) (task_made kind h number)

-- the event that it is
abbrev pub task_event : TaskKind → List Record → ℕ → Option ℕ
task_event kind h number = maker_by (starts_task kind number) (told h).entries

-- the place of the record that declared it
abbrev pub task_place : TaskKind → List Record → ℕ → Option ℕ
task_place kind h number = option_map (λ (x : Task). x.place) (task_made kind h number)

-- the number, where a task of it is declared
abbrev pub if_made : ℕ → Option Task → List ℕ
if_made number None = []
if_made number (Some made) = number ∷ []

-- the task whose event the record begins, where one is declared
abbrev pub started_by : TaskKind → List Record → Record → List ℕ
started_by kind h x = of (task_started kind x)
  where
    of : Option ℕ → List ℕ
    of None = []
    of (Some number) = if_made number (task_made kind h number)

-- the tasks whose events have begun, in order
abbrev pub tasks_begun : TaskKind → List Record → List ℕ
tasks_begun kind [] = []
tasks_begun kind (x ∷ h) = tasks_begun kind h ++ started_by kind h x

-- the number, where this event queued the job of it
abbrev pub if_queued : ℕ → ℕ → Option Task → List ℕ
if_queued u number None = []
if_queued u number (Some made) = if made.maker == u then number ∷ [] else []

-- the job whose event the record begins, where this event queued it
abbrev pub queued_by : List Record → ℕ → Record → List ℕ
queued_by h u x = of (task_started OfJob x)
  where
    of : Option ℕ → List ℕ
    of None = []
    of (Some number) = if_queued u number (task_made OfJob h number)

-- the jobs queued in the event whose events have begun, in order
abbrev pub queued_jobs : List Record → ℕ → List ℕ
queued_jobs [] u = []
queued_jobs (x ∷ h) u = queued_jobs h u ++ queued_by h u x
