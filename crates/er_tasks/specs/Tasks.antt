-- What the tables of messages, animation callbacks and jobs stand for. Lists of records stand
-- newest first.
use Rattle.std.specs.Prelude.{◌≡◌, ℕ, ◌==◌, Bool, true, false, if◌then◌else◌, List, [], ◌∷◌, length, Option, Some, None, is_some, option_map, map}
use Rattle.std.specs.List.{list_any}
use Rattle.er_numbers.specs.Numbers.{found, HasRoomWhere}
use Rattle.er_trace.specs.declared.record.Record.{Record}
use Rattle.er_trace.specs.Versions.{is_of_task}
use Rattle.er_history.specs.History as history
use Rattle.er_history.specs.History.{told, makes_task, Action}
use Rattle.er_history.specs.LookUps.{jobs_queued}
use Rattle.er_history.specs.Naming as naming
use Rattle.er_history.specs.Tasks.{TaskKind, OfMessage, OfAnim, OfJob, declares_task, starts_task, task_started, task_made, task_place, tasks_begun, queued_jobs}
use Rattle.er_history.specs.Found.{MakersAre, IsRanked, entry_of}
use Rattle.er_history.specs.Noted.{is_number, noted_in}
use Rattle.er_tasks.specs.declared.begun.Started.{Started}
use Rattle.er_tasks.specs.declared.tasks.BegunTask.{BegunTask}
use Rattle.er_tasks.specs.declared.tasks.Task.{Task}
use Rattle.er_tasks.specs.declared.queued.Queued.{Queued}
use Rattle.er_tasks.specs.declared.table.TaskTable.{TaskTable}
use Rattle.er_tasks.specs.declared.tasks.Tasks.{Tasks}
use Rattle.er_tasks.specs.Begun.{AreBegun, HasPlace, HasPlaceFor, listed_at, tasks_at, task_number}

-- what declared a task, but for the place of the record
pub record Declared : Type 0 where
  pub maker : ℕ
  pub piece : ℕ

abbrev pub declared_of : Task → Declared
declared_of x = record { maker = x.maker; piece = x.piece }

abbrev pub declared : history.Task → Declared
declared x = record { maker = x.maker; piece = x.piece }

abbrev pub task_rank : Task → ℕ
task_rank x = x.rank

-- under each number stands what the first record that declares it says
pub record TasksDeclared (kind : TaskKind) (found : ℕ → Option Task)
    (h : List Record) : Type 0 where
  pub made : (k : ℕ) → option_map declared_of (found k) ≡ option_map declared (task_made kind h k)
  pub known : (k : ℕ) → is_some (found k) ≡ list_any (declares_task kind k) h

-- the pair is the task that the record declares where this action runs, but for its place
pub record TaskGiven (kind : TaskKind) (pair : Option (ℕ × Task)) (x : Record)
    (a : Action) : Type 0 where
  pub placed : (k place : ℕ)
      → option_map (λ (t : history.Task). t.place)
      (makes_task (declares_task kind k) (entry_of x place a))
      ≡ option_map (λ (t : Task). place) (noted_in k pair)
  pub made : (k place : ℕ)
      → option_map declared_of (noted_in k pair)
      ≡ option_map declared (makes_task (declares_task kind k) (entry_of x place a))
  pub known : (k : ℕ) → is_some (noted_in k pair) ≡ declares_task kind k x

-- tasks of a kind are ranked in the order of the places of their records
abbrev pub TasksAreRanked : TaskKind → (ℕ → Option Task) → ℕ → List Record → Type 0
TasksAreRanked kind found count h =
    IsRanked (λ k. option_map task_rank (found k)) (task_place kind h) count
    (length (told h).entries)

-- the tables of a kind of tasks answer what the list says
pub record TaskTableIs (kind : TaskKind) (table : TaskTable) (h : List Record) : Type 0 where
  pub made : TasksDeclared kind (found table.declared) h
  pub ranked : TasksAreRanked kind (found table.declared) table.declared.count h
  pub events : MakersAre (starts_task kind) (found table.started) h
  pub numbers : table.begun.listed.items ≡ tasks_begun kind h
  pub same : map task_number table.begun.tasks.items ≡ tasks_begun kind h
  pub begun :
      AreBegun (found table.declared) (found table.started) table.begun.tasks.items

-- the record declares the one number and begins the event of the other, if there are such
abbrev pub IsNoted : TaskKind → Record → Option ℕ → Option ℕ → Type 0
IsNoted kind x posted begun =
    ((k : ℕ) → is_number k posted ≡ declares_task kind k x) × (begun ≡ task_started kind x)

-- they have room to note the one task declared and the event of the other begun, if there are such
abbrev pub HaveRoomOf : TaskTable → Option ℕ → Option ℕ → Type 0
HaveRoomOf table posted begun = HasRoomWhere table.declared (λ k. is_number k posted)
    × HasRoomWhere table.started (λ k. is_number k begun)
    × HasPlace table.begun

-- they have room for what the record declares and begins of the kind
abbrev pub HaveRoom : TaskKind → TaskTable → Record → Type 0
HaveRoom kind table x = HasRoomWhere table.declared (λ k. declares_task kind k x)
    × HasRoomWhere table.started (λ k. is_number k (task_started kind x))
    × HasPlace table.begun

-- a number with the task of it that is found
abbrev pub with_task : (ℕ → Option Task) → Option ℕ → Option (ℕ × Task)
with_task found None = None
with_task found (Some n) = option_map (λ (x : Task). (n, x)) (found n)

abbrev pub numbers_in : Option (ℕ × Task) → List ℕ
numbers_in None = []
numbers_in (Some p) = p.0 ∷ []

abbrev pub task_of : Started → ℕ × Task
task_of x = (x.number, x.task)

-- the jobs that have begun, by the events that queued them
pub record QueuedAre (queued : Queued) (h : List Record) : Type 0 where
  pub events : (u : ℕ) → listed_at queued u ≡ jobs_queued h u
  pub same : (u : ℕ) → map task_number (tasks_at queued u) ≡ queued_jobs h u

-- the event that queued the job whose event the record begins
abbrev pub queuer_of : (ℕ → Option Task) → Record → Option ℕ
queuer_of found x =
    option_map (λ (p : ℕ × Task). p.1.maker) (with_task found (task_started OfJob x))

-- what is said of a job, where this event queued it
abbrev pub under : {X : Type 0} → ℕ → Task → X → List X
under u task x = if task.maker == u then x ∷ [] else []

-- the event, or the number of the job

abbrev pub event_under : ℕ → Option Started → ℕ → List ℕ
event_under u None event = []
event_under u (Some x) event = under u x.task event

abbrev pub number_under : ℕ → Option Started → List ℕ
number_under u None = []
number_under u (Some x) = under u x.task x.number

-- what declared the task, and its event, are those that are found under its number
abbrev pub IsStarted : (ℕ → Option Task) → (ℕ → Option ℕ) → Started → Type 0
IsStarted found started x = (found x.number ≡ Some x.task) × (started x.number ≡ Some x.event)

-- the tables of all kinds answer what the list says
pub record TasksAre (tasks : Tasks) (h : List Record) : Type 0 where
  pub messages : TaskTableIs OfMessage tasks.messages h
  pub anims : TaskTableIs OfAnim tasks.anims h
  pub jobs : TaskTableIs OfJob tasks.jobs h
  pub queued : QueuedAre tasks.queued h
  pub begun : (u : ℕ)
      → AreBegun (found tasks.jobs.declared) (found tasks.jobs.started)
      (tasks_at tasks.queued u)

-- there is room for what the record declares and begins of each kind, and in its queuer's list for
-- the job that it begins
pub record HaveRoomFor (tasks : Tasks) (x : Record) : Type 0 where
  pub messages : HaveRoom OfMessage tasks.messages x
  pub anims : HaveRoom OfAnim tasks.anims x
  pub jobs : HaveRoom OfJob tasks.jobs x
  pub queued : HasPlaceFor tasks.queued (queuer_of (found tasks.jobs.declared) x)

-- the same, asked only where the record declares or begins a task
abbrev pub HaveRoomIfTask : Tasks → Record → Type 0
HaveRoomIfTask tasks x = is_of_task x ≡ true → HaveRoomFor tasks x

-- the table of a kind
abbrev pub table_of : TaskKind → Tasks → TaskTable
table_of OfMessage tasks = tasks.messages
table_of OfAnim tasks = tasks.anims
table_of OfJob tasks = tasks.jobs

-- what declared the task of this number
abbrev pub task_at : TaskKind → Tasks → ℕ → Option Task
task_at kind tasks number = found (table_of kind tasks).declared number

-- these have begun, each as the tables have it, and they stand in runs
abbrev pub HaveBegun : TaskKind → Tasks → List BegunTask → Type 0
HaveBegun kind tasks begun =
    AreBegun (found (table_of kind tasks).declared) (found (table_of kind tasks).started)
    begun

-- What naming asks of records that declare or begin a task, and of no other.

abbrev pub unknown_task : List Record → Record → Bool
unknown_task h x = if is_of_task x then naming.unknown h x else false

abbrev pub task_again : List Record → Record → Bool
task_again h x = if is_of_task x then naming.again h x else false

-- for every list that the tasks stand for, the result is what is said of the list
abbrev pub Answers : {A : Type 0} → Tasks → (List Record → A) → A → Type 0
Answers tasks said result = (h : List Record) → TasksAre tasks h → result ≡ said h
