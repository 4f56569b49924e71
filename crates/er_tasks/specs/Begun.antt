-- What lists keep of the tasks whose events have begun.
use Rattle.std.specs.Prelude.{◌≡◌, ℕ, ◌<◌, ◌≤◌, List, [], length, get_or, Option, Some, None, IsSomeAnd, nat_eq, vec_len, vec_capacity}
use Rattle.std.specs.List.{All}
use Rattle.indexmap.specs.IndexMap.{get}
use Rattle.er_tasks.specs.declared.tasks.Task.{Task}
use Rattle.er_tasks.specs.declared.tasks.BegunTask.{BegunTask}
use Rattle.er_tasks.specs.declared.begun.Begun.{Begun}
use Rattle.er_tasks.specs.declared.queued.Queued.{Queued}

abbrev pub task_number : BegunTask → ℕ
task_number x = x.number

-- what declared the task, and its event, are those that are found under its number
abbrev pub IsBegun : (ℕ → Option Task) → (ℕ → Option ℕ) → BegunTask → Type 0
IsBegun found started x = (found x.number ≡ Some x.task) × (started x.number ≡ Some x.event)

-- the second task was declared in the piece of the first, behind it
abbrev pub GoesOn : Task → Task → Type 0
GoesOn x y = (x.piece ≡ y.piece) × (x.rank < y.rank)

-- the task goes on behind all from that place on
pub record IsRunTo (xs : List BegunTask) (task : Task) (place : ℕ) : Type 0 where
  pub within : place ≤ length xs
  pub each : (j : ℕ) (d : BegunTask) → place ≤ j → j < length xs → GoesOn (get_or xs j d).task task

-- each goes on behind all before it from the place of its run on
pub record AreRuns (xs : List BegunTask) : Type 0 where
  pub within : (i : ℕ) (d : BegunTask) → i < length xs → (get_or xs i d).run ≤ i
  pub each : (i j : ℕ) (d : BegunTask) → i < length xs → (get_or xs i d).run ≤ j → j < i
      → GoesOn (get_or xs j d).task (get_or xs i d).task

-- each is as it is found, and they stand in runs
pub record AreBegun (found : ℕ → Option Task) (started : ℕ → Option ℕ)
    (tasks : List BegunTask) : Type 0 where
  pub each : All (IsBegun found started) tasks
  pub runs : AreRuns tasks

-- the lists have room for one task more
abbrev pub HasPlace : Begun → Type 0
HasPlace begun = (vec_len begun.listed < vec_capacity begun.listed)
    × (vec_len begun.tasks < vec_capacity begun.tasks)

-- by the event that queued them; no list is as an empty one

abbrev pub listed_of : Option Begun → List ℕ
listed_of None = []
listed_of (Some begun) = begun.listed.items

abbrev pub tasks_of : Option Begun → List BegunTask
tasks_of None = []
tasks_of (Some begun) = begun.tasks.items

abbrev pub listed_at : Queued → ℕ → List ℕ
listed_at queued u = listed_of (get nat_eq queued.lists u)

abbrev pub tasks_at : Queued → ℕ → List BegunTask
tasks_at queued u = tasks_of (get nat_eq queued.lists u)

-- the list of this event has room
abbrev pub ListHasPlace : Queued → ℕ → Type 0
ListHasPlace queued u = IsSomeAnd (get nat_eq queued.lists u) HasPlace

-- that of the event, if there is one
abbrev pub HasPlaceFor : Queued → Option ℕ → Type 0
HasPlaceFor queued None = Unit {0}
HasPlaceFor queued (Some u) = ListHasPlace queued u
