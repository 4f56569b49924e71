-- Tasks that have begun, in the order in which they began, and what is handed of them.
use Rattle.std.specs.Prelude.{◌≡◌, ℕ, ◌<◌, ◌≤◌, Bool, true, false, ◌&&◌, nat_lt, List, ◌++◌, length, filter, drop, get_or, Option, Some, None, IfSome}
use Rattle.std.specs.List.{list_any}
use Rattle.er_paths.specs.Paths.{is_among}
use Rattle.er_history.specs.History.{Action}
use Rattle.er_history.specs.Laws.{Among}
use Rattle.er_tasks.specs.declared.tasks.Task.{Task}
use Rattle.er_tasks.specs.declared.tasks.BegunTask.{BegunTask}
use Rattle.er_path_rules.specs.declared.task.before.Asked.{Asked}
use Rattle.er_path_rules.specs.declared.task.before.Asked.TheVariants.{Before, Nothing}
use Rattle.er_path_rules.specs.declared.task.before.Walk.{Walk}

abbrev pub event_in : BegunTask → ℕ
event_in x = x.event

-- the first was declared before the second, in a piece from which a path leads to that of
-- the second
abbrev pub goes_before : (ℕ → ℕ → Bool) → Task → Task → Bool
goes_before joined x y = nat_lt x.rank y.rank && joined x.piece y.piece

abbrev pub passes : (ℕ → ℕ → Bool) → Asked → Task → Bool
passes joined (Before y) x = goes_before joined x y
passes joined Nothing x = true

abbrev pub is_covered : (ℕ → ℕ → Bool) → Task → Option Task → Bool
is_covered joined x None = false
is_covered joined x (Some y) = goes_before joined x y

-- the task stands at this place
abbrev pub StandsAt : List BegunTask → ℕ → BegunTask → Type 0
StandsAt begun i x = (i < length begun) × (get_or begun i x ≡ x)

-- Of two of these tasks of which the first goes before the other, each piece of the first has a
-- path to each piece of the other; and each has a piece, and was declared in an action.
pub record AreJoined (joined : ℕ → ℕ → Bool) (actions : List Action)
    (begun : List BegunTask) : Type 0 where
  pub declared : (i : ℕ) (x : BegunTask) → StandsAt begun i x
      → joined x.task.piece x.task.piece ≡ true
  pub piece : (i : ℕ) (x : BegunTask) → StandsAt begun i x
      → (a : Action) × Among a actions × (a.event.number ≡ x.event)
  pub join : (i j : ℕ) (x y : BegunTask) → i < j → StandsAt begun i x → StandsAt begun j y
      → goes_before joined x.task y.task ≡ true
      → (a b : Action) → Among a actions → Among b actions → a.event.number ≡ x.event
      → b.event.number ≡ y.event → joined a.number b.number ≡ true

-- each piece of the event has a path to one of these
abbrev pub IsReached : (ℕ → ℕ → Bool) → List Action → List ℕ → ℕ → Type 0
IsReached joined actions handed u = (a : Action) → Among a actions → a.event.number ≡ u
    → list_any (λ k. joined a.number k) handed ≡ true

-- the number is a piece of one of these tasks, which is as asked
pub record IsPieceOf (joined : ℕ → ℕ → Bool) (actions : List Action) (asked : Asked)
    (begun : List BegunTask) (k : ℕ) : Type 0 where
  pub place : ℕ
  pub task : BegunTask
  pub there : StandsAt begun place task
  pub is_asked : passes joined asked task.task ≡ true
  pub action : Action
  pub among : Among action actions
  pub number : action.number ≡ k
  pub event : action.event.number ≡ task.event

-- so many are as asked from this place on
abbrev pub asked_from : (ℕ → ℕ → Bool) → Asked → List BegunTask → ℕ → ℕ
asked_from joined asked begun left =
    length (filter (λ (x : BegunTask). passes joined asked x.task) (drop left begun))

-- numbers have grown by pieces of tasks that are as asked, and by no more than there are such tasks
-- from this place on
pub record HandsSomeOf (joined : ℕ → ℕ → Bool) (actions : List Action) (asked : Asked)
    (begun : List BegunTask) (left : ℕ) (old new : List ℕ) : Type 0 where
  pub handed : List ℕ
  pub grown : new ≡ old ++ handed
  pub pieces : (k : ℕ) → is_among k handed ≡ true → IsPieceOf joined actions asked begun k
  pub few : length handed ≤ asked_from joined asked begun left

-- and each piece of one of those has a path to one of the numbers
pub record HandsOf (joined : ℕ → ℕ → Bool) (actions : List Action) (asked : Asked)
    (begun : List BegunTask) (left : ℕ) (old new : List ℕ) : Type 0 where
  pub some : HandsSomeOf joined actions asked begun left old new
  pub enough : (j : ℕ) (x : BegunTask) → left ≤ j → StandsAt begun j x
      → passes joined asked x.task ≡ true → IsReached joined actions some.handed x.event

-- it is one of the tasks from this place on, and its pieces have such paths
pub record IsHanded (joined : ℕ → ℕ → Bool) (actions : List Action) (begun : List BegunTask)
    (left : ℕ) (handed : List ℕ) (task : Task) : Type 0 where
  pub place : ℕ
  pub found : BegunTask
  pub behind : left ≤ place
  pub there : StandsAt begun place found
  pub is : found.task ≡ task
  pub reached : IsReached joined actions handed found.event

-- the walk has come so far
pub record IsWalk (joined : ℕ → ℕ → Bool) (actions : List Action) (asked : Asked)
    (begun : List BegunTask) (walk : Walk) (old new : List ℕ) : Type 0 where
  pub hands : HandsOf joined actions asked begun walk.left old new
  pub last : IfSome walk.handed (IsHanded joined actions begun walk.left hands.some.handed)

-- from wherever it began, it goes on so
abbrev pub WalksOn : (ℕ → ℕ → Bool) → List Action → Asked → List BegunTask → Walk → Walk → List ℕ
    → List ℕ → Type 0
WalksOn joined actions asked begun walk next old new = (start : List ℕ)
    → IsWalk joined actions asked begun walk start old
    → IsWalk joined actions asked begun next start new
