-- How what stands for a list of records goes on to stand for it, or takes one record more. Lists of
-- records stand newest first.
use Rattle.std.specs.Prelude.{◌≡◌, ℕ, List, ◌∷◌, Option, Some}
use Rattle.er_trace.specs.declared.record.Record.{Record}
use Rattle.er_history.specs.History.{told, running, actions_after, Action}
use Rattle.er_history.specs.declared.firsts.Now.{Now}

-- the action that runs when the record has been read, and its event
pub record IsNow (h : List Record) (x : Record) (now : Now) : Type 0 where
  pub running_action : Action
  pub runs : running (actions_after (told h) x) ≡ Some running_action
  pub action : now.action ≡ running_action.number
  pub event : now.event ≡ running_action.event.number

-- what stood for a list stands for it still
abbrev pub StillStands : {X : Type 0} → (X → List Record → Type 0) → X → X → Type 0
StillStands Are old new = (h : List Record) → Are old h → Are new h

-- what stood for a list stands for the list with this record, if this action runs after it
abbrev pub Takes : {X : Type 0} → (X → List Record → Type 0) → X → X → Record → Now → Type 0
Takes Are old new x now = (h : List Record) → Are old h → IsNow h x now → Are new (x ∷ h)

-- the same whichever action runs
abbrev pub TakesAny : {X : Type 0} → (X → List Record → Type 0) → X → X → Record → Type 0
TakesAny Are old new x = (h : List Record) → Are old h → Are new (x ∷ h)

-- what was found under a number is found there still
abbrev pub KeepsEach : {X : Type 0} → (ℕ → Option X) → (ℕ → Option X) → Type 0
KeepsEach {X} old new = (k : ℕ) (x : X) → old k ≡ Some x → new k ≡ Some x
