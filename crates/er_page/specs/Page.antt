-- What a page stands for. Lists of records stand newest first.
use Rattle.std.specs.Prelude.{◌≡◌, ℕ, ◌<◌, List, length, Some, None}
use Rattle.er_trace.specs.declared.record.Record.{Record}
use Rattle.er_history.specs.History.{told}
use Rattle.er_history.specs.LookUps.{event_of}
use Rattle.er_history.specs.Naming.{naming, room}
use Rattle.er_claims.specs.Claimed.{ClaimedAre}
use Rattle.er_tasks.specs.Tasks.{TasksAre}
use Rattle.er_latest.specs.Latest.{LatestAre}
use Rattle.er_page.specs.declared.page.Page.{Page}
use Rattle.er_page.specs.Accepted.{IsAccepted}
use Rattle.er_page.specs.Pieces.{PiecesAre}
use Rattle.er_page.specs.Stack.{StackIs}
use Rattle.er_page.specs.Within.{WithinIs}

-- the list is accepted, and all that the page keeps answers what the list says
pub record IsPage (page : Page) (h : List Record) : Type 0 where
  pub claimed : ClaimedAre page.claimed h
  pub tasks : TasksAre page.tasks h
  pub stack : StackIs page.stack h
  pub pieces : PiecesAre page.pieces h
  pub latest : LatestAre page.latest (told h).actions
  pub within : WithinIs page.within h
  pub accepted : IsAccepted h

-- for every list that the page stands for, the answer is what is said of the list
abbrev pub Answers : {A : Type 0} → Page → (List Record → A) → A → Type 0
Answers page said answer = (h : List Record) → IsPage page h → answer ≡ said h

-- it stands for some list
pub record IsSomePage (page : Page) : Type 0 where
  pub list : List Record
  pub stands : IsPage page list

-- naming and room accept the record after the list
abbrev pub IsNextOf : List Record → Record → Type 0
IsNextOf h x = (naming h x ≡ None) × (room h x ≡ None)

-- it stands for some list, after which the record is accepted
pub record IsNext (page : Page) (x : Record) : Type 0 where
  pub list : List Record
  pub stands : IsPage page list
  pub named : naming list x ≡ None
  pub fits : room list x ≡ None

-- it stands for some list in which the action has begun
pub record HasBegun (page : Page) (action : ℕ) : Type 0 where
  pub list : List Record
  pub stands : IsPage page list
  pub begun : action < length (told list).actions

-- it stands for some list in which this is the number of an event
pub record HasEvent (page : Page) (event : ℕ) : Type 0 where
  pub list : List Record
  pub stands : IsPage page list
  pub first : event_of list event ≡ Some event
