-- What is handed of a page, by the lists that it stands for. Lists of records stand newest first.
use Rattle.std.specs.Prelude.{◌≡◌, ℕ, true, List, Some}
use Rattle.er_trace.specs.declared.record.Record.{Record}
use Rattle.er_paths.specs.Paths.{is_among}
use Rattle.er_history.specs.History.{History, told}
use Rattle.er_history.specs.LookUps.{event_of}
use Rattle.er_page.specs.declared.page.Page.{Page}
use Rattle.er_page.specs.Page.{IsPage}
use Rattle.er_pieces.specs.Contract.{GrewBy, GrewInPart}

-- it stands for some list in which each of these is the number of an event
pub record HasEvents (page : Page) (events : List ℕ) : Type 0 where
  pub list : List Record
  pub stands : IsPage page list
  pub each : (u : ℕ) → is_among u events ≡ true → event_of list u ≡ Some u

-- for each list that the page stands for, the numbers have grown by what is due
abbrev pub GrewFor : Page → (History → List ℕ) → List ℕ → List ℕ → Type 0
GrewFor page due old new = (h : List Record) → IsPage page h → GrewBy old (due (told h)) new

-- and here by a proper front of it
abbrev pub GrewInPartFor : Page → (History → List ℕ) → List ℕ → List ℕ → Type 0
GrewInPartFor page due old new = (h : List Record) → IsPage page h
    → GrewInPart old (due (told h)) new
