-- What a page says of one record, and what it stands for afterwards. Lists of records
-- stand newest first.
use Rattle.std.specs.Prelude.{◌≡◌, List, ◌∷◌, Option, Some, None}
use Rattle.std.specs.Option.{option_or}
use Rattle.er_text.specs.declared.causes.Cause.{Cause}
use Rattle.er_trace.specs.declared.record.Record.{Record}
use Rattle.er_history.specs.Naming.{naming, room}
use Rattle.er_page.specs.declared.page.Page.{Page}
use Rattle.er_page.specs.Page.{IsPage}

-- the first cause against the record: naming and nesting come before the limits
abbrev pub cause_of : List Record → Record → Option Cause
cause_of h x = option_or (naming h x) (room h x)

-- a refused record is left out
abbrev pub list_after : Option Cause → List Record → Record → List Record
list_after None h x = x ∷ h
list_after (Some cause) h x = h

-- the answer is the first cause against the record, and the page then stands for the list after it
pub record HasTaken (page : Page) (x : Record) (cause : Option Cause)
    (h : List Record) : Type 0 where
  pub said : cause ≡ cause_of h x
  pub stands : IsPage page (list_after cause h x)
