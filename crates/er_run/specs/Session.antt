-- What a session stands for, and what a judgement promises. Lists of records stand newest first.
use Rattle.std.specs.Prelude.{[], ℕ, ◌+◌, Bool, true, false, ◌∷◌, ◌≡◌, ◌≢◌, ◌<◌, ◌≤◌, List, reverse, length, take, slice_get, Option, Some, None}
use Rattle.std.specs.List.{list_all}
use Rattle.er_trace.specs.declared.record.Record.{Record}
use Rattle.er_trace.specs.declared.version.Version.{Version}
use Rattle.er_trace.specs.declared.version.Version.TheVariants.{One}
use Rattle.er_trace.specs.Trace.{most_lines}
use Rattle.er_trace.specs.Versions.{has_record}
use Rattle.er_trace.specs.declared.record.Record.TheVariants.{Access}
use Rattle.er_history.specs.Rules.{rules}
use Rattle.er_graph.specs.Accepted.{Accepted}
use Rattle.er_graph.specs.Graph.{IsGraph}
use Rattle.er_trace.specs.declared.fault.FeedFault.{FeedFault}
use Rattle.er_text.specs.declared.causes.Cause.TheVariants.{TooManyAccesses}
use Rattle.er_trace.specs.declared.fault.FeedFault.TheVariants.{Refused, NoMemory}
use Rattle.er_access.specs.Kept.{Kept, IsFull, most_accesses}
use Rattle.er_run.specs.declared.session.Session.{Session}
use Rattle.er_run.specs.Legal.{IsLegal}
use Rattle.er_run.specs.Legal as legality
use Rattle.er_run.specs.Races.{kept}

-- the records with their lines: the one at place k, counted from 0 in the order of the trace,
-- stands in line k + 2
abbrev pub with_lines : List Record → List Accepted
with_lines [] = []
with_lines (x ∷ h) = record { line = length h + 2; read = x } ∷ with_lines h

-- what it keeps answers what the list says
pub record IsSessionOf (session : Session) (h : List Record) : Type 0 where
  pub graph : IsGraph session.graph (with_lines h)
  pub accesses : session.kept ≡ kept h
  pub count : session.records ≡ length h
  pub legal : IsLegal (rules session.graph.version) h

-- it stands for some list
pub record IsSession (session : Session) : Type 0 where
  pub list : List Record
  pub stands : IsSessionOf session list

-- there is one once the first line was read: before, no record came
abbrev pub HasTaken : Option Session → List Record → Type 0
HasTaken None h = h ≡ []
HasTaken (Some session) h = IsSessionOf session h

-- the version in which it was made
abbrev pub version_of : Option Session → Option Version
version_of None = None
version_of (Some session) = Some session.graph.version

-- that version, or the first one
abbrev pub version_or_first : Option Session → Version
version_or_first None = One
version_or_first (Some session) = session.graph.version

-- where it was made, it is of the version that the first line gives
abbrev pub GoesOnIn : Option Session → Option Version → Type 0
GoesOnIn session given = (v : Version) → version_of session ≡ Some v → given ≡ Some v

-- where no version was given there are no records, and else they are of it
abbrev pub AreGiven : Option Version → List Record → Type 0
AreGiven None records = records ≡ []
AreGiven (Some v) records = list_all (has_record v) records ≡ true

-- it has taken some list, and may take these records in the version that was given
pub record MayTake (session : Option Session) (given : Option Version)
    (records : List Record) : Type 0 where
  pub list : List Record
  pub taken : HasTaken session list
  pub goes_on : GoesOnIn session given
  pub few : length list + length records ≤ most_lines
  pub of_version : AreGiven given records

-- A record after the list is refused for the first cause against it, with its line; or
-- an allocation failed.
abbrev pub IsFaultAfter : Version → List Record → Record → FeedFault → Type 0
IsFaultAfter v h x (Refused line cause) =
    (line ≡ length h + 2) × (legality.cause (rules v) h x ≡ Some cause)
IsFaultAfter v h x NoMemory = Unit {0}

-- The record of the line is the first that has a cause after those before it, which is the one
-- answered; or an allocation failed.
abbrev pub IsFaultOf : Version → List Record → FeedFault → Type 0
IsFaultOf v records (Refused line cause) =
    (at : ℕ) × (line ≡ at + 2) × IsLegal (rules v) (reverse (take at records))
    × ((x : Record) × (slice_get records at ≡ Some x)
    × (legality.cause (rules v) (reverse (take at records)) x ≡ Some cause))
IsFaultOf v records NoMemory = Unit {0}

-- the same in the version that was given
abbrev pub IsFaultIn : Option Version → List Record → FeedFault → Type 0
IsFaultIn None records fault = fault ≡ NoMemory
IsFaultIn (Some v) records fault = IsFaultOf v records fault

-- the new accesses are these; where one came to the old ones, there was room for it
pub record AreKept (old due new : List Kept) : Type 0 where
  pub same : new ≡ due
  pub room : length old < length due → length old ≢ most_accesses

-- The access is refused with its line where there is no room for it; or there is, and
-- an allocation failed.
abbrev pub IsFaultOfRoom : FeedFault → Kept → List Kept → Type 0
IsFaultOfRoom (Refused line cause) x old =
    (line ≡ x.line) × (cause ≡ TooManyAccesses) × IsFull x old
IsFaultOfRoom NoMemory x old = IsFull x old → ⊥

abbrev pub is_access : Record → Bool
is_access (Access m l) = true
is_access _ = false
