-- Which lists of records a page takes. Lists of records stand newest first.
use Rattle.std.specs.Prelude.{◌≡◌, List, [], ◌∷◌, Option, Some, None, Result, Ok, Err}
use Rattle.er_text.specs.declared.causes.Cause.{Cause}
use Rattle.er_trace.specs.declared.record.Record.{Record}
use Rattle.er_history.specs.Naming.{naming, room, IsNamed}

-- naming and the limits refuse no record after those before it
abbrev pub IsAccepted : List Record → Type 0
IsAccepted [] = Unit {0}
IsAccepted (x ∷ h) = (naming h x ≡ None) × (room h x ≡ None) × IsAccepted h

abbrev pub result_of : Option Cause → Result (Unit {0}) Cause
result_of None = Ok tt
result_of (Some c) = Err c

-- Naming refuses no record of an accepted list.
abbrev pub AcceptedListsAreNamed : Type 0
AcceptedListsAreNamed = (h : List Record) → IsAccepted h → IsNamed h
