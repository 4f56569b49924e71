-- Each cause has its number.
use Rattle.std.proofs.Common.{◌≡◌, ◌≤◌, ◌-◌, refl, arith, Some}
use Rattle.std.specs.Prelude.{slice_get}
use Rattle.er_text.specs.declared.causes.Cause.{Cause}
use Rattle.er_text.specs.declared.causes.Cause.TheVariants.{BadHeader, LongLine, BadRecord, NoEnd, AfterEnd, TooManyLines, Unknown, Again, NotScript, Misplaced, OutOfOrder, TooManyActions, TooDeep, TooManyAccesses, TooManyPairs, TooManyRaces, TooManyClasses, NoRace, NoAction}
use Rattle.er_run.specs.Causes.{AreNumbered, causes, number_of}

pub are_numbered : AreNumbered
are_numbered = (refl, each)
  where
    each : (c : Cause) → (1 ≤ number_of c) × (number_of c ≤ 19) × (slice_get causes (number_of c - 1) ≡ Some c)
    each BadHeader = (omega arith, omega arith, refl)
    each LongLine = (omega arith, omega arith, refl)
    each BadRecord = (omega arith, omega arith, refl)
    each NoEnd = (omega arith, omega arith, refl)
    each AfterEnd = (omega arith, omega arith, refl)
    each TooManyLines = (omega arith, omega arith, refl)
    each Unknown = (omega arith, omega arith, refl)
    each Again = (omega arith, omega arith, refl)
    each NotScript = (omega arith, omega arith, refl)
    each Misplaced = (omega arith, omega arith, refl)
    each OutOfOrder = (omega arith, omega arith, refl)
    each TooManyActions = (omega arith, omega arith, refl)
    each TooDeep = (omega arith, omega arith, refl)
    each TooManyAccesses = (omega arith, omega arith, refl)
    each TooManyPairs = (omega arith, omega arith, refl)
    each TooManyRaces = (omega arith, omega arith, refl)
    each TooManyClasses = (omega arith, omega arith, refl)
    each NoRace = (omega arith, omega arith, refl)
    each NoAction = (omega arith, omega arith, refl)
