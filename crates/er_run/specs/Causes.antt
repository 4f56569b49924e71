-- The causes of refusals, and the number of each.
use Rattle.std.specs.Prelude.{◌≡◌, ℕ, ◌-◌, ◌≤◌, List, [], ◌∷◌, length, slice_get, Some}
use Rattle.er_text.specs.declared.causes.Cause.{Cause}
use Rattle.er_text.specs.declared.causes.Cause.TheVariants.{BadHeader, LongLine, BadRecord, NoEnd, AfterEnd, TooManyLines, Unknown, Again, NotScript, Misplaced, OutOfOrder, TooManyActions, TooDeep, TooManyAccesses, TooManyPairs, TooManyRaces, TooManyClasses, NoRace, NoAction}

-- the numbers begin at 1
abbrev pub number_of : Cause → ℕ
number_of BadHeader = 1
number_of LongLine = 2
number_of BadRecord = 3
number_of NoEnd = 4
number_of AfterEnd = 5
number_of TooManyLines = 6
number_of Unknown = 7
number_of Again = 8
number_of NotScript = 9
number_of Misplaced = 10
number_of OutOfOrder = 11
number_of TooManyActions = 12
number_of TooDeep = 13
number_of TooManyAccesses = 14
number_of TooManyPairs = 15
number_of TooManyRaces = 16
number_of TooManyClasses = 17
number_of NoRace = 18
number_of NoAction = 19

-- all causes, in the order of their numbers
abbrev pub causes : List Cause
causes = BadHeader ∷ LongLine ∷ BadRecord ∷ NoEnd ∷ AfterEnd ∷ TooManyLines ∷ Unknown ∷ Again ∷
    NotScript ∷ Misplaced ∷ OutOfOrder ∷ TooManyActions ∷ TooDeep ∷ TooManyAccesses ∷ TooManyPairs ∷
    TooManyRaces ∷ TooManyClasses ∷ NoRace ∷ NoAction ∷ []

-- Each cause has a number from 1 to 19, and stands at it in the list: no two have one number.
abbrev pub AreNumbered : Type 0
AreNumbered = (length causes ≡ 19)
    × ((c : Cause) → (1 ≤ number_of c) × (number_of c ≤ 19)
    × (slice_get causes (number_of c - 1) ≡ Some c))
