-- The name of each cause of a refusal.
use Rattle.std.specs.Prelude.{ℕ, List, codes}
use Rattle.er_text.specs.declared.causes.Cause.{Cause}
use Rattle.er_text.specs.declared.causes.Cause.TheVariants.{BadHeader, LongLine, BadRecord, NoEnd, AfterEnd, TooManyLines, Unknown, Again, NotScript, Misplaced, OutOfOrder, TooManyActions, TooDeep, TooManyAccesses, TooManyPairs, TooManyRaces, TooManyClasses, NoRace, NoAction}

abbrev pub cause_name : Cause → List ℕ
cause_name BadHeader = codes "bad-header"
cause_name LongLine = codes "long-line"
cause_name BadRecord = codes "bad-record"
cause_name NoEnd = codes "no-end"
cause_name AfterEnd = codes "after-end"
cause_name TooManyLines = codes "too-many-lines"
cause_name Unknown = codes "unknown"
cause_name Again = codes "again"
cause_name NotScript = codes "not-script"
cause_name Misplaced = codes "misplaced"
cause_name OutOfOrder = codes "out-of-order"
cause_name TooManyActions = codes "too-many-actions"
cause_name TooDeep = codes "too-deep"
cause_name TooManyAccesses = codes "too-many-accesses"
cause_name TooManyPairs = codes "too-many-pairs"
cause_name TooManyRaces = codes "too-many-races"
cause_name TooManyClasses = codes "too-many-classes"
cause_name NoRace = codes "no-race"
cause_name NoAction = codes "no-action"
