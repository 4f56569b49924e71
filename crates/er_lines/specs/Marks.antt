-- The place where a line begins, as a feed keeps it: by the number of the records before it.
use Rattle.std.specs.Prelude.{◌≡◌, ℕ, ◌+◌, ◌<◌, ◌≤◌, length, Option, Some, None}
use Rattle.er_text.specs.declared.causes.Cause.{Cause}
use Rattle.er_text.specs.declared.causes.Cause.TheVariants.{AfterEnd, TooManyLines}
use Rattle.er_trace.specs.declared.version.Version.{Version}
use Rattle.er_trace.specs.Trace.{most_lines}
use Rattle.er_lines.specs.Lines.{Place, Start, After, Ended}
use Rattle.er_lines.specs.declared.mark.Mark.{Mark}
use Rattle.er_lines.specs.declared.mark.Mark.TheVariants as marks

abbrev pub mark_of : Place → Mark
mark_of Start = marks.Start
mark_of (After v records) = marks.After v (length records)
mark_of (Ended v records) = marks.Ended v (length records)

-- the number of the line
abbrev pub number_at : Mark → ℕ
number_at marks.Start = 1
number_at (marks.After v n) = n + 2
number_at (marks.Ended v n) = n + 3

-- the number of records before it
abbrev pub records_at : Mark → ℕ
records_at marks.Start = 0
records_at (marks.After v n) = n
records_at (marks.Ended v n) = n

-- the version that the first line gave
abbrev pub version_at : Mark → Option Version
version_at marks.Start = None
version_at (marks.After v n) = Some v
version_at (marks.Ended v n) = Some v

-- a line may stand there
abbrev pub IsOpen : Mark → Type 0
IsOpen marks.Start = Unit {0}
IsOpen (marks.After v n) = n + 2 ≤ most_lines
IsOpen (marks.Ended v n) = ⊥

-- no byte may stand there, for that cause
abbrev pub IsClosed : Mark → Cause → Type 0
IsClosed marks.Start c = ⊥
IsClosed (marks.After v n) c = (most_lines < n + 2) × (c ≡ TooManyLines)
IsClosed (marks.Ended v n) c = c ≡ AfterEnd
