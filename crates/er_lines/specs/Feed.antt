-- What is kept of the bytes that were fed. Records stand oldest first.
use Rattle.std.specs.Prelude.{◌≡◌, ◌≢◌, ℕ, ◌+◌, ◌≤◌, List, [], ◌++◌, Option, MatchOption}
use Rattle.er_text.specs.declared.causes.Cause.{Cause}
use Rattle.er_text.specs.declared.causes.Cause.TheVariants.{NoEnd}
use Rattle.er_trace.specs.declared.record.Record.{Record}
use Rattle.er_trace.specs.declared.fault.FeedFault.{FeedFault}
use Rattle.er_trace.specs.declared.fault.FeedFault.TheVariants.{Refused, NoMemory}
use Rattle.er_trace.specs.Trace.{most_lines}
use Rattle.er_lines.specs.declared.mark.Mark.{Mark}
use Rattle.er_lines.specs.Format.{Format}
use Rattle.er_lines.specs.Lines.{Place, Start, After, Ended, line_number, records_before, AreBefore, LineCause, ReadsUntil, ReadsPart}
use Rattle.er_lines.specs.Marks.{mark_of}

-- The line that begins there is not at its end yet: no byte stands behind the last line, and a line
-- elsewhere has no cause but `no-end`.
abbrev pub IsUnfinished : Format → Place → List ℕ → Type 0
IsUnfinished f Start line = LineCause f Start line NoEnd
IsUnfinished f (After v records) line = LineCause f (After v records) line NoEnd
IsUnfinished f (Ended v records) line = line ≡ []

-- the line that begins there is refused, and for another cause than `no-end`
abbrev pub IsRefusedAt : Format → Place → List ℕ → FeedFault → Type 0
IsRefusedAt f place rest (Refused n c) =
    (n ≡ line_number place) × LineCause f place rest c × (c ≢ NoEnd)
IsRefusedAt f place rest NoMemory = ⊥

-- The bytes are the lines before the place of the mark, and a line that is not at its end yet and
-- is kept, or that is refused for the fault.
pub record Stands (f : Format) (mark : Mark) (line : List ℕ) (fault : Option FeedFault)
    (bytes : List ℕ) (records : List Record) : Type 0 where
  pub place : Place
  pub before : List ℕ
  pub rest : List ℕ
  pub are : AreBefore f place before
  pub few : line_number place ≤ most_lines + 1
  pub begins : bytes ≡ before ++ rest
  pub marked : mark ≡ mark_of place
  pub records_are : records ≡ records_before place
  pub kept : MatchOption fault (IsUnfinished f place rest × (line ≡ rest))
      (IsRefusedAt f place rest)

-- more records came to the list, and with them what is kept stands for the bytes
abbrev pub IsFed : Format → Mark → List ℕ → Option FeedFault → List ℕ → List Record → List Record
    → List Record → Type 0
IsFed f mark line fault bytes earlier old new =
    (more : List Record) × Stands f mark line fault bytes (earlier ++ more) × (new ≡ old ++ more)

-- the line of that number has the cause, which is not `no-end`, and more records before it came to
-- the list
abbrev pub IsFedUntil : Format → List ℕ → ℕ → Cause → List Record → List Record → List Record
    → Type 0
IsFedUntil f bytes n c earlier old new = (c ≢ NoEnd)
    × ((more : List Record) × ReadsUntil f bytes n c (earlier ++ more) × (new ≡ old ++ more))

-- more records of lines came to the list
abbrev pub IsFedPart : Format → List ℕ → List Record → List Record → List Record → Type 0
IsFedPart f bytes earlier old new =
    (more : List Record) × ReadsPart f bytes (earlier ++ more) × (new ≡ old ++ more)
