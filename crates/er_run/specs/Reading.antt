-- What is read of a source, chunk by chunk. Lists of records stand oldest first, but for those that
-- a session stands for.
use Rattle.std.specs.Prelude.{◌≡◌, ◌≢◌, ◌⊎◌, ℕ, ◌<◌, ◌≤◌, List, ◌++◌, reverse, length, Option, Some, None, Result, Err, IsErrOf}
use Rattle.er_io.specs.Ends.{Gives, IsSpent, Rose, one_more}
use Rattle.er_text.specs.declared.causes.Cause.{Cause}
use Rattle.er_text.specs.declared.causes.Cause.TheVariants.{NoEnd}
use Rattle.er_trace.specs.declared.record.Record.{Record}
use Rattle.er_trace.specs.declared.version.Version.{Version}
use Rattle.er_trace.specs.declared.fault.FeedFault.{FeedFault}
use Rattle.er_trace.specs.declared.fault.FeedFault.TheVariants as faults
use Rattle.er_lines.specs.declared.mark.Mark.{Mark}
use Rattle.er_lines.specs.Format.{Format}
use Rattle.er_lines.specs.Lines.{Place, line_number, records_before, IsTrace, IsTraceOf, BeginsWith, Refuses}
use Rattle.er_lines.specs.Feed.{Stands}
use Rattle.er_words.specs.declared.commands.Command.{Command}
use Rattle.er_run.specs.declared.input.InputFault.{InputFault}
use Rattle.er_run.specs.declared.input.InputFault.TheVariants.{Failed}
use Rattle.er_run.specs.declared.input.LineRefusal.{LineRefusal}
use Rattle.er_run.specs.declared.session.Session.{Session}
use Rattle.er_run.specs.Answer.{FirstIllegal}
use Rattle.er_run.specs.declared.findings.Judged.{Judged}
use Rattle.er_run.specs.Accepted.{IsAccepted}
use Rattle.er_run.specs.declared.outcome.Outcome.TheVariants.{Refused}
use Rattle.er_run.specs.Promise.{chunk_bytes, IsFinal, IsDecided}
use Rattle.er_run.specs.Session.{HasTaken, version_of, version_or_first}

-- the first line gives no other version
abbrev pub HasNoOtherVersion : Format → Version → List ℕ → Type 0
HasNoOtherVersion f v bytes = (w : Version) → BeginsWith f w bytes → v ≡ w

-- it is the version that the first line gives, where that line was read
abbrev pub IsGiven : Format → Option Version → List ℕ → Type 0
IsGiven f given bytes = ((v : Version) → given ≡ Some v → BeginsWith f v bytes)
    × (given ≡ None → (v : Version) → ¬ BeginsWith f v bytes)

-- the records before the first line that has a cause, with that line; or those of the whole trace
abbrev pub IsReading : Format → Version → List ℕ → List Record → Option LineRefusal → Type 0
IsReading f v bytes records None = IsTrace f v bytes records
IsReading f v bytes records (Some refused) = (place : Place) × Refuses f bytes place refused.cause
    × (refused.line ≡ line_number place) × (records ≡ records_before place)
    × HasNoOtherVersion f v bytes

-- what a feed keeps and the session stand for these bytes and for the records of their whole lines
pub record IsAt (f : Format) (mark : Mark) (kept : List ℕ) (fault : Option FeedFault)
    (session : Option Session) (bytes : List ℕ) (records : List Record) : Type 0 where
  pub fed : Stands f mark kept fault bytes records
  pub taken : HasTaken session (reverse records)
  pub by : IsGiven f (version_of session) bytes

-- they stand for some bytes, and for the records of their whole lines
pub record IsSomewhere (f : Format) (mark : Mark) (kept : List ℕ) (fault : Option FeedFault)
    (session : Option Session) : Type 0 where
  pub bytes : List ℕ
  pub records : List Record
  pub at : IsAt f mark kept fault session bytes records

-- they stand for these bytes, and for more records
abbrev pub GoesOn : Format → Mark → List ℕ → Option FeedFault → Option Session → List ℕ
    → List Record → Type 0
GoesOn f mark kept fault session bytes records =
    (more : List Record) × IsAt f mark kept fault session bytes (records ++ more)

-- as a feed keeps it
abbrev pub fault_of : Option LineRefusal → Option FeedFault
fault_of None = None
fault_of (Some refused) = Some (faults.Refused refused.line refused.cause)

-- a line of the bytes is refused, whatever is asked, which no further byte changes; or
-- an allocation failed
abbrev pub IsFinalFault : Format → List ℕ → FeedFault → Type 0
IsFinalFault f bytes (faults.Refused n c) =
    ((asked : Command) → FirstIllegal f asked bytes n c) × (c ≢ NoEnd)
IsFinalFault f bytes faults.NoMemory = Unit {0}

-- The `end` line was read and nothing after it; or a line is refused, and the source is at its end
-- or no further byte changes that.
abbrev pub IsEnd : Option (List ℕ) → Option LineRefusal → Type 0
IsEnd left None = Unit {0}
IsEnd left (Some refused) = IsSpent left ⊎ (refused.cause ≢ NoEnd)

-- A chunk was read, and the feed and the session represent it too, after the bytes before it.
pub record Advances (f : Format) (left_old left_new : Option (List ℕ)) (mark : Mark)
    (kept : List ℕ) (fault : Option FeedFault) (session : Option Session) (bytes : List ℕ)
    (records : List Record) : Type 0 where
  pub chunk : List ℕ
  pub some : 0 < length chunk
  pub gave : Gives left_old chunk left_new
  pub on : GoesOn f mark kept fault session (bytes ++ chunk) records

-- the bytes are not the trace of these records, as where its `end` line is still to come
abbrev pub IsOpen : Format → List ℕ → List Record → Type 0
IsOpen f bytes records = ¬ IsTraceOf f bytes records

-- With the chunk that was read after these bytes, reading is at its end, and the session represents
-- its records.
pub record Ends (f : Format) (left_old left_new : Option (List ℕ)) (session : Option Session)
    (refused : Option LineRefusal) (bytes : List ℕ) : Type 0 where
  pub chunk : List ℕ
  pub records : List Record
  pub gave : Gives left_old chunk left_new
  pub few : length chunk ≤ chunk_bytes
  pub stands : HasTaken session (reverse records)
  pub reading : IsReading f (version_or_first session) (bytes ++ chunk) records refused
  pub end : IsEnd left_new refused

-- With the chunk that was read after these bytes, a record is refused.
pub record IsRefusedBehind (f : Format) (left_old left_new : Option (List ℕ)) (n : ℕ) (c : Cause)
    (bytes : List ℕ) : Type 0 where
  pub chunk : List ℕ
  pub gave : Gives left_old chunk left_new
  pub few : length chunk ≤ chunk_bytes
  pub refused : IsFinalFault f (bytes ++ chunk) (faults.Refused n c)

-- the chunks before the last one do not decide
pub record IsUndecided (f : Format) (left_old left_new : Option (List ℕ))
    (bytes : List ℕ) : Type 0 where
  pub gave : Gives left_old bytes left_new
  pub fresh : (asked : Command) → IsFinal f asked bytes → ⊥

-- How a call that may fail leaves the error count of a source: one more if it failed, and else as
-- it was.
pub record CountsReads {X : Type 0} (result : Result X InputFault) (old new : ℕ) : Type 0 where
  pub rose : IsErrOf result Failed → Rose old new
  pub once : IsErrOf result Failed → new ≡ one_more old
  pub stands : result ≢ Err Failed → new ≡ old
  pub count : old ≤ new

-- A trace was read to its end, or to the chunk that decides.
pub record IsRead (f : Format) (left_old left_new : Option (List ℕ)) (session : Session)
    (refused : Option LineRefusal) : Type 0 where
  pub bytes : List ℕ
  pub left : Option (List ℕ)
  pub before : IsUndecided f left_old left bytes
  pub ends : Ends f left left_new (Some session) refused bytes

-- A trace was read to a chunk with a record that is refused.
pub record IsReadTo (f : Format) (left_old left_new : Option (List ℕ)) (n : ℕ)
    (c : Cause) : Type 0 where
  pub bytes : List ℕ
  pub left : Option (List ℕ)
  pub before : IsUndecided f left_old left bytes
  pub refused : IsRefusedBehind f left left_new n c bytes

-- The bytes that were taken are a legal trace, which was judged, and nothing comes after it.
pub record IsAcceptedInput (f : Format) (asked : Command) (left_old left_new : Option (List ℕ))
    (judged : Judged) : Type 0 where
  pub taken : List ℕ
  pub gave : Gives left_old taken left_new
  pub spent : IsSpent left_new
  pub accepted : IsAccepted f asked taken judged

-- The bytes that were taken are refused.
pub record IsRefusedInput (f : Format) (asked : Command) (left_old left_new : Option (List ℕ))
    (n : ℕ) (c : Cause) : Type 0 where
  pub taken : List ℕ
  pub gave : Gives left_old taken left_new
  pub decided : IsDecided f asked taken left_new (Refused n c)
  pub refused : FirstIllegal f asked taken n c
