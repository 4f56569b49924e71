-- What a call of `run` promises.
use Rattle.std.specs.Prelude.{◌≡◌, ◌≢◌, ◌⊎◌, ℕ, ◌+◌, ◌*◌, ◌≤◌, List, ◌++◌, length, reverse, Option, Some}
use Rattle.er_io.specs.Ends.{Gives, Gets, GetsPart, IsSpent, Rose, one_more}
use Rattle.er_run.specs.declared.outcome.Outcome.{Outcome}
use Rattle.er_run.specs.declared.outcome.Outcome.TheVariants.{Clean, Races, Refused, Usage, ReadFault, WriteFault, NoMemory}
use Rattle.er_trace.specs.declared.record.Record.{Record}
use Rattle.er_trace.specs.declared.version.Version.{Version}
use Rattle.er_trace.specs.declared.version.Version.TheVariants.{One}
use Rattle.er_trace.specs.Trace.{text}
use Rattle.er_gen.specs.Generated.{generated}
use Rattle.er_lines.specs.Format.{Format}
use Rattle.er_words.specs.declared.commands.Command.{Command}
use Rattle.er_words.specs.declared.commands.Command.TheVariants.{Check, Gen, Explain}
use Rattle.er_text.specs.declared.causes.Cause.{Cause}
use Rattle.er_text.specs.declared.causes.Cause.TheVariants.{NoEnd}
use Rattle.er_words.specs.declared.commands.Asked.{Asked}
use Rattle.er_words.specs.Words.{Asks}
use Rattle.er_run.specs.declared.meters.Meters.{Meters}
use Rattle.er_run.specs.Meters.{Rise}
use Rattle.er_run.specs.Answer.{IsLegalTrace, FirstIllegal, Answers, format_of}
use Rattle.er_run.specs.Races.{candidates, classes, groups}

-- an outcome that bytes can answer
abbrev pub IsAnswer : Outcome → Type 0
IsAnswer Clean = Unit {0}
IsAnswer Races = Unit {0}
IsAnswer (Refused n c) = Unit {0}
IsAnswer _ = ⊥

-- the bytes are refused for another cause than `no-end`
abbrev pub IsFinal : Format → Command → List ℕ → Type 0
IsFinal f asked bytes = (n : ℕ) × (c : Cause) × FirstIllegal f asked bytes n c × (c ≢ NoEnd)

-- the most bytes of a chunk of the input
abbrev pub chunk_bytes : ℕ
chunk_bytes = 4096

-- without their last chunk the bytes are not refused, but for `no-end`, and with it they
-- are refused so
pub record IsJustRefused (f : Format) (asked : Command) (bytes : List ℕ) (n : ℕ)
    (c : Cause) : Type 0 where
  pub before : List ℕ
  pub last : List ℕ
  pub is : bytes ≡ before ++ last
  pub few : length last ≤ chunk_bytes
  pub fresh : IsFinal f asked before → ⊥
  pub refused : FirstIllegal f asked bytes n c
  pub other : c ≢ NoEnd

-- nothing is left, or the chunk that was taken last brought the refusal
abbrev pub IsDecided : Format → Command → List ℕ → Option (List ℕ) → Outcome → Type 0
IsDecided f asked taken left (Refused n c) = IsSpent left ⊎ IsJustRefused f asked taken n c
IsDecided f asked taken left _ = IsSpent left

-- an outcome that leaves the sink as it was
abbrev pub IsSilent : Outcome → Type 0
IsSilent Usage = Unit {0}
IsSilent ReadFault = Unit {0}
IsSilent NoMemory = Unit {0}
IsSilent _ = ⊥

-- How a call with this outcome leaves the error count of a stream: one more if the outcome is this
-- failure, and as it was with any other outcome.
pub record Counts (failure outcome : Outcome) (old new : ℕ) : Type 0 where
  pub rose : outcome ≡ failure → Rose old new
  pub once : outcome ≡ failure → new ≡ one_more old
  pub stands : outcome ≢ failure → new ≡ old
  pub count : old ≤ new

-- the text that is due for the answer of the bytes came to what was got
pub record IsGiven (f : Format) (asked : Command) (bytes : List ℕ) (outcome : Outcome)
    (got_old got_new : Option (List ℕ)) : Type 0 where
  pub due : List ℕ
  pub answers : Answers f asked bytes outcome due
  pub gave : Gets got_old due got_new

-- a proper prefix of that text came
pub record IsPartGiven (f : Format) (asked : Command) (bytes : List ℕ)
    (got_old got_new : Option (List ℕ)) : Type 0 where
  pub outcome : Outcome
  pub due : List ℕ
  pub answers : Answers f asked bytes outcome due
  pub gave : GetsPart got_old due got_new

-- each candidate pair is compared where the races are asked for
abbrev pub compared_for : Command → List Record → ℕ
compared_for (Explain i j) h = 0
compared_for _ h = length (candidates h)

-- each class is tested against each group where the races are grouped
abbrev pub tested_for : Command → Version → List Record → ℕ
tested_for (Check json input) v h = length (classes v h) * length (groups v h)
tested_for (Gen n) v h = length (classes v h) * length (groups v h)
tested_for _ v h = 0

-- where the trace is legal, the count of comparisons rose by one for each candidate pair
-- that is compared
abbrev pub Compares : Format → Command → List ℕ → Outcome → ℕ → ℕ → Type 0
Compares f asked bytes Clean old new = (v : Version) (records : List Record)
    → IsLegalTrace f asked v bytes records → new ≡ old + compared_for asked (reverse records)
Compares f asked bytes Races old new = (v : Version) (records : List Record)
    → IsLegalTrace f asked v bytes records → new ≡ old + compared_for asked (reverse records)
Compares f asked bytes _ old new = Unit {0}

-- and the count of tests by four at most for each pair of a class and a group
abbrev pub Tests : Format → Command → List ℕ → Outcome → ℕ → ℕ → Type 0
Tests f asked bytes Clean old new = (v : Version) (records : List Record)
    → IsLegalTrace f asked v bytes records
    → (old ≤ new) × (new ≤ old + 4 * tested_for asked v (reverse records))
Tests f asked bytes Races old new = (v : Version) (records : List Record)
    → IsLegalTrace f asked v bytes records
    → (old ≤ new) × (new ≤ old + 4 * tested_for asked v (reverse records))
Tests f asked bytes _ old new = Unit {0}

-- What a command judges for this outcome: a generated trace, for which it takes nothing of the
-- source, or the bytes that the call took of it.
abbrev pub IsInput : Format → Command → List ℕ → Option (List ℕ) → Option (List ℕ) → Outcome
    → Type 0
IsInput f (Gen n) bytes left_old left_new outcome =
    (bytes ≡ text One (generated n)) × (left_new ≡ left_old)
IsInput f asked bytes left_old left_new outcome =
    Gives left_old bytes left_new × IsDecided f asked bytes left_new outcome

-- what a caller sees of the two streams: what is left of the source, what the sink got, and how
-- many reads and writes have failed
pub record Streams : Type 0 where
  pub left : Option (List ℕ)
  pub got : Option (List ℕ)
  pub failed_reads : ℕ
  pub failed_writes : ℕ

abbrev pub streams : Option (List ℕ) → Option (List ℕ) → ℕ → ℕ → Streams
streams left got failed_reads failed_writes = record {
  left = left;
  got = got;
  failed_reads = failed_reads;
  failed_writes = failed_writes;
}

-- The input of the command answers this outcome, exactly the text that is due came to the sink, and
-- the comparisons and the tests that it needs were made.
pub record IsAnswered (f : Format) (asked : Command) (old new : Streams) (from to : Meters)
    (outcome : Outcome) : Type 0 where
  pub input : List ℕ
  pub taken : IsInput f asked input old.left new.left outcome
  pub given : IsGiven f asked input outcome old.got new.got
  pub compared : Compares f asked input outcome from.compares to.compares
  pub tested : Tests f asked input outcome from.tests to.tests

-- The input of the command answers some outcome, and a proper prefix of the text that is
-- due came to the sink.
pub record IsCutShort (f : Format) (asked : Command) (old new : Streams) : Type 0 where
  pub input : List ℕ
  pub given : IsPartGiven f asked input old.got new.got
  pub taken : IsInput f asked input old.left new.left given.outcome

-- what a command has to judge: a generated trace, or all bytes that the source holds
abbrev pub Holds : Command → Option (List ℕ) → List ℕ → Type 0
Holds (Gen n) left bytes = bytes ≡ text One (generated n)
Holds _ left bytes = left ≡ Some bytes

-- the error count of the source did not rise, if the command reads it
abbrev pub NoReadFailed : Command → ℕ → ℕ → Type 0
NoReadFailed (Gen n) old new = Unit {0}
NoReadFailed _ old new = Rose old new → ⊥

-- What holds of a call that a command asked for and that ended with this outcome, if lines are read
-- in this format.
pub record Served (f : Format) (asked : Command) (old new : Streams) (from to : Meters)
    (outcome : Outcome) : Type 0 where
  -- the input answers an outcome that is an answer, and the text that is due was written
  pub answered : IsAnswer outcome → IsAnswered f asked old new from to outcome
  -- if a write failed, a proper prefix of the text that is due was written
  pub cut_short : outcome ≡ WriteFault → IsCutShort f asked old new
  -- if no call of a stream failed, the outcome is the answer of all that the command has to
  -- analyze, or an allocation failed
  pub complete : NoReadFailed asked old.failed_reads new.failed_reads
      → ¬ Rose old.failed_writes new.failed_writes
      → (bytes : List ℕ) → Holds asked old.left bytes
      → (outcome ≡ NoMemory) ⊎ ((due : List ℕ) × Answers f asked bytes outcome due)

-- What holds of a run with these arguments that ended with this outcome. Its counters are `from`
-- before it and `to` after it.
pub record IsRun (words : List (List ℕ)) (old new : Streams) (from to : Meters)
    (outcome : Outcome) : Type 0 where
  -- arguments that are a command are no wrong usage; others give that, or an allocation failed
  pub usage : outcome ≡ Usage → (asked : Asked) → ¬ Asks words asked
  pub refused : ((asked : Asked) → ¬ Asks words asked) → (outcome ≡ Usage) ⊎ (outcome ≡ NoMemory)
  pub served : (asked : Asked) → Asks words asked
      → Served (format_of asked.command) asked.command old new from to outcome
  -- one read or write failed if the outcome is its failure, and else none
  pub reads : Counts ReadFault outcome old.failed_reads new.failed_reads
  pub writes : Counts WriteFault outcome old.failed_writes new.failed_writes
  -- no answer comes after a failed call
  pub no_fault : IsAnswer outcome → (new.failed_reads ≡ old.failed_reads)
      × (new.failed_writes ≡ old.failed_writes)
  -- no counter falls, whatever the outcome
  pub rise : Rise from to
