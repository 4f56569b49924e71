-- Worked rows: small lists of records, oldest first, and what is answered for them.
use Rattle.std.specs.Prelude.{◌≡◌, ℕ, List, [], ◌∷◌, reverse, codes, true, Option, Some, None}
use Rattle.er_text.specs.declared.causes.Cause.{Cause}
use Rattle.er_text.specs.declared.causes.Cause.TheVariants.{Unknown, Again, NotScript, Misplaced, OutOfOrder}
use Rattle.er_trace.specs.declared.record.Record.{Record}
use Rattle.er_trace.specs.declared.record.Record.TheVariants.{Parse, ParseFrame, Exec, Set, Timer, On, Fire, Close, Access}
use Rattle.er_trace.specs.declared.record.Kind.TheVariants as kinds
use Rattle.er_trace.specs.declared.record.Mode.TheVariants as modes
use Rattle.er_trace.specs.declared.record.Loc.TheVariants.{Var, Elem}
use Rattle.er_trace.specs.Trace.{text}
use Rattle.er_trace.specs.declared.version.Version.{Version}
use Rattle.er_trace.specs.declared.version.Version.TheVariants.{One, Two}
use Rattle.er_words.specs.declared.commands.Command.{Command}
use Rattle.er_history.specs.Rules.{same_bytes, rules}
use Rattle.er_report.specs.Report.{refusal}
use Rattle.er_lines.specs.Text.{text as text_lines}
use Rattle.er_run.specs.Answer.{FirstIllegal}
use Rattle.er_run.specs.Legal.{cause, end_cause}
use Rattle.er_run.specs.Report.{report}

-- each record with none of the causes after those before it, newest first
abbrev pub causes : Version → List Record → List (Option Cause)
causes v [] = []
causes v (x ∷ h) = cause (rules v) h x ∷ causes v h

-- In this version the records are spelled so, each is legal, they are within the limits, and this
-- is their report.
pub record Reports (v : Version) (records : List Record) (spelled reported : List ℕ)
    (none : List (Option Cause)) : Type 0 where
  pub text : same_bytes (text v records) spelled ≡ true
  pub legal : causes v (reverse records) ≡ none
  pub within : end_cause v (reverse records) ≡ None
  pub report : same_bytes (report v (reverse records)) reported ≡ true

abbrev pub writes : List ℕ → Record
writes name = Access modes.W (Var 0 name)

abbrev pub reads : List ℕ → Record
reads name = Access modes.R (Var 0 name)

abbrev pub step : ℕ → Record
step e = Parse 0 e kinds.Plain

abbrev pub TimeoutsThatRace : List ℕ → List ℕ → Type 0
TimeoutsThatRace spelled reported =
    Reports One (step 1 ∷ Set 1 10 ∷ Set 2 0 ∷ Timer 2 ∷ writes (codes "x") ∷ Timer 1
    ∷ reads (codes "x") ∷ [])
    spelled reported (None ∷ None ∷ None ∷ None ∷ None ∷ None ∷ None ∷ [])

abbrev pub TimeoutsInOrder : List ℕ → List ℕ → Type 0
TimeoutsInOrder spelled reported =
    Reports One (step 1 ∷ Set 1 0 ∷ Set 2 10 ∷ Timer 1 ∷ writes (codes "x") ∷ Timer 2
    ∷ reads (codes "x") ∷ [])
    spelled reported (None ∷ None ∷ None ∷ None ∷ None ∷ None ∷ None ∷ [])

abbrev pub EqualDelays : List ℕ → List ℕ → Type 0
EqualDelays spelled reported =
    Reports One (step 1 ∷ Set 1 5 ∷ Set 2 5 ∷ Timer 1 ∷ writes (codes "x") ∷ Timer 2
    ∷ reads (codes "x") ∷ [])
    spelled reported (None ∷ None ∷ None ∷ None ∷ None ∷ None ∷ None ∷ [])

-- recorded against the delays
abbrev pub DelaysThatDisagree : List ℕ → List ℕ → Type 0
DelaysThatDisagree spelled reported =
    Reports One (step 1 ∷ Set 1 0 ∷ Set 2 10 ∷ Timer 2 ∷ writes (codes "x") ∷ Timer 1
    ∷ reads (codes "x") ∷ [])
    spelled reported (None ∷ None ∷ None ∷ None ∷ None ∷ None ∷ None ∷ [])

-- set by two events
abbrev pub TwoSetters : List ℕ → List ℕ → Type 0
TwoSetters spelled reported =
    Reports One (step 1 ∷ Set 1 5 ∷ step 2 ∷ Set 2 5 ∷ Timer 1 ∷ writes (codes "x") ∷ Timer 2
    ∷ writes (codes "x") ∷ [])
    spelled reported (None ∷ None ∷ None ∷ None ∷ None ∷ None ∷ None ∷ None ∷ [])

-- a repeat is not kept; a read and a write of one action are two accesses
abbrev pub Repeats : List ℕ → List ℕ → Type 0
Repeats spelled reported =
    Reports One (step 1 ∷ Set 1 9 ∷ Set 2 0 ∷ Timer 2 ∷ reads (codes "x") ∷ reads (codes "x")
    ∷ writes (codes "x") ∷ Timer 1 ∷ writes (codes "x") ∷ [])
    spelled reported (None ∷ None ∷ None ∷ None ∷ None ∷ None ∷ None ∷ None ∷ None ∷ [])

abbrev pub OneAction : List ℕ → List ℕ → Type 0
OneAction spelled reported = Reports One (step 1 ∷ writes (codes "x") ∷ reads (codes "x") ∷ [])
    spelled reported (None ∷ None ∷ None ∷ [])

abbrev pub TwoReads : List ℕ → List ℕ → Type 0
TwoReads spelled reported =
    Reports One (step 1 ∷ Set 1 9 ∷ Set 2 0 ∷ Timer 2 ∷ reads (codes "x") ∷ Timer 1
    ∷ reads (codes "x") ∷ [])
    spelled reported (None ∷ None ∷ None ∷ None ∷ None ∷ None ∷ None ∷ [])

-- parse steps are in order, and before a timeout that a later one set
abbrev pub ParseSteps : List ℕ → List ℕ → Type 0
ParseSteps spelled reported =
    Reports One (step 1 ∷ writes (codes "a b") ∷ step 2 ∷ reads (codes "a b") ∷ Set 1 0 ∷ Timer 1
    ∷ writes (codes "a b") ∷ [])
    spelled reported (None ∷ None ∷ None ∷ None ∷ None ∷ None ∷ None ∷ [])

abbrev pub NothingAtAll : List ℕ → List ℕ → Type 0
NothingAtAll spelled reported = Reports One ([])
    spelled reported []

-- a blocking script runs before a later parse step
abbrev pub BlockingScripts : List ℕ → List ℕ → Type 0
BlockingScripts spelled reported =
    Reports One (Parse 0 1 kinds.Sync ∷ Exec 1 ∷ writes (codes "x") ∷ step 2 ∷ reads (codes "x")
    ∷ [])
    spelled reported (None ∷ None ∷ None ∷ None ∷ None ∷ [])

-- an async one does not
abbrev pub AsyncScripts : List ℕ → List ℕ → Type 0
AsyncScripts spelled reported =
    Reports One (Parse 0 1 kinds.Async ∷ Exec 1 ∷ writes (codes "x") ∷ step 2 ∷ reads (codes "x")
    ∷ [])
    spelled reported (None ∷ None ∷ None ∷ None ∷ None ∷ [])

-- deferred scripts run as they were parsed, after each blocking one
abbrev pub DeferredScripts : List ℕ → List ℕ → Type 0
DeferredScripts spelled reported =
    Reports One (Parse 0 1 kinds.Defer ∷ Parse 0 2 kinds.Inline ∷ Exec 2 ∷ writes (codes "x")
    ∷ Parse 0 3 kinds.Defer ∷ Exec 1 ∷ writes (codes "x") ∷ Exec 3 ∷ reads (codes "x") ∷ [])
    spelled reported (None ∷ None ∷ None ∷ None ∷ None ∷ None ∷ None ∷ None ∷ None ∷ [])

-- the step that declared a document is before its parse steps, which are in no order with
-- others of the first
abbrev pub OtherDocuments : List ℕ → List ℕ → Type 0
OtherDocuments spelled reported =
    Reports One (ParseFrame 0 1 1 ∷ writes (codes "x") ∷ Parse 1 2 kinds.Plain ∷ writes (codes "x")
    ∷ step 3 ∷ reads (codes "x") ∷ [])
    spelled reported (None ∷ None ∷ None ∷ None ∷ None ∷ None ∷ [])

-- two races of one pair of actions are one class
abbrev pub OneClass : List ℕ → List ℕ → Type 0
OneClass spelled reported =
    Reports One (Parse 0 1 kinds.Inline ∷ Exec 1 ∷ Set 1 10 ∷ Set 2 0 ∷ Timer 2 ∷ writes (codes "x")
    ∷ writes (codes "y") ∷ Timer 1 ∷ writes (codes "x") ∷ reads (codes "y") ∷ [])
    spelled reported (None ∷ None ∷ None ∷ None ∷ None ∷ None ∷ None ∷ None ∷ None ∷ None ∷ [])

-- a later race covers the first
abbrev pub LaterRepresentative : List ℕ → List ℕ → Type 0
LaterRepresentative spelled reported =
    Reports One (Parse 0 1 kinds.Inline ∷ Exec 1 ∷ Set 1 10 ∷ Set 2 0 ∷ Timer 2 ∷ writes (codes "x")
    ∷ Set 3 0 ∷ Timer 3 ∷ writes (codes "f") ∷ Timer 1 ∷ reads (codes "f") ∷ Set 4 0 ∷ Timer 4
    ∷ reads (codes "x") ∷ [])
    spelled reported (None ∷ None ∷ None ∷ None ∷ None ∷ None ∷ None ∷ None ∷ None ∷ None ∷ None
    ∷ None ∷ None ∷ None ∷ [])

-- the first set in one parse step with this delay, the second in a later one
abbrev pub JoinedSetters : Version → ℕ → List ℕ → List ℕ → Type 0
JoinedSetters v delay spelled reported =
    Reports v (step 1 ∷ Set 1 delay ∷ step 2 ∷ Set 2 5 ∷ Timer 1 ∷ writes (codes "x") ∷ Timer 2
    ∷ reads (codes "x") ∷ [])
    spelled reported (None ∷ None ∷ None ∷ None ∷ None ∷ None ∷ None ∷ None ∷ [])

-- set by two callbacks, which are themselves in order
abbrev pub CallbacksThatSet : Version → List ℕ → List ℕ → Type 0
CallbacksThatSet v spelled reported =
    Reports v (step 1 ∷ Set 1 0 ∷ Set 2 0 ∷ Timer 1 ∷ Set 3 4 ∷ Timer 2 ∷ Set 4 4 ∷ Timer 3
    ∷ writes (codes "x") ∷ Timer 4 ∷ writes (codes "x") ∷ [])
    spelled reported (None ∷ None ∷ None ∷ None ∷ None ∷ None ∷ None ∷ None ∷ None ∷ None ∷ None
    ∷ [])

-- the causes of single records
pub record Causes : Type 0 where
  pub unknown_timeout : cause (rules One) (step 1 ∷ []) (Timer 9) ≡ Some Unknown
  pub unknown_document : cause (rules One) (step 1 ∷ []) (Parse 1 2 kinds.Plain) ≡ Some Unknown
  pub not_script : cause (rules One) (step 1 ∷ []) (Exec 1) ≡ Some NotScript
  pub script : cause (rules One) (Parse 0 1 kinds.Inline ∷ []) (Exec 1) ≡ None
  pub element_location : cause (rules One) (step 1 ∷ []) (Access modes.R (Elem 0 (codes "x")))
      ≡ None
  pub note_first : cause (rules One) [] (Set 1 0) ≡ Some Misplaced
  pub timer_first : cause (rules One) [] (Timer 9) ≡ Some Unknown
  pub handler_first : cause (rules One) [] (On 7) ≡ Some Misplaced
  pub timer_within : cause (rules One) (Fire 1 1 (codes "x") ∷ Set 1 0 ∷ step 1 ∷ []) (Timer 1)
      ≡ Some Misplaced
  pub closed : cause (rules One) (Fire 1 1 (codes "x") ∷ step 1 ∷ []) (Close 1) ≡ None
  pub closed_again : cause (rules One) (Close 1 ∷ Fire 1 1 (codes "x") ∷ step 1 ∷ []) (Close 1)
      ≡ Some Misplaced
  pub element_again : cause (rules One) (step 1 ∷ []) (step 1) ≡ Some Again
  pub unknown_before_again : cause (rules One) (step 1 ∷ []) (Parse 5 1 kinds.Plain) ≡ Some Unknown
  pub set_again : cause (rules One) (Set 1 5 ∷ step 1 ∷ []) (Set 1 6) ≡ Some Again
  pub fired_again : cause (rules One) (Timer 1 ∷ Set 1 0 ∷ step 1 ∷ []) (Timer 1) ≡ Some Again
  pub line : same_bytes (refusal 3 Unknown) (codes "refused 3 unknown\n") ≡ true

-- which records of parsing and scripts come too late
pub record Orders : Type 0 where
  pub step_after_deferred : cause (rules One) (Exec 1 ∷ Parse 0 1 kinds.Defer ∷ []) (step 2)
      ≡ Some OutOfOrder
  pub step_after_async : cause (rules One) (Exec 1 ∷ Parse 0 1 kinds.Async ∷ []) (step 2) ≡ None
  pub step_before_deferred : cause (rules One) (Parse 0 1 kinds.Defer ∷ []) (step 2) ≡ None
  pub blocking_after_step : cause (rules One) (step 2 ∷ Parse 0 1 kinds.Sync ∷ []) (Exec 1)
      ≡ Some OutOfOrder
  pub blocking_after_step_of_another : cause (rules One) (Parse 1 3 kinds.Plain
      ∷ Parse 0 2 kinds.Sync ∷ ParseFrame 0 1 1 ∷ []) (Exec 2) ≡ None
  pub blocking_after_deferred : cause (rules One) (Exec 1 ∷ Parse 0 2 kinds.Inline
      ∷ Parse 0 1 kinds.Defer ∷ []) (Exec 2) ≡ Some OutOfOrder
  pub deferred_after_blocking : cause (rules One) (Exec 2 ∷ Parse 0 2 kinds.Inline
      ∷ Parse 0 1 kinds.Defer ∷ []) (Exec 1) ≡ None
  pub deferred_after_later : cause (rules One) (Exec 2 ∷ Parse 0 2 kinds.Defer
      ∷ Parse 0 1 kinds.Defer ∷ []) (Exec 1) ≡ Some OutOfOrder
  pub deferred_after_earlier : cause (rules One) (Exec 1 ∷ Parse 0 2 kinds.Defer
      ∷ Parse 0 1 kinds.Defer ∷ []) (Exec 2) ≡ None
  pub naming_first : cause (rules One) (Exec 1 ∷ Parse 0 1 kinds.Defer ∷ []) (step 1) ≡ Some Again

-- line 3 is the first illegal one of these bytes, whatever is asked
abbrev pub UnknownTimeout : Type 0
UnknownTimeout = (asked : Command)
    → FirstIllegal text_lines asked (codes "webtrace 1\nparse 0 1 plain\ntimer 9\nend\n") 3 Unknown

abbrev pub NotAScript : Type 0
NotAScript = (asked : Command)
    → FirstIllegal text_lines asked (codes "webtrace 1\nparse 0 1 plain\nexec 1\nend\n") 3 NotScript

-- and line 4 of these
abbrev pub RunTooLate : Type 0
RunTooLate =
    (asked : Command) → FirstIllegal text_lines asked
    (codes "webtrace 1\nparse 0 1 sync\nparse 0 2 plain\nexec 1\nend\n") 4 OutOfOrder
