-- What the steps of an answer leave.
use Rattle.std.specs.Prelude.{◌≡◌, true, false, ℕ, ◌+◌, ◌*◌, ◌<◌, ◌≤◌, List, Option, Some, None, Result, Ok, Err, MatchResult, reverse, length}
use Rattle.er_io.specs.Ends.{Gets, GetsPart}
use Rattle.er_text.specs.declared.causes.Cause.{Cause}
use Rattle.er_trace.specs.declared.record.Record.{Record}
use Rattle.er_trace.specs.declared.version.Version.{Version}
use Rattle.er_trace.specs.Trace.{most_lines}
use Rattle.er_trace.specs.declared.fault.FeedFault.{FeedFault}
use Rattle.er_trace.specs.declared.fault.FeedFault.TheVariants as faults
use Rattle.er_run.specs.declared.meters.Meters.{Meters}
use Rattle.er_run.specs.declared.outcome.Outcome.{Outcome}
use Rattle.er_run.specs.declared.outcome.Outcome.TheVariants.{Clean, Races, Refused, WriteFault, NoMemory}
use Rattle.er_run.specs.declared.session.Session.{Session}
use Rattle.er_run.specs.declared.findings.Listing.{Listing}
use Rattle.er_run.specs.declared.findings.Found.{Found}
use Rattle.er_run.specs.declared.findings.Found.TheVariants as findings
use Rattle.er_run.specs.declared.findings.Judged.{Judged}
use Rattle.er_lines.specs.Format.{Format}
use Rattle.er_words.specs.declared.commands.Input.{Input}
use Rattle.er_words.specs.declared.commands.Command.{Command}
use Rattle.er_words.specs.declared.commands.Command.TheVariants.{Check, Gen, Schedule, Explain}
use Rattle.er_trace.specs.Limits.{most_shards}
use Rattle.er_run.specs.Report.{refusal_for}
use Rattle.er_run.specs.Answer.{IsLegalTrace, FirstIllegal, outcome_for}
use Rattle.er_run.specs.Promise.{compared_for, tested_for}
use Rattle.er_run.specs.Legal.{end_cause_for, listing_cause}
use Rattle.er_run.specs.Session.{IsSessionOf}
use Rattle.er_history.specs.Rules.{rules}
use Rattle.er_history.specs.Edges.{edges, path}
use Rattle.er_history.specs.History.{told}
use Rattle.er_schedule.specs.Schedules.{Orders}
use Rattle.er_schedule.specs.Text.{AreOrders}
use Rattle.er_pieces.specs.steps.Steps.{Step, explanation}
use Rattle.er_races.specs.declared.race.Race.{Race}
use Rattle.er_races.specs.Races.{races_of, most_pairs, most_races}
use Rattle.er_cover.specs.Groups.{Grouping, grouping_of, most_classes}
use Rattle.er_run.specs.Races.{kept, candidates, races, classes, groups}

-- these are the numbers of the races of these records, newest first, and neither they nor the pairs
-- are over a limit
pub record AreListed (v : Version) (found : List Race) (h : List Record) : Type 0 where
  pub few_pairs : length (candidates h) ≤ most_pairs
  pub few_races : length (races v h) ≤ most_races
  pub are_races : found ≡ races_of (path (rules v) h) (kept h)

-- these are the groups of the races of these records, newest first, and the classes are
-- not over their limit
pub record AreGrouped (v : Version) (found : Grouping) (h : List Record) : Type 0 where
  pub few_classes : length (classes v h) ≤ most_classes
  pub are_groups : found ≡ grouping_of (path (rules v) h) (kept h)

-- these are the races of these records, and their groups
pub record IsListing (v : Version) (listing : Listing) (h : List Record) : Type 0 where
  pub listed : AreListed v listing.races.items h
  pub grouped : AreGrouped v listing.groups h

-- these are the races of these records, and the orders of race number k
pub record AreOrdersOf (v : Version) (k : ℕ) (found : List Race) (orders : Orders)
    (h : List Record) : Type 0 where
  pub listed : AreListed v found h
  pub has_race : (1 ≤ k) × (k ≤ length found)
  pub are : AreOrders (edges (rules v) (told h).actions) (kept h) found k orders

-- this is why a path leads from action i to action j, which have begun
pub record IsExplanation (v : Version) (i j : ℕ) (steps : Option (List Step))
    (h : List Record) : Type 0 where
  pub first : i < length (told h).actions
  pub second : j < length (told h).actions
  pub is : steps ≡ explanation (rules v) h i j

-- this was found of these records, newest first, by what is asked
abbrev pub IsFound : Command → Version → Found → List Record → Type 0
IsFound asked v (findings.Line listing) h =
    ((input : Input) × (asked ≡ Check true input)) × IsListing v listing h
IsFound asked v (findings.Report listing) h =
    ((input : Input) × (asked ≡ Check false input)) × IsListing v listing h
IsFound asked v (findings.Summary n listing) h = (asked ≡ Gen n) × IsListing v listing h
IsFound asked v (findings.Orders k races orders) h =
    (asked ≡ Schedule k) × AreOrdersOf v k races.items orders h
IsFound asked v (findings.Steps i j steps) h = (asked ≡ Explain i j) × IsExplanation v i j steps h

-- the session stands for these records, newest first, their `end` line has no cause, and this was
-- found of them
pub record IsJudged (asked : Command) (session : Session) (found : Found)
    (h : List Record) : Type 0 where
  pub stands : IsSessionOf session h
  pub within : end_cause_for asked session.graph.version h ≡ None
  pub is_found : IsFound asked session.graph.version found h

-- it came of judging some records, for what was asked
pub record IsJudgement (judged : Judged) : Type 0 where
  pub asked : Command
  pub list : List Record
  pub is_judged : IsJudged asked judged.session judged.found list

-- the bytes are a legal trace, and this is what came of judging its records
pub record IsAccepted (f : Format) (asked : Command) (bytes : List ℕ)
    (judged : Judged) : Type 0 where
  pub records : List Record
  pub legal : IsLegalTrace f asked judged.session.graph.version bytes records
  pub is_judged : IsJudged asked judged.session judged.found (reverse records)

-- the count of comparisons rose by one for each candidate pair of the records for which
-- the session stands
abbrev pub IsCompared : Session → ℕ → ℕ → Type 0
IsCompared session old new = (h : List Record) → IsSessionOf session h
    → new ≡ old + length (candidates h)

-- the count of tests rose by four at most for each pair of a class and a group of these records
abbrev pub IsTested : Session → ℕ → ℕ → Type 0
IsTested session old new = (h : List Record) → IsSessionOf session h
    → (old ≤ new) × (new ≤ old + 4
    * (length (classes session.graph.version h) * length (groups session.graph.version h)))

-- the same by what is asked
abbrev pub IsComparedFor : Command → Session → ℕ → ℕ → Type 0
IsComparedFor asked session old new = (h : List Record) → IsSessionOf session h
    → new ≡ old + compared_for asked h

abbrev pub IsTestedFor : Command → Session → ℕ → ℕ → Type 0
IsTestedFor asked session old new = (h : List Record) → IsSessionOf session h
    → (old ≤ new) × (new ≤ old + 4 * tested_for asked session.graph.version h)

-- it was judged by what is asked, with the comparisons and the tests that this needs
pub record IsJudgedFor (asked : Command) (from to : Meters) (judged : Judged) : Type 0 where
  pub is : IsJudgement judged
  pub compared : IsComparedFor asked judged.session from.compares to.compares
  pub tested : IsTestedFor asked judged.session from.tests to.tests

-- the line after these records, newest first, is refused for this cause; or an allocation failed
abbrev pub IsEndFault : Option Cause → List Record → FeedFault → Type 0
IsEndFault cause h (faults.Refused n c) = (n ≡ length h + 2) × (cause ≡ Some c)
IsEndFault cause h faults.NoMemory = Unit {0}

-- it is refused for the pairs or the races, whatever the other cause is
abbrev pub IsListFault : Version → List Record → FeedFault → Type 0
IsListFault v h fault = (other : Option Cause) → IsEndFault (listing_cause v h other) h fault

-- what arguments can request: 1 to 64 shards, and races from number 1
pub record IsAskable (shards : ℕ) (command : Command) : Type 0 where
  pub least : 1 ≤ shards
  pub most : shards ≤ most_shards
  pub race : (k : ℕ) → command ≡ Schedule k → 1 ≤ k

-- what came of writing the text that is due for these records, newest first
abbrev pub ReportsOf : Command → Version → List Record → List ℕ → Outcome → Option (List ℕ)
    → Option (List ℕ) → Type 0
ReportsOf asked v h due Clean old new = (outcome_for asked v h ≡ Clean) × Gets old due new
ReportsOf asked v h due Races old new = (outcome_for asked v h ≡ Races) × Gets old due new
ReportsOf asked v h due WriteFault old new = GetsPart old due new
ReportsOf asked v h due _ old new = ⊥

-- and of writing that of a refusal
abbrev pub RefusedAs : ℕ → Cause → List ℕ → Outcome → Option (List ℕ) → Option (List ℕ) → Type 0
RefusedAs n c due (Refused m d) old new = (m ≡ n) × (d ≡ c) × Gets old due new
RefusedAs n c due WriteFault old new = GetsPart old due new
RefusedAs n c due _ old new = ⊥

-- and of writing it where the fault is one
abbrev pub FailedAs : Command → FeedFault → Outcome → Option (List ℕ) → Option (List ℕ) → Type 0
FailedAs asked (faults.Refused n c) outcome old new =
    RefusedAs n c (refusal_for asked n c) outcome old new
FailedAs asked faults.NoMemory outcome old new = outcome ≡ NoMemory

-- how a run ends that wrote the text for this outcome, or failed to
abbrev pub EndsAs : {E : Type 0} → Outcome → Result Unit E → Outcome → Type 0
EndsAs due (Ok done) outcome = outcome ≡ due
EndsAs due (Err fault) outcome = outcome ≡ WriteFault

-- it stands for some records, and this was found of them
pub record IsListed (session : Session) (listing : Listing) : Type 0 where
  pub list : List Record
  pub stands : IsSessionOf session list
  pub is : IsListing session.graph.version listing list

pub record IsOrdered (session : Session) (k : ℕ) (found : List Race)
    (orders : Orders) : Type 0 where
  pub list : List Record
  pub stands : IsSessionOf session list
  pub are : AreOrdersOf session.graph.version k found orders list

-- it stands for the records of some trace
pub record IsReportable (session : Session) : Type 0 where
  pub list : List Record
  pub stands : IsSessionOf session list
  pub few : length list ≤ most_lines

-- the fault is the refusal of the bytes, or out of memory
abbrev pub IsRefusal : Format → Command → List ℕ → FeedFault → Type 0
IsRefusal f asked bytes (faults.Refused n c) = FirstIllegal f asked bytes n c
IsRefusal f asked bytes faults.NoMemory = Unit {0}

-- the bytes are accepted, or refused
abbrev pub IsVerdict : Format → Command → List ℕ → Result Judged FeedFault → Type 0
IsVerdict f asked bytes verdict =
    MatchResult verdict (IsAccepted f asked bytes) (IsRefusal f asked bytes)
