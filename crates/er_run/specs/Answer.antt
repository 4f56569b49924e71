-- What a byte string answers to a command, and the text that is due for it.
use Rattle.std.specs.Prelude.{◌≡◌, ℕ, ◌+◌, ◌≤◌, List, [], ◌∷◌, ◌++◌, length, reverse, Some, None}
use Rattle.er_text.specs.declared.causes.Cause.{Cause}
use Rattle.er_trace.specs.declared.record.Record.{Record}
use Rattle.er_trace.specs.declared.version.Version.{Version}
use Rattle.er_trace.specs.Trace.{line, most_lines}
use Rattle.er_lines.specs.Format.{Format}
use Rattle.er_lines.specs.Lines.{Place, Start, After, Ended, line_number, IsShort, AreBefore, LineCause, IsTrace}
use Rattle.er_lines.specs.Text.{text}
use Rattle.er_jsonl.specs.Trace.{json as json_lines}
use Rattle.er_history.specs.Rules.{rules}
use Rattle.er_run.specs.Legal.{IsLegal, end_cause_for}
use Rattle.er_run.specs.Legal as legality
use Rattle.er_run.specs.Races.{races}
use Rattle.er_words.specs.declared.commands.Input.{Input}
use Rattle.er_words.specs.declared.commands.Input.TheVariants as inputs
use Rattle.er_words.specs.declared.commands.Command.{Command}
use Rattle.er_words.specs.declared.commands.Command.TheVariants.{Check, Gen, Schedule, Explain}
use Rattle.er_run.specs.Report.{text_for, refusal_for}
use Rattle.er_run.specs.declared.outcome.Outcome.{Outcome}
use Rattle.er_run.specs.declared.outcome.Outcome.TheVariants.{Clean, Races, Refused}

-- how lines are read
abbrev pub lines_of : Input → Format
lines_of inputs.Text = text
lines_of inputs.Json = json_lines

-- how the lines of a command's input are written
abbrev pub lines_asked : Command → Input
lines_asked (Check json input) = input
lines_asked _ = inputs.Text

-- and how they are read
abbrev pub format_of : Command → Format
format_of asked = lines_of (lines_asked asked)

-- the bytes are a trace in that version with these records, oldest first, which is legal
-- for what is asked
pub record IsLegalTrace (f : Format) (asked : Command) (v : Version) (bytes : List ℕ)
    (records : List Record) : Type 0 where
  pub is_trace : IsTrace f v bytes records
  pub legal : IsLegal (rules v) (reverse records)
  pub within : end_cause_for asked v (reverse records) ≡ None

-- the lines before that place are legal
abbrev pub IsLegalBefore : Command → Place → Type 0
IsLegalBefore asked Start = Unit {0}
IsLegalBefore asked (After v records) = IsLegal (rules v) (reverse records)
IsLegalBefore asked (Ended v records) =
    IsLegal (rules v) (reverse records) × (end_cause_for asked v (reverse records) ≡ None)

-- the bytes begin with the line of a record that has the cause after the earlier ones
pub record HasCause (f : Format) (v : Version) (earlier : List Record) (bytes : List ℕ)
    (c : Cause) : Type 0 where
  pub few : length earlier + 2 ≤ most_lines
  pub read : Record
  pub l : List ℕ
  pub short : IsShort f.most l
  pub spells : f.Spells v l read
  pub rest : List ℕ
  pub begins : bytes ≡ line l ++ rest
  pub cause : legality.cause (rules v) (reverse earlier) read ≡ Some c

-- they begin with a last line that has the cause after the earlier records
pub record EndHasCause (f : Format) (asked : Command) (v : Version) (earlier : List Record)
    (bytes : List ℕ) (c : Cause) : Type 0 where
  pub few : length earlier + 2 ≤ most_lines
  pub l : List ℕ
  pub short : IsShort f.most l
  pub end : f.IsEnd l
  pub rest : List ℕ
  pub begins : bytes ≡ line l ++ rest
  pub cause : end_cause_for asked v (reverse earlier) ≡ Some c

-- Why the line that begins there, with these bytes from it on, is illegal.
-- NoLine: it is no line of a trace
-- OfRecord: it is the line of a record that has the cause
-- OfEnd: it is a last line that has the cause for what is asked
pub data Illegal (f : Format) (asked : Command) (place : Place) (bytes : List ℕ)
    (c : Cause) : Type 0 where
  NoLine : LineCause f place bytes c → Illegal f asked place bytes c
  OfRecord : (v : Version) (earlier : List Record) → place ≡ After v earlier
      → HasCause f v earlier bytes c → Illegal f asked place bytes c
  OfEnd : (v : Version) (earlier : List Record) → place ≡ After v earlier
      → EndHasCause f asked v earlier bytes c → Illegal f asked place bytes c

-- The first line that is illegal has number n and cause c: the lines before it are legal.
pub record FirstIllegal (f : Format) (asked : Command) (bytes : List ℕ) (n : ℕ)
    (c : Cause) : Type 0 where
  pub place : Place
  pub number : n ≡ line_number place
  pub few : line_number place ≤ most_lines + 1
  pub before : List ℕ
  pub are : AreBefore f place before
  pub legal : IsLegalBefore asked place
  pub rest : List ℕ
  pub begins : bytes ≡ before ++ rest
  pub illegal : Illegal f asked place rest c

-- how the command ends on legal records with these races, newest record first: an
-- explanation knows no races
abbrev pub outcome_of : {X : Type 0} → List X → Outcome
outcome_of [] = Clean
outcome_of (x ∷ xs) = Races

abbrev pub outcome_for : Command → Version → List Record → Outcome
outcome_for (Check json input) v h = outcome_of (races v h)
outcome_for (Gen n) v h = outcome_of (races v h)
outcome_for (Schedule k) v h = outcome_of (races v h)
outcome_for (Explain i j) v h = Clean

-- Where lines are read so, the answer of the bytes to the command is this outcome, and
-- the text is due for it.
abbrev pub Answers : Format → Command → List ℕ → Outcome → List ℕ → Type 0
Answers f asked bytes Clean due = (v : Version) × (records : List Record)
    × IsLegalTrace f asked v bytes records × (outcome_for asked v (reverse records) ≡ Clean)
    × (due ≡ text_for v asked (reverse records))
Answers f asked bytes Races due = (v : Version) × (records : List Record)
    × IsLegalTrace f asked v bytes records × (outcome_for asked v (reverse records) ≡ Races)
    × (due ≡ text_for v asked (reverse records))
Answers f asked bytes (Refused n c) due =
    FirstIllegal f asked bytes n c × (due ≡ refusal_for asked n c)
Answers f asked bytes _ due = ⊥
