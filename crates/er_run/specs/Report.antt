-- The texts that are due to a command. Lists of records stand newest first.
use Rattle.std.specs.Prelude.{ℕ, Bool, false, List, if◌then◌else◌}
use Rattle.er_text.specs.declared.causes.Cause.{Cause}
use Rattle.er_trace.specs.declared.record.Record.{Record}
use Rattle.er_trace.specs.declared.version.Version.{Version}
use Rattle.er_history.specs.History.{told}
use Rattle.er_history.specs.Rules.{rules}
use Rattle.er_history.specs.Edges.{edges}
use Rattle.er_report.specs.Report as texts
use Rattle.er_json.specs.Json as json_texts
use Rattle.er_words.specs.declared.commands.Command.{Command}
use Rattle.er_words.specs.declared.commands.Command.TheVariants.{Check, Gen, Schedule, Explain}
use Rattle.er_schedule.specs.Text as schedules
use Rattle.er_explain.specs.Text as explanations
use Rattle.er_pieces.specs.steps.Steps.{explanation}
use Rattle.er_run.specs.Races.{kept}

-- the report of the edges between its actions and of its distinct accesses
abbrev pub report : Version → List Record → List ℕ
report v h = texts.report (edges (rules v) (told h).actions) (kept h)

-- the same as a line of JSON
abbrev pub json_report : Version → List Record → List ℕ
json_report v h = json_texts.report (edges (rules v) (told h).actions) (kept h)

-- their summary, of the trace that was generated for n
abbrev pub summary : Version → ℕ → List Record → List ℕ
summary v n h = texts.summary n (edges (rules v) (told h).actions) (kept h)

-- the two orders for race number k, from 1, of its actions; for race 0 none
abbrev pub schedule : Version → ℕ → List Record → List ℕ
schedule v k h = schedules.schedule_text (edges (rules v) (told h).actions) (kept h) k

-- why a path leads from action i to action j
abbrev pub explained : Version → ℕ → ℕ → List Record → List ℕ
explained v i j h = explanations.explain_text i j (explanation (rules v) h i j)

-- what a command writes of a legal trace
abbrev pub text_for : Version → Command → List Record → List ℕ
text_for v (Check json input) h = if json then json_report v h else report v h
text_for v (Gen n) h = summary v n h
text_for v (Schedule k) h = schedule v k h
text_for v (Explain i j) h = explained v i j h

-- a line of JSON is asked for
abbrev pub is_json : Command → Bool
is_json (Check json input) = json
is_json _ = false

-- and of a refusal
abbrev pub refusal_for : Command → ℕ → Cause → List ℕ
refusal_for asked n c = if is_json asked then json_texts.refusal n c else texts.refusal n c
