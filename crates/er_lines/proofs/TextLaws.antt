-- Whole traces of lines of text are the texts of er_trace.
use Rattle.std.proofs.Common.{◌≡◌, ℕ, List, [], ◌∷◌, ◌++◌, Option, Some, None, Bor, refl, ap, ◌∙◌, arith}
use Rattle.std.specs.Prelude.{IfSome}
use Rattle.std.specs.List.{AllByRecursion}
use Rattle.er_text.specs.Bytes.{line_end}
use Rattle.er_trace.specs.declared.record.Record.{Record}
use Rattle.er_trace.specs.declared.version.Version.{Version}
use Rattle.er_trace.specs.declared.version.Version.TheVariants.{One, Two, Three}
use Rattle.er_trace.specs.Spelling.{spelling, IsRecord}
use Rattle.er_trace.specs.Versions.{IsRecordOf}
use Rattle.er_trace.specs.Trace.{most_line_bytes, header, end_word, line, lines}
use Rattle.er_trace.specs.Trace as trace
use Rattle.er_syntax.proofs.RecordLaws.{spelling_is_short, spelling_has_no_lf}
use Rattle.er_lines.specs.Lines.{IsShort, AreLines, AreBehind, IsTrace}
use Rattle.er_lines.specs.Steps.{IsFront}
use Rattle.er_lines.specs.Text.{text, IsSpelled}

pub short_spelling : (x : Record) → IsRecord x → IsShort most_line_bytes (spelling x)
short_spelling x is = record { clear = spelling_has_no_lf x is; few = spelling_is_short x is }

-- the line of an access at the front is one that spells it, in each version
pub front_by : (v : Version) (chunk : List ℕ) (found : Option (Record × Bor (List ℕ)))
    → IfSome found (λ pair. ((w : Version) → IsRecordOf w pair.0) × (chunk ≡ spelling pair.0 ++ line_end ∷ pair.1.now))
    → IfSome found (λ pair. IsFront most_line_bytes (IsSpelled v) chunk pair.0 pair.1.now)
front_by v chunk None h = h
front_by v chunk (Some pair) h =
    let is : IsRecordOf v pair.0 = h.0 v in
    record { l = spelling pair.0; short = short_spelling pair.0 is.0; spells = (is, refl); cut = h.1 }

short_header : (v : Version) → IsShort most_line_bytes (header v)
short_header One = record { clear = refl; few = omega arith }
short_header Two = record { clear = refl; few = omega arith }
short_header Three = record { clear = refl; few = omega arith }

short_end : IsShort most_line_bytes end_word
short_end = record { clear = refl; few = omega arith }

pub lines_to : (v : Version) (bytes : List ℕ) (records : List Record) → AreLines text v bytes records → AllByRecursion (IsRecordOf v) records × (bytes ≡ lines records)
lines_to v bytes [] are = (tt, are)
lines_to v bytes (x ∷ records) are =
    let later : AllByRecursion (IsRecordOf v) records × (are.1 ≡ lines records) = lines_to v are.1 records are.5 in
    ((are.3.0, later.0), (are.4 ∙ ap (λ l. line l ++ are.1) are.3.1) ∙ ap (λ r. line (spelling x) ++ r) later.1)

pub lines_from : (v : Version) (records : List Record) → AllByRecursion (IsRecordOf v) records → AreLines text v (lines records) records
lines_from v [] each = refl
lines_from v (x ∷ records) each = (spelling x, lines records, short_spelling x each.0.0, (each.0, refl), refl, lines_from v records each.1)

behind_to : (v : Version) (bytes : List ℕ) (records : List Record) → AreBehind text v bytes records → AllByRecursion (IsRecordOf v) records × (bytes ≡ line (header v) ++ lines records)
behind_to v bytes records are =
    let later : AllByRecursion (IsRecordOf v) records × (are.later ≡ lines records) = lines_to v are.later records are.lines in
    (later.0, (are.begins ∙ ap (λ l. line l ++ are.later) are.header) ∙ ap (λ r. line (header v) ++ r) later.1)

pub behind_from : (v : Version) (records : List Record) → AllByRecursion (IsRecordOf v) records → AreBehind text v (line (header v) ++ lines records) records
behind_from v records each = record { first = header v; short = short_header v; header = refl; later = lines records; begins = refl; lines = lines_from v records each }

pub trace_to : (v : Version) (bytes : List ℕ) (records : List Record) → IsTrace text v bytes records → trace.IsTrace v records × (bytes ≡ trace.text v records)
trace_to v bytes records h =
    let front : AllByRecursion (IsRecordOf v) records × (h.whole.front ≡ line (header v) ++ lines records) = behind_to v h.whole.front records h.whole.behind in (
      record { each = front.0; few = h.few },
      (h.whole.begins ∙ ap (λ l. h.whole.front ++ line l) h.whole.end) ∙ ap (λ b. b ++ line end_word) front.1,
    )

pub trace_from : (v : Version) (records : List Record) → trace.IsTrace v records → IsTrace text v (trace.text v records) records
trace_from v records is = record {
  whole = record { front = line (header v) ++ lines records; behind = behind_from v records is.each; last = end_word; short = short_end; end = refl; begins = refl };
  few = is.few;
}
