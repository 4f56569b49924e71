-- A whole trace as text. Records stand oldest first.
use Rattle.std.specs.Prelude.{◌≢◌, ℕ, ◌+◌, ◌≤◌, List, [], ◌∷◌, ◌++◌, length, codes}
use Rattle.std.specs.List.{AllByRecursion, flat_map}
use Rattle.er_text.specs.Bytes.{line_end}
use Rattle.er_trace.specs.declared.record.Record.{Record}
use Rattle.er_trace.specs.declared.version.Version.{Version}
use Rattle.er_trace.specs.declared.version.Version.TheVariants.{One, Two, Three}
use Rattle.er_trace.specs.Spelling.{spelling}
use Rattle.er_trace.specs.Versions.{IsRecordOf}

-- the most lines of a trace, and the most bytes of a line without its LF
abbrev pub most_lines : ℕ
most_lines = 2097152

abbrev pub most_line_bytes : ℕ
most_line_bytes = 1024

-- the first line, which gives the version
abbrev pub header : Version → List ℕ
header One = codes "webtrace 1"
header Two = codes "webtrace 2"
header Three = codes "webtrace 3"

abbrev pub end_word : List ℕ
end_word = codes "end"

-- a line and its LF
abbrev pub line : List ℕ → List ℕ
line bytes = bytes ++ line_end ∷ []

abbrev pub lines : List Record → List ℕ
lines records = flat_map (λ x. line (spelling x)) records

-- the trace of these records in that version
abbrev pub text : Version → List Record → List ℕ
text v records = line (header v) ++ lines records ++ line end_word

-- it is the header of no version
abbrev pub IsNoHeader : List ℕ → Type 0
IsNoHeader bytes = (v : Version) → bytes ≢ header v

-- the records of a whole trace in that version
pub record IsTrace (v : Version) (records : List Record) : Type 0 where
  pub each : AllByRecursion (IsRecordOf v) records
  pub few : length records + 2 ≤ most_lines
