-- A trace as lines of JSON.
use Rattle.std.specs.Prelude.{ℕ, List}
use Rattle.er_text.specs.declared.causes.Cause.{Cause}
use Rattle.er_trace.specs.declared.record.Record.{Record}
use Rattle.er_trace.specs.declared.version.Version.{Version}
use Rattle.er_lines.specs.Format.{Format}
use Rattle.er_lines.specs.Lines.{Place}
use Rattle.er_lines.specs.Lines as lines
use Rattle.er_lines.specs.json_line.Members.{Spells, IsHeader, IsEnd}

-- the most bytes of a line without its LF
abbrev pub most_line_bytes : ℕ
most_line_bytes = 4096

abbrev pub json : Format
json = record { most = most_line_bytes; IsHeader = IsHeader; IsEnd = IsEnd; Spells = λ v. Spells }

-- the bytes are a whole trace of that version with these records
abbrev pub IsTrace : Version → List ℕ → List Record → Type 0
IsTrace v bytes records = lines.IsTrace json v bytes records

-- the bytes begin with the lines before that place, and the line there has the cause
abbrev pub Refuses : List ℕ → Place → Cause → Type 0
Refuses bytes place c = lines.Refuses json bytes place c
