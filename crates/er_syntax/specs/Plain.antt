-- A line at the front of some bytes.
use Rattle.std.specs.Prelude.{◌≡◌, ℕ, List, ◌∷◌, ◌++◌}
use Rattle.er_text.specs.Bytes.{line_end}
use Rattle.er_trace.specs.declared.record.Record.{Record}
use Rattle.er_trace.specs.declared.version.Version.{Version}
use Rattle.er_trace.specs.Spelling.{spelling}
use Rattle.er_trace.specs.Versions.{IsRecordOf}

-- the line of a record that each version has, and what stands behind its LF
abbrev pub IsPlainLine : List ℕ → Record → List ℕ → Type 0
IsPlainLine bytes x later =
    ((v : Version) → IsRecordOf v x) × (bytes ≡ spelling x ++ line_end ∷ later)
