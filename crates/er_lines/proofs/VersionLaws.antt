-- The records of lines are of the version that the first line gives.
use Rattle.std.proofs.Common.{◌≡◌, ℕ, List, [], ◌∷◌, Bool, true, ◌&&◌, refl, ap₂}
use Rattle.std.specs.List.{list_all}
use Rattle.er_trace.specs.declared.record.Record.{Record}
use Rattle.er_trace.specs.declared.version.Version.{Version}
use Rattle.er_trace.specs.Versions.{has_record}
use Rattle.er_lines.specs.Format.{Format, IsFormat}
use Rattle.er_lines.specs.Lines.{AreLines, AreBehind, IsTrace}

lines_of_version : (f : Format) → IsFormat f → (v : Version) (bytes : List ℕ) (records : List Record) → AreLines f v bytes records → list_all (has_record v) records ≡ true
lines_of_version f is v bytes [] are = refl
lines_of_version f is v bytes (x ∷ records) are =
    ap₂ (λ (a b : Bool). a && b) (is.of_version v are.0 x are.3) (lines_of_version f is v are.1 records are.5)

pub behind_of_version : (f : Format) → IsFormat f → (v : Version) (bytes : List ℕ) (records : List Record) → AreBehind f v bytes records → list_all (has_record v) records ≡ true
behind_of_version f is v bytes records are = lines_of_version f is v are.later records are.lines

pub trace_of_version : (f : Format) → IsFormat f → (v : Version) (bytes : List ℕ) (records : List Record) → IsTrace f v bytes records → list_all (has_record v) records ≡ true
trace_of_version f is v bytes records h = behind_of_version f is v h.whole.front records h.whole.behind
