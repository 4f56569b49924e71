-- A line at the front of some bytes, which is shorter than a line may be.
use Rattle.std.proofs.Common.{ℕ, List, Option, Some, None, Bor, arith}
use Rattle.std.specs.Prelude.{IfSome}
use Rattle.er_trace.specs.declared.record.Record.{Record}
use Rattle.er_lines.specs.Steps.{IsFront}
use Rattle.er_lines.specs.json_line.Members.{Spells}
use Rattle.er_lines.specs.json_line.Plain.{most_plain_bytes}
use Rattle.er_jsonl.specs.Trace.{most_line_bytes}

pub front_within : (chunk : List ℕ) (found : Option (Record × Bor (List ℕ))) → IfSome found (λ pair. IsFront most_plain_bytes Spells chunk pair.0 pair.1.now)
    → IfSome found (λ pair. IsFront most_line_bytes Spells chunk pair.0 pair.1.now)
front_within chunk None h = h
front_within chunk (Some pair) h = record { l = h.l; short = record { clear = h.short.clear; few = omega (arith, h.short.few) }; spells = h.spells; cut = h.cut }
