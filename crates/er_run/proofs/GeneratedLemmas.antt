-- A generated trace is an input.
use Rattle.std.proofs.Common.{ℕ, ◌≤◌, length, None, arith}
use Rattle.er_trace.specs.declared.version.Version.TheVariants.{One}
use Rattle.er_trace.specs.Trace.{text, most_lines}
use Rattle.er_gen.specs.Generated.{generated, most_rounds}
use Rattle.er_gen.proofs.GeneratedLemmas.{generated_length, generated_fits}
use Rattle.er_lines.specs.Text.{text as text_lines}
use Rattle.er_lines.proofs.TextLaws.{trace_from}
use Rattle.er_run.specs.Reading.{IsReading}

pub few_generated : (n : ℕ) → n ≤ most_rounds → length (generated n) ≤ most_lines
few_generated n most = omega (arith, generated_length n)

pub generated_read : (n : ℕ) → n ≤ most_rounds → IsReading text_lines One (text One (generated n)) (generated n) None
generated_read n most = trace_from One (generated n) (generated_fits n most)
