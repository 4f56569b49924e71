use Rattle.er_lines.proofs.TextLaws.{trace_to, trace_from}
use Rattle.er_lines.proofs.laws.text_traces.Goals as goal

pub returns : goal.returns
returns c = record { to = trace_to; from = trace_from }
