use Rattle.er_lines.proofs.OneReading.{one_refusal, trace_not_refused}
use Rattle.er_lines.proofs.laws.one_cause.Goals as goal

pub returns : goal.returns
returns g c = record {
  place = λ bytes p q c d first second. (one_refusal g.L.Lines.format g.met.L.Lines.is_format bytes p q c d first second).place;
  cause = λ bytes p q c d first second. (one_refusal g.L.Lines.format g.met.L.Lines.is_format bytes p q c d first second).cause;
  never = trace_not_refused g.L.Lines.format g.met.L.Lines.is_format;
}
