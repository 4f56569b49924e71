use Rattle.er_lines.proofs.OneReading.{one_refusal, trace_not_refused}
use Rattle.er_jsonl.specs.Trace.{json}
use Rattle.er_jsonl.specs.Lawful.{json_is_format}
use Rattle.er_jsonl.proofs.laws.one_cause.Goals as goal

pub returns : goal.returns
returns c = record {
  place = λ bytes p q c d first second. (one_refusal json json_is_format bytes p q c d first second).place;
  cause = λ bytes p q c d first second. (one_refusal json json_is_format bytes p q c d first second).cause;
  never = trace_not_refused json json_is_format;
}
