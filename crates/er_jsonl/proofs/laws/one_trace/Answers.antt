use Rattle.er_lines.proofs.OneReading.{one_trace}
use Rattle.er_jsonl.specs.Trace.{json}
use Rattle.er_jsonl.specs.Lawful.{json_is_format}
use Rattle.er_jsonl.proofs.laws.one_trace.Goals as goal

pub returns : goal.returns
returns c = one_trace json json_is_format
