use Rattle.er_lines.proofs.StopLaws.{longer}
use Rattle.er_jsonl.specs.Trace.{json}
use Rattle.er_jsonl.proofs.laws.longer_input.Goals as goal

pub returns : goal.returns
returns c = longer json
