use Rattle.er_lines.proofs.LinesBefore.{line_of_no_end}
use Rattle.er_jsonl.specs.Trace.{json}
use Rattle.er_jsonl.proofs.laws.line_of_no_end.Goals as goal

pub returns : goal.returns
returns c = line_of_no_end json
