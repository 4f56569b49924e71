use Rattle.er_lines.proofs.json_line.RecordLemmas.{one_of_line, end_is_none}
use Rattle.er_jsonl.proofs.laws.one_record.Goals as goal

pub returns : goal.returns
returns c = record { one = one_of_line; not_end = end_is_none }
