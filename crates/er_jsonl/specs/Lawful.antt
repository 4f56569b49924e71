-- What the format of JSON lines keeps: one version of a first line, one record of a line, and none
-- of the last line.
use Rattle.er_lines.specs.Format.{IsFormat}
use Rattle.er_jsonl.specs.Trace.{json}
use Rattle.er_lines.proofs.json_line.HeaderLemmas.{one_version}
use Rattle.er_lines.proofs.json_line.RecordLemmas.{one_of_line, of_each, end_is_none}

pub json_is_format : IsFormat json
json_is_format = record {
  one_version = one_version;
  one_record = λ v. one_of_line;
  of_version = λ v l x spells. of_each v x spells.0.1;
  not_end = λ v. end_is_none;
}
