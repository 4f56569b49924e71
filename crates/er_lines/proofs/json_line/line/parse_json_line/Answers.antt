use Rattle.std.proofs.Common.{map}
use Rattle.serde_json.specs.View.{view}
use Rattle.er_trace.specs.Spelling.{record_items}
use Rattle.er_lines.specs.json_line.Members.{AreMembers}
use Rattle.er_lines.proofs.json_line.RecordLemmas.{members_of}
use Rattle.er_lines.proofs.json_line.line.parse_json_line.Goals as goal

pub returns-clause-exact : goal.returns-clause-exact
returns-clause-exact c = λ x spells.
    let are : AreMembers (record_items x) (map view c.in-Ok.members.items) = members_of c.args.line.now (map view c.in-Ok.members.items) (record_items x) c.in-Ok.ensures.read spells.1 in
    c.read_record.ensures.exact x spells.0 (rw c.as_slice.ensures.value are)
