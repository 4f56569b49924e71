use Rattle.std.proofs.Common.{map}
use Rattle.serde_json.specs.View.{view}
use Rattle.er_lines.proofs.json_line.HeaderLemmas.{header_by}
use Rattle.er_lines.proofs.json_line.line.read_header.Goals as goal

pub returns-in-Ok : goal.returns-in-Ok
returns-in-Ok c = header_by c.args.line.now (map view c.in-Ok.members.items) c.header_of.result c.in-Ok.ensures.read
    (rw c.as_slice.ensures.value at c.header_of.ensures.some) (rw c.as_slice.ensures.value at c.header_of.ensures.none)
