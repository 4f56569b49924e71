use Rattle.std.proofs.Common.{map, inl, inr}
use Rattle.std.specs.Prelude.{IsTrue}
use Rattle.serde_json.specs.View.{view}
use Rattle.er_trace.specs.Spelling.{record_items}
use Rattle.er_lines.specs.json_line.Members.{AreMembers, end_items}
use Rattle.er_lines.proofs.json_line.RecordLemmas.{members_of}
use Rattle.er_lines.proofs.json_line.line.read_later.Goals as goal

pub returns-clause-bad : goal.returns-clause-bad
returns-clause-bad c = λ e. (
  λ end.
      let are : AreMembers end_items (map view c.in-Ok.members.items) = members_of c.args.line.now (map view c.in-Ok.members.items) end_items c.in-Ok.ensures.read end in
      let is : IsTrue c.are_end.result = c.are_end.ensures.1 (rw c.as_slice.ensures.value are) in
      absurd (cc),
  λ x spells.
      let are : AreMembers (record_items x) (map view c.in-Ok.members.items) = members_of c.args.line.now (map view c.in-Ok.members.items) (record_items x) c.in-Ok.ensures.read spells.1 in
      elim (c.read_record.ensures.exact x spells.0 (rw c.as_slice-2.ensures.value are)) [ inl ok ↦ absurd (cc) | inr none ↦ absurd (cc) ],
)
