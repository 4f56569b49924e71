use Rattle.std.proofs.Common.{sym}
use Rattle.er_json.proofs.FragmentLemmas.{group_parts}
use Rattle.er_json.proofs.fragments.parts_of_group.Goals as goal

pub returns : goal.returns
returns c = sym (group_parts c.args.number c.args.representative c.args.size c.comma_before.result.now c.comma_before.ensures)
