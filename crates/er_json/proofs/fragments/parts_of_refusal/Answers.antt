use Rattle.std.proofs.Common.{sym}
use Rattle.er_json.proofs.FragmentLemmas.{refusal_parts}
use Rattle.er_json.proofs.fragments.parts_of_refusal.Goals as goal

pub returns : goal.returns
returns c = sym (refusal_parts c.args.line c.args.cause c.name.result.now c.name.ensures)
