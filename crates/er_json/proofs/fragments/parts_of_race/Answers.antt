use Rattle.std.proofs.Common.{sym}
use Rattle.er_json.proofs.FragmentLemmas.{race_parts}
use Rattle.er_json.proofs.fragments.parts_of_race.Goals as goal

pub returns : goal.returns
returns c = sym (race_parts c.args.number c.args.group c.args.first c.args.second c.args.loc.now c.comma_before.result.now c.word.result.now c.word-2.result.now c.comma_before.ensures c.word.ensures c.word-2.ensures)
