use Rattle.std.proofs.Common.{arith}
use Rattle.std.proofs.lemmas.Grind.{common_steps}
use Rattle.er_lines.proofs.json_line.WordLemmas.{kinds_more}
use Rattle.er_lines.proofs.json_line.kinds.are_kinds.Goals as goal

pub loop-i-preserved : goal.loop-i-preserved
loop-i-preserved c =
    kinds_more c.args.members.now c.kinds_of-kinds.result.now c.loop-i.i c.index-members-i.result c.loop-i-test.true (grind arith) c.index-members-i.is c.loop-i.invariant (grind (arith, common_steps))
