use Rattle.std.proofs.Common.{arith, ◌∙◌}
use Rattle.std.proofs.lemmas.Grind.{common_steps}
use Rattle.er_io.proofs.Puts.{gets_more}
use Rattle.er_io.proofs.put.put_all.Goals as goal

pub loop-done-preserved : goal.loop-done-preserved
loop-done-preserved g c = record {
  within = grind (arith, common_steps);
  came = gets_more _ _ _ _ _ _ c.loop-done.invariant.within c.loop-done.invariant.came c.in_ok-done.ensures.got;
  stands = c.in_ok-done.ensures.stands ∙ c.loop-done.invariant.stands;
}
