use Rattle.er_cover.proofs.NumberLemmas.{set_step}
use Rattle.er_cover.proofs.classes.set_of.Goals as goal

pub loop-class-preserved : goal.loop-class-preserved
loop-class-preserved c = set_step c.args.classes.now c.loop-class.set.keys c.insert_full.new.self.keys c.loop-class.class-index _ c.loop-class-test.true c.loop-class.invariant c.in-Ok.ensures.keys
