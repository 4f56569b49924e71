use Rattle.er_cover.specs.Classes.{is_among}
use Rattle.er_cover.proofs.NumberLemmas.{kept_step}
use Rattle.er_cover.proofs.maximal.chosen.Goals as goal

pub loop-class-preserved : goal.loop-class-preserved
loop-class-preserved c = kept_step (λ x. is_among x c.args.set.now.keys) c.args.classes.now c.loop-class.kept.items c.keep.new.kept.items c.loop-class.class-index _ c.loop-class-test.true c.loop-class.invariant c.in_ok-keep.ensures
