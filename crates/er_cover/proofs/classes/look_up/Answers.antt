use Rattle.std.proofs.Common.{ℕ, ◌++◌, [], ◌∷◌, ap, ◌∙◌}
use Rattle.er_cover.specs.Passes as spec
use Rattle.er_cover.proofs.NumberLemmas.{mapped_step}
use Rattle.er_cover.proofs.classes.look_up.Goals as goal

pub loop-class-preserved : goal.loop-class-preserved
loop-class-preserved c = mapped_step (spec.value_of c.args.set.now.keys c.args.values.now) c.args.asked.now c.loop-class.found.items c.push.new.self.items c.loop-class.class-index _ c.loop-class-test.true c.loop-class.invariant (c.in-Ok.ensures.items ∙ ap (λ (n : ℕ). c.loop-class.found.items ++ n ∷ []) c.value_of.ensures)
