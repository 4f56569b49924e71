use Rattle.std.proofs.Common.{ℕ, ◌++◌, [], ◌∷◌, length, ap, ◌∙◌, arith}
use Rattle.er_paths.specs.Paths.{joins}
use Rattle.er_cover.specs.Groups as spec
use Rattle.er_cover.proofs.NumberLemmas.{mapped_step}
use Rattle.er_cover.proofs.PassLemmas.{step_bound}
use Rattle.er_cover.proofs.names.name_all.Goals as goal

pub loop-class-preserved : goal.loop-class-preserved
loop-class-preserved c = record {
  named = mapped_step (spec.name_of (joins c.args.clocks.now) c.args.groups.now.keys) c.args.classes.now c.loop-class.names.items c.push.new.self.items c.loop-class.class-index _ c.loop-class-test.true c.loop-class.invariant.named (c.in-Ok.ensures.items ∙ ap (λ (n : ℕ). c.loop-class.names.items ++ n ∷ []) c.name_of-name.ensures.name);
  bound = step_bound c.args.tests.now c.loop-class.tests c.name_of-name.new.tests c.loop-class.class-index (length c.args.groups.now.keys) _ c.loop-class.invariant.bound c.name_of-name.ensures.bound (omega arith);
  rises = omega (arith, c.loop-class.invariant.rises, c.name_of-name.ensures.rises);
}
