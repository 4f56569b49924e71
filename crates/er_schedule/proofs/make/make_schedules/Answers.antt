use Rattle.std.proofs.Common.{◌∙◌}
use Rattle.er_schedule.proofs.MakeLemmas.{both_lawful, made_of}
use Rattle.er_schedule.proofs.make.make_schedules.Goals as goal

pub returns-clause-lawful : goal.returns-clause-lawful
returns-clause-lawful c = λ lists stands forward.
    let before = c.in_ok-others.ensures.before lists stands in
    let after = c.in_ok-others.ensures.after lists stands in
    both_lawful c.args.clocks.now lists c.args.i c.args.j _ _ stands forward c.requires.earlier c.requires.begun c.requires.apart
    (made_of _ _ _ _ _ c.args.i c.args.j c.in_ok-first.ensures (c.deref.ensures.value ∙ before) (c.deref-2.ensures.value ∙ after))
    (made_of _ _ _ _ _ c.args.j c.args.i c.in_ok-second.ensures (c.deref-3.ensures.value ∙ before) (c.deref-4.ensures.value ∙ after))
