use Rattle.er_run.proofs.input.step_of.Goals as goal

pub returns-then-ended-clause-ended : goal.returns-then-ended-clause-ended
returns-then-ended-clause-ended g c = λ refused is bytes records fed.
    (cc, (c.ended.ensures bytes records fed c.requires).0 c.if-ended.true)

pub returns-else-ended-clause-on : goal.returns-else-ended-clause-on
returns-else-ended-clause-on g c = λ is bytes records fed trace.
    let no = c.if-ended.false in
    let yes = (c.ended.ensures bytes records fed c.requires).1 trace in
    absurd (cc)
