use Rattle.er_run.proofs.judge.judge_end.Goals as goal

pub returns-in-Ok-clause-judged : goal.returns-in-Ok-clause-judged
returns-in-Ok-clause-judged g c =
    let some = c.requires.some in
    record {
      is = record { asked = c.args.command; list = some.list; is_judged = c.in-Ok.ensures.found some.list some.stands };
      compared = c.in-Ok.ensures.compared;
      tested = c.in-Ok.ensures.tested;
    }
