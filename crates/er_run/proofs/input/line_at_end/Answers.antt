use Rattle.er_run.proofs.ReadingLemmas.{whole_reading}
use Rattle.er_run.proofs.input.line_at_end.Goals as goal

pub returns-in-Ok : goal.returns-in-Ok
returns-in-Ok g c = λ bytes records fed v by.
    whole_reading g.L.Lines.format v bytes records (c.in-Ok.ensures.whole bytes records fed) by

pub returns-in-Err-Refused : goal.returns-in-Err-Refused
returns-in-Err-Refused g c = λ bytes records fed v by.
    let read = c.in-Err-Refused.ensures.refused c.in-Err-Refused.line c.in-Err-Refused.cause (cc) bytes records fed in
    (read.0, read.1, read.2, read.3, by)
