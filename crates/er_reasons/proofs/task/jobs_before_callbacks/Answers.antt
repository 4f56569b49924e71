use Rattle.std.proofs.Common.{ap}
use Rattle.er_reasons.specs.Read.{within_of}
use Rattle.er_reasons.specs.Shown.{event_shown, what_shown}
use Rattle.er_reasons.proofs.TaskLemmas.{callbacks_some, callbacks_none}
use Rattle.er_reasons.proofs.task.jobs_before_callbacks.Goals as goal

pub returns-in-Some : goal.returns-in-Some
returns-in-Some c = λ joined h stands.
    callbacks_some c.args.page.now h joined (event_shown h c.args.u.now) (event_shown h c.args.v.now) c.in-JobRun.job (within_of h c.in-JobRun.event) c.job.result c.in-Some.queued c.recorded-first.result c.declares.result
    stands c.in-Some.is c.job.ensures (ap (what_shown h) c.in-JobRun.is) c.recorded-first.ensures (c.declares.ensures h stands)

pub returns-in-None : goal.returns-in-None
returns-in-None c = λ joined h stands.
    callbacks_none c.args.page.now h joined (event_shown h c.args.u.now) (event_shown h c.args.v.now) c.in-JobRun.job (within_of h c.in-JobRun.event) c.job.result stands c.in-None.is c.job.ensures (ap (what_shown h) c.in-JobRun.is)
