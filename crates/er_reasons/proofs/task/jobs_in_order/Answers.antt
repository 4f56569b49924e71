use Rattle.std.specs.Prelude.{◌&&◌}
use Rattle.er_history.specs.Tasks.{OfJob}
use Rattle.er_reasons.proofs.task.jobs_in_order.Goals as goal

pub returns-in-JobRun-what : goal.returns-in-JobRun-what
returns-in-JobRun-what c = λ h lists stands timed. rw (c.in-JobRun.is, c.in-JobRun-what.is) (λ i.
    c.recorded-first.ensures i && c.in_order.ensures OfJob c.in-JobRun.job c.in-JobRun-what.later h lists stands timed c.job.ensures c.job-in-JobRun-what.ensures i)
