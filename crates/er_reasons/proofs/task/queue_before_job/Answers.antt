use Rattle.er_history.specs.Tasks.{OfJob}
use Rattle.er_reasons.proofs.task.queue_before_job.Goals as goal

pub returns-in-JobRun : goal.returns-in-JobRun
returns-in-JobRun c = λ joined h stands. rw c.in-JobRun.is (c.is_declarer.ensures OfJob c.in-JobRun.job h stands c.job.ensures)
