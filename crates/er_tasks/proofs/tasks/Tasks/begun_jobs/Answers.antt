use Rattle.er_history.specs.Tasks.{OfJob}
use Rattle.er_tasks.proofs.tasks.Tasks.begun_jobs.Goals as goal

pub returns-clause-numbers : goal.returns-clause-numbers
returns-clause-numbers c = λ h stands. c.tasks.ensures.numbers OfJob h stands.jobs

pub returns-clause-begun : goal.returns-clause-begun
returns-clause-begun c = λ h stands. c.tasks.ensures.begun OfJob h stands.jobs
