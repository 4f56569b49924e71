use Rattle.er_page.proofs.page.Page.begun_jobs_of.Goals as goal

pub returns-clause-begun : goal.returns-clause-begun
returns-clause-begun c = λ h stands. c.begun_jobs_of.ensures.begun h stands.tasks
