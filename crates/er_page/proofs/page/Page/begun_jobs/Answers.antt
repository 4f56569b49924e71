use Rattle.er_page.proofs.page.Page.begun_jobs.Goals as goal

pub returns-clause-begun : goal.returns-clause-begun
returns-clause-begun c = λ h stands. c.begun_jobs.ensures.begun h stands.tasks
