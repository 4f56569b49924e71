use Rattle.er_reasons.proofs.read.what_of.Goals as goal

pub returns-in-Run : goal.returns-in-Run
returns-in-Run c = λ h stands. rw c.in-Run.is (c.handler_of.ensures h stands)
