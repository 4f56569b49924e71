use Rattle.std.proofs.Common.{◌∙◌}
use Rattle.std.specs.Prelude.{◌&&◌}
use Rattle.er_reasons.proofs.TaskLemmas.{jobs_told}
use Rattle.er_reasons.proofs.task.jobs_before_close.Goals as goal

pub returns-in-CloseOf : goal.returns-in-CloseOf
returns-in-CloseOf c = λ joined h stands. rw (c.in-JobRun.is, c.in-CloseOf.is) (λ i.
    c.recorded-first.ensures i && (c.is_among.ensures ∙ jobs_told h c.in-CloseOf.dispatch.number c.in-JobRun.event c.jobs_in.result.now (c.jobs_in.ensures h stands)) i)
