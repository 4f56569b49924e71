use Rattle.std.proofs.Common.{sym, ap, subst, ◌∙◌}
use Rattle.er_history.specs.Noted.{is_number}
use Rattle.er_tasks.specs.Tasks.{TaskGiven}
use Rattle.er_tasks.proofs.TaskLemmas.{none_given, given_at}
use Rattle.er_tasks.proofs.table.task_in.Goals as goal

pub returns-in_err-number-clause-given : goal.returns-in_err-number-clause-given
returns-in_err-number-clause-given c = λ kind x a same action event.
    subst (λ o. TaskGiven kind o x a) (sym c.from_residual.ensures) (none_given kind x a (λ k. ap (is_number k) (sym c.in_err-number.was) ∙ same k))

pub returns-clause-given : goal.returns-clause-given
returns-clause-given c = λ kind x a same action event.
    given_at kind x a c.in_ok-number.number c.args.rank c.args.now.event c.args.now.action (λ k. ap (is_number k) (sym c.in_ok-number.was) ∙ same k) action event
