use Rattle.std.proofs.Common.{ap, sym, ◌∙◌}
use Rattle.er_page.specs.Roles.{read}
use Rattle.er_page.proofs.AcceptedLemmas.{accepted_named}
use Rattle.er_page.proofs.SuspendedLemmas.{none_suspended, suspended_none, suspended_found}
use Rattle.er_page.proofs.page.Page.suspended_by.Goals as goal

pub returns-in_err-action : goal.returns-in_err-action
returns-in_err-action c = λ h is. c.from_residual.ensures ∙ none_suspended h c.args.dispatch (accepted_named h is.accepted) (sym (c.begin_event.ensures h is.claimed) ∙ c.in_err-action.was)

pub returns-in_err-begin : goal.returns-in_err-begin
returns-in_err-begin c = λ h is. c.from_residual-in_err-begin.ensures ∙ suspended_none c.args.self.now.pieces h c.args.dispatch c.in_ok-action.action is.pieces (accepted_named h is.accepted)
    (sym (c.begin_event.ensures h is.claimed) ∙ c.in_ok-action.was) (ap read (sym c.in_err-begin.was) ∙ c.begin.ensures)

pub returns : goal.returns
returns c = λ h is. c.suspended_at.ensures ∙ suspended_found c.args.self.now.pieces h c.args.dispatch c.in_ok-action.action c.in_ok-begin.begin.now is.pieces (accepted_named h is.accepted)
    (sym (c.begin_event.ensures h is.claimed) ∙ c.in_ok-action.was) (ap read (sym c.in_ok-begin.was) ∙ c.begin.ensures)
