use Rattle.std.proofs.Common.{ap, ◌∙◌}
use Rattle.std.specs.Prelude.{not}
use Rattle.er_run.proofs.SessionLemmas.{made_first}
use Rattle.er_run.proofs.session.begin.Goals as goal

pub returns-in_ok-new-clause-taken : goal.returns-in_ok-new-clause-taken
returns-in_ok-new-clause-taken c = λ h taken. made_first c.args.session.now c.in_ok-new.field-0 h (c.is_none.ensures ∙ ap not c.if-is_none.true) c.in_ok-new.ensures.stands taken
