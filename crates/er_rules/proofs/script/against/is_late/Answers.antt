use Rattle.std.proofs.Common.{sym, ap, ◌∙◌}
use Rattle.er_rules.specs.script.Against as says
use Rattle.er_rules.proofs.script.against.is_late.Goals as goal

pub returns-in-Parse : goal.returns-in-Parse
returns-in-Parse c = λ h page. c.has_deferred_run.ensures h page ∙ ap (says.is_late h) (sym c.in-Parse.is)

pub returns-in-ParseFrame : goal.returns-in-ParseFrame
returns-in-ParseFrame c = λ h page. c.has_deferred_run-in-ParseFrame.ensures h page ∙ ap (says.is_late h) (sym c.in-ParseFrame.is)
