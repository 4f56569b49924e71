use Rattle.std.proofs.Common.{sym, ap, ◌∙◌}
use Rattle.er_rules.specs.load.Against as says
use Rattle.er_rules.proofs.load.against.is_late.Goals as goal

pub returns-in-Parse : goal.returns-in-Parse
returns-in-Parse c = λ h page. c.is_step_late.ensures h page ∙ ap (says.is_late h) (sym c.in-Parse.is)

pub returns-in-ParseFrame : goal.returns-in-ParseFrame
returns-in-ParseFrame c = λ h page. c.is_step_late-in-ParseFrame.ensures h page ∙ ap (says.is_late h) (sym c.in-ParseFrame.is)

pub returns-in-Dcl : goal.returns-in-Dcl
returns-in-Dcl c = λ h page. c.has_load.ensures h page ∙ ap (says.is_late h) (sym c.in-Dcl.is)
