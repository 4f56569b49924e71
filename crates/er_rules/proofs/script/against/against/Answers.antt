use Rattle.std.proofs.Common.{sym, ◌∙◌}
use Rattle.er_rules.proofs.script.LateLemmas.{late_records_lead_back}
use Rattle.er_rules.proofs.script.against.against.Goals as goal

pub returns : goal.returns
returns c = λ table h page group sound named. c.is_late.ensures h page ∙ sym (late_records_lead_back table h c.args.rec.now group sound named)
