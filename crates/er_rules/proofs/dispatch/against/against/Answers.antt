use Rattle.std.proofs.Common.{sym, ◌∙◌}
use Rattle.er_rules.proofs.dispatch.LateLemmas.{late_is}
use Rattle.er_rules.proofs.dispatch.against.against.Goals as goal

pub returns : goal.returns
returns c = λ table h is all named. c.is_late.ensures h is ∙ sym (late_is table h c.args.rec.now all named)
