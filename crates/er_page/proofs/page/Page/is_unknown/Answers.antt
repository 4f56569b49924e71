use Rattle.std.proofs.Common.{◌∙◌}
use Rattle.std.specs.Prelude.{◌||◌}
use Rattle.er_page.proofs.NamingLemmas.{either_unknown}
use Rattle.er_page.proofs.page.Page.is_unknown.Goals as goal

pub returns : goal.returns
returns c = λ h is. (λ i. c.is_unknown.ensures h is.claimed i || c.is_unknown-2.ensures h is.tasks i) ∙ either_unknown h c.args.rec.now
