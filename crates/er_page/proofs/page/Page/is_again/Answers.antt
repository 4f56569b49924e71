use Rattle.std.proofs.Common.{◌∙◌}
use Rattle.std.specs.Prelude.{◌||◌}
use Rattle.er_page.proofs.NamingLemmas.{either_again}
use Rattle.er_page.proofs.page.Page.is_again.Goals as goal

pub returns : goal.returns
returns c = λ h is. (λ i. c.is_again.ensures h is.claimed i || c.is_again-2.ensures h is.tasks i) ∙ either_again h c.args.rec.now
