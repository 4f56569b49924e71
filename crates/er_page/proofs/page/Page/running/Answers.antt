use Rattle.std.proofs.Common.{sym, ◌∙◌}
use Rattle.er_page.proofs.SeenLemmas.{running_is}
use Rattle.er_page.proofs.page.Page.running.Goals as goal

pub returns : goal.returns
returns c = λ h is. running_is c.args.self.now h c.in_ok-now.now is (sym c.now.ensures ∙ c.in_ok-now.was)
