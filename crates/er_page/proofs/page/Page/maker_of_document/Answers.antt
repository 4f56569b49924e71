use Rattle.er_page.proofs.AcceptedLemmas.{root_maker}
use Rattle.er_page.proofs.page.Page.maker_of_document.Goals as goal

pub returns-clause-root : goal.returns-clause-root
returns-clause-root c = λ zero h is. root_maker h c.args.doc c.maker_of_document.result is.accepted (c.maker_of_document.ensures h is.claimed) zero
