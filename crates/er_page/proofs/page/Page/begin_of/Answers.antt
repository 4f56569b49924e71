use Rattle.er_page.proofs.SeenLemmas.{begin_is, action_there}
use Rattle.er_page.proofs.page.Page.begin_of.Goals as goal

pub piece-requires : goal.piece-requires
piece-requires c = record { begun = action_there c.args.self.now c.args.action c.requires.begun }

pub returns : goal.returns
returns c = λ h is. begin_is c.args.self.now h c.args.action c.piece.result.now is c.piece.ensures
