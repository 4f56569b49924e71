use Rattle.er_page.proofs.SeenLemmas.{begun_is, event_there}
use Rattle.er_page.proofs.page.Page.begun_as.Goals as goal

pub piece-requires : goal.piece-requires
piece-requires c = record { begun = event_there c.args.self.now c.args.event c.requires.is_event }

pub returns : goal.returns
returns c = λ h is. begun_is c.args.self.now h c.args.event c.piece.result.now is c.piece.ensures
