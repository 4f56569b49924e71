use Rattle.er_pieces.proofs.TogetherLemmas.{hands_dispatches}
use Rattle.er_pieces.proofs.latest_pieces_of_dispatches_are_handed.Goals as goal

pub returns : goal.returns
returns c = hands_dispatches
