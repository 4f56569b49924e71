use Rattle.er_pieces.proofs.KeptLemmas.{kept_have_begun}
use Rattle.er_pieces.proofs.stack.begins_are_as_read.Goals as goal

pub returns-clause-in_events : goal.returns-clause-in_events
returns-clause-in_events c = kept_have_begun
