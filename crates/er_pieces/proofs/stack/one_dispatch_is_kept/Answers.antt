use Rattle.er_pieces.proofs.KeptLemmas.{open_is_kept}
use Rattle.er_pieces.proofs.stack.one_dispatch_is_kept.Goals as goal

pub returns-clause-on_the_stack : goal.returns-clause-on_the_stack
returns-clause-on_the_stack c = open_is_kept
