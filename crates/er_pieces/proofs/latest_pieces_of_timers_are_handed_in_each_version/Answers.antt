use Rattle.er_pieces.proofs.AnyTimersLemmas.{hands_timers_by}
use Rattle.er_pieces.proofs.latest_pieces_of_timers_are_handed_in_each_version.Goals as goal

pub returns : goal.returns
returns c = hands_timers_by
