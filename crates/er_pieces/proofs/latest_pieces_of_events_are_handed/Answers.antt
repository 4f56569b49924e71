use Rattle.er_pieces.proofs.HandsDispatch.{dispatch_hands_sources}
use Rattle.er_pieces.proofs.AnyTimersLemmas.{hands_timer}
use Rattle.er_pieces.proofs.HandsTimer.{hands_request}
use Rattle.er_pieces.proofs.TaskLemmas.{hands_task}
use Rattle.er_pieces.proofs.latest_pieces_of_events_are_handed.Goals as goal

pub returns-clause-dispatches : goal.returns-clause-dispatches
returns-clause-dispatches c = dispatch_hands_sources

pub returns-clause-timers : goal.returns-clause-timers
returns-clause-timers c = hands_timer

pub returns-clause-requests : goal.returns-clause-requests
returns-clause-requests c = hands_request

pub returns-clause-tasks : goal.returns-clause-tasks
returns-clause-tasks c = hands_task
