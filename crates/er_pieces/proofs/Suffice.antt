-- Which lemmas the laws of the latest pieces cite.
use Rattle.er_pieces.proofs.EnoughParse.{enough_parse}
use Rattle.er_pieces.proofs.EnoughScript.{enough_script}
use Rattle.er_pieces.proofs.EnoughLoad.{enough_load}
use Rattle.er_pieces.proofs.EnoughDispatch.{enough_dispatch}
use Rattle.er_pieces.proofs.AnyTimersLemmas.{enough_timer}
use Rattle.er_pieces.proofs.EnoughRequest.{enough_request}
use Rattle.er_pieces.proofs.TaskLemmas.{enough_task}

pub ruleset parsing_and_loading_suffice = (enough_parse, enough_script, enough_load)

pub ruleset events_suffice = (enough_dispatch, enough_timer, enough_request, enough_task)
