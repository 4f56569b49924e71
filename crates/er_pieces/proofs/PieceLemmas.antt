-- Proof of how the pieces of one event follow one another. Lists of records stand newest first.
use Rattle.std.proofs.Common.{refl, sym, ap, arith}
use Rattle.std.specs.Prelude.{◌==◌}
use Rattle.std.proofs.lemmas.Bool.{eqb-true, eq-eqb}
use Rattle.er_history.specs.History.{Event, told}
use Rattle.er_history.specs.Latest.{number_of}
use Rattle.er_history.proofs.HistoryLemmas.{actions_are_numbered}
use Rattle.er_pieces.proofs.PathLemmas.{piece_path, newest_is}
use Rattle.er_pieces.specs.Pieces.{PiecesInOrder, PiecesReachLatest}

pub pieces_in_order : PiecesInOrder
pieces_in_order table h a b first last same lt = piece_path table h a b first last same (omega (arith, lt))

pub pieces_reach_latest : PiecesReachLatest
pieces_reach_latest table h a among =
    let is = newest_is (λ (e : Event). e.number == a.event.number) (told h).actions a (actions_are_numbered h) among (eq-eqb a.event.number a.event.number refl) in (
      is.action.number,
      ap number_of is.found,
      piece_path table h a is.action among is.among (sym (eqb-true is.action.event.number a.event.number is.passes)) is.later,
    )

pub ruleset in_order = (pieces_in_order, pieces_reach_latest)
