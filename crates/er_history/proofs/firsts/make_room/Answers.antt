use Rattle.std.proofs.Common.{◌∙◌, sym, ap, subst}
use Rattle.std.proofs.lemmas.Bool.{eqb-true}
use Rattle.std.proofs.lemmas.Result.{on_ok_weaker}
use Rattle.er_numbers.specs.Numbers.{HasRoomUnder}
use Rattle.er_history.specs.Noted.{is_number}
use Rattle.er_history.proofs.firsts.make_room.Goals as goal

pub returns-in-Some-clause-room : goal.returns-in-Some-clause-room
returns-in-Some-clause-room g c = on_ok_weaker c.make_room.result (λ room k is. subst (HasRoomUnder c.make_room.new.self) (eqb-true c.in-Some.number k (sym (ap (is_number k) c.in-Some.is) ∙ is)) room) c.make_room.ensures.room
