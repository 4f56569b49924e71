use Rattle.std.proofs.lemmas.Result.{on_ok_weaker}
use Rattle.er_tasks.proofs.table.TaskTable.make_room.Goals as goal

pub returns-clause-room : goal.returns-clause-room
returns-clause-room c = on_ok_weaker c.make_room-3.result (λ place. (c.in_ok-make_room.ensures.room, c.in_ok-make_room-2.ensures.room, place)) c.make_room-3.ensures.room
