use Rattle.std.proofs.Common.{◌∙◌, ap, subst}
use Rattle.std.specs.Prelude.{option_map}
use Rattle.std.proofs.lemmas.Result.{on_ok_weaker}
use Rattle.er_numbers.specs.Numbers.{found}
use Rattle.er_history.specs.Tasks.{OfMessage, OfAnim, OfJob}
use Rattle.er_tasks.specs.Begun.{HasPlaceFor}
use Rattle.er_tasks.specs.Tasks.{with_task}
use Rattle.er_tasks.proofs.RoomLemmas.{room_noted}
use Rattle.er_tasks.proofs.tasks.Tasks.make_room.Goals as goal

pub returns-clause-room : goal.returns-clause-room
returns-clause-room c = on_ok_weaker c.make_room-4.result (λ place. record {
  messages = room_noted OfMessage c.make_room.new.self _ _ _ (c.posted_in.ensures, c.message_in.ensures) c.in_ok-make_room.ensures.room;
  anims = room_noted OfAnim c.make_room-2.new.self _ _ _ (c.asked_in.ensures, c.anim_in.ensures) c.in_ok-make_room-2.ensures.room;
  jobs = room_noted OfJob c.make_room-3.new.self _ _ _ (c.queued_in.ensures, c.job_in.ensures) c.in_ok-make_room-3.ensures.room;
  queued = subst (HasPlaceFor c.make_room-4.new.self) (c.maker-queuer.ensures ∙ ap (λ o. option_map (λ p. p.1.maker) (with_task (found c.make_room-3.new.self.declared) o)) c.job_in-2.ensures) place;
}) c.make_room-4.ensures.room
