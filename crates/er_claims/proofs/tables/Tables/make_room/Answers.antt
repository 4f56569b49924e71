use Rattle.std.proofs.Common.{◌∙◌}
use Rattle.er_claims.proofs.tables.Tables.make_room.Goals as goal

pub returns-clause-room : goal.returns-clause-room
returns-clause-room c = record {
  elements = λ k is. c.in_ok-make_room.ensures.room k (c.made_in.ensures k ∙ is);
  timeouts = λ k is. c.in_ok-make_room-2.ensures.room k (c.set_in.ensures k ∙ is);
  documents = λ k is. c.in_ok-make_rooms.ensures.room.0 k (c.document_in.ensures k ∙ is);
  handlers = λ k is. c.in_ok-make_rooms.ensures.room.1 k (c.handler_in.ensures k ∙ is);
  intervals = λ k is. c.in_ok-make_rooms.ensures.room.2 k (c.interval_in.ensures k ∙ is);
  requests = λ k is. c.in_ok-make_rooms.ensures.room.3 k (c.request_in.ensures k ∙ is);
  runs = λ k is. c.in_ok-make_rooms-2.ensures.room.0 k (c.run_in.ensures k ∙ is);
  callbacks = λ k is. c.in_ok-make_rooms-2.ensures.room.1 k (c.callback_in.ensures k ∙ is);
  begins = λ k is. c.in_ok-make_rooms-2.ensures.room.2 k (c.begun_in.ensures k ∙ is);
  closes = λ k is. c.in_ok-make_rooms-2.ensures.room.3 k (c.closed_in.ensures k ∙ is);
  frames = λ k is. c.in_ok-make_rooms-3.ensures.room.0 k (c.document_in-2.ensures k ∙ is);
  dcls = λ k is. c.in_ok-make_rooms-3.ensures.room.1 k (c.number_of.ensures k ∙ (c.dcl_in.ensures.tells k ∙ is));
  loads = λ k is. c.in_ok-make_rooms-3.ensures.room.2 k (c.number_of-2.ensures k ∙ (c.load_in.ensures.tells k ∙ is));
  eloads = λ k is. c.in_ok-make_rooms-3.ensures.room.3 k (c.number_of-3.ensures k ∙ (c.eload_in.ensures.tells k ∙ is));
}
