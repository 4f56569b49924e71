use Rattle.er_claims.proofs.tables.Tables.take.Goals as goal

pub returns-clause-taken : goal.returns-clause-taken
returns-clause-taken c = λ h stands now. record {
  elements = c.note_element.ensures h stands.elements now;
  timeouts = c.note_timeout.ensures.set h stands.timeouts now;
  ranked = c.note_timeout.ensures.ranked h stands.ranked now;
  documents = c.note_document.ensures h stands.documents now;
  handlers = c.note_handler.ensures h stands.handlers now;
  intervals = c.note_interval.ensures h stands.intervals now;
  requests = c.note_request.ensures h stands.requests now;
  runs = c.note_run.ensures h stands.runs now;
  callbacks = c.note_callback.ensures h stands.callbacks now;
  begins = c.note_begin.ensures h stands.begins now;
  closes = c.note_close.ensures h stands.closes now;
  frames = c.note_frame.ensures h stands.frames;
  dcls = c.note_dcl.ensures h stands.dcls;
  loads = c.note_load.ensures h stands.loads;
  eloads = c.note_eload.ensures h stands.eloads;
}
