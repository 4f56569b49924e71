use Rattle.er_tasks.proofs.TaskLemmas.{event_there, event_keeps}
use Rattle.er_tasks.proofs.table.note_event.Goals as goal

pub returns-clause-made : goal.returns-clause-made
returns-clause-made c = c.note_maker.ensures.made

pub returns-clause-there : goal.returns-clause-there
returns-clause-there c = event_there _ _ c.args.number c.args.event c.note_maker.ensures.found

pub returns-clause-kept : goal.returns-clause-kept
returns-clause-kept c = event_keeps _ _ c.args.number c.args.event c.note_maker.ensures.found
