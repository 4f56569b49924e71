use Rattle.std.proofs.Common.{[]}
use Rattle.er_run.proofs.session.take_trace.Goals as goal

pub returns-in-Ok-take_generated-clause-stands : goal.returns-in-Ok-take_generated-clause-stands
returns-in-Ok-take_generated-clause-stands c = c.in-Ok-take_generated.ensures.taken [] c.in-Ok.ensures.stands

pub returns-in-Err-clause-refused : goal.returns-in-Err-clause-refused
returns-in-Err-clause-refused c = rw c.in-Ok.ensures.version at (c.in-Err.ensures.refused [] c.in-Ok.ensures.stands)

pub take_generated-requires-clause-of_version : goal.take_generated-requires-clause-of_version
take_generated-requires-clause-of_version c = rw c.in-Ok.ensures.version c.requires.of_version
