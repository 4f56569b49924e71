use Rattle.er_run.specs.Legal.{class_cause}
use Rattle.er_run.proofs.end.listing_within.Goals as goal

pub groups_within-requires-clause-listed : goal.groups_within-requires-clause-listed
groups_within-requires-clause-listed g c κs within = rw c.as_slice.ensures.value c.in-Ok.ensures.listed

pub returns-in-Ok-groups_within-clause-listed : goal.returns-in-Ok-groups_within-clause-listed
returns-in-Ok-groups_within-clause-listed g c = λ h stands.
    record { listed = c.in-Ok.ensures.listed h stands; grouped = c.in-Ok-groups_within.ensures.grouped h stands }

pub returns-in-Err-clause-refused : goal.returns-in-Err-clause-refused
returns-in-Err-clause-refused g c = λ h stands. c.in-Err.ensures.refused h stands (class_cause c.args.session.now.graph.version h)
