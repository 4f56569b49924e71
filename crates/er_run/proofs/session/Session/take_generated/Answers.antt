use Rattle.std.proofs.Common.{subst, sym, ◌∙◌}
use Rattle.er_run.proofs.GivenLemmas.{AreTaken, none_taken, one_taken, all_taken, next_refused, next_room, next_version}
use Rattle.er_run.proofs.session.Session.take_generated.Goals as goal

pub loop-rec-init : goal.loop-rec-init
loop-rec-init c = none_taken c.args.self.now c.args.generator.now c.requires.some

pub loop-rec-preserved : goal.loop-rec-preserved
loop-rec-preserved c = subst (AreTaken c.args.self.now c.take_given.new.self c.args.generator.now) (sym c.in-Ok-Some.ensures.later)
    (one_taken c.args.self.now c.loop-rec.self c.take_given.new.self c.args.generator.now c.loop-rec.generator c.in-Ok-Some.rec c.loop-rec.invariant (sym c.in-Ok-Some.field-0-is ∙ c.in-Ok-Some.ensures.given) c.in_default.ensures.taken c.take_given.ensures.version)

pub take_given-requires-clause-room : goal.take_given-requires-clause-room
take_given-requires-clause-room c = next_room c.args.self.now c.loop-rec.self c.args.generator.now c.loop-rec.generator c.in-Ok-Some.rec c.loop-rec.invariant (sym c.in-Ok-Some.field-0-is ∙ c.in-Ok-Some.ensures.given) c.requires.room

pub take_given-requires-clause-of_version : goal.take_given-requires-clause-of_version
take_given-requires-clause-of_version c = next_version c.args.self.now c.loop-rec.self c.args.generator.now c.loop-rec.generator c.in-Ok-Some.rec c.loop-rec.invariant (sym c.in-Ok-Some.field-0-is ∙ c.in-Ok-Some.ensures.given) c.requires.of_version

pub returns-in-Err-take_given-clause-refused : goal.returns-in-Err-take_given-clause-refused
returns-in-Err-take_given-clause-refused c = λ earlier stands. next_refused c.args.self.now c.loop-rec.self c.args.generator.now c.loop-rec.generator earlier c.in-Ok-Some.rec c.in-Err-take_given.fault c.loop-rec.invariant (sym c.in-Ok-Some.field-0-is ∙ c.in-Ok-Some.ensures.given) c.in-Err-take_given.ensures.refused stands

pub returns-in-Ok-None-clause-taken : goal.returns-in-Ok-None-clause-taken
returns-in-Ok-None-clause-taken c = λ earlier stands. all_taken c.args.self.now c.loop-rec.self c.args.generator.now c.loop-rec.generator earlier c.loop-rec.invariant (sym c.in-Ok-None.field-0-is ∙ c.in-Ok-None.ensures.given) stands
