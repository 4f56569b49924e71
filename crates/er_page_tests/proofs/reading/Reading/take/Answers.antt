use Rattle.er_page_tests.proofs.TakenLemmas.{misnamed, some_after, taken}
use Rattle.er_page_tests.proofs.reading.Reading.take.Goals as goal

pub returns-in-Err-clause-taken : goal.returns-in-Err-clause-taken
returns-in-Err-clause-taken c = λ h is. misnamed _ _ _ h is (c.in-Err.ensures h is)

pub invariant_of-self : goal.invariant_of-self
invariant_of-self c = record { some = some_after _ _ c.args.rec.now c.apply.result c.args.self.now.some c.in_default.ensures c.in_default-room.ensures c.apply.ensures.taken c.apply.ensures.kept }

pub returns-clause-taken : goal.returns-clause-taken
returns-clause-taken c = λ h is. taken _ _ _ h is (c.in_default.ensures h is) (c.in_default-room.ensures h is) c.in_ok-apply.ensures.taken
