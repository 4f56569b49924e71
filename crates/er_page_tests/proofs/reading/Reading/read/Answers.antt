use Rattle.std.proofs.Common.{◌≡◌, ◌∙◌, subst, inl, inr}
use Rattle.er_page_tests.specs.Lines.{HasTaken}
use Rattle.er_page_tests.proofs.reading.Reading.read.Goals as goal

pub returns-in-Ok-clause-taken : goal.returns-in-Ok-clause-taken
returns-in-Ok-clause-taken c = λ x is spelled h page.
    let same : c.in_ok-rec.rec ≡ x = elim (c.in_ok-rec.ensures.exact x is (c.as_bytes.ensures.value ∙ spelled)) [ inl read ↦ cc | inr none ↦ absurd (cc) ] in
    subst (λ y. HasTaken c.take.new.self.page y c.in-Ok.cause h) same (c.in-Ok.ensures.taken h page)
