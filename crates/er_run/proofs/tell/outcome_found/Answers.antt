use Rattle.std.proofs.Common.{refl, sym, ◌∙◌}
use Rattle.er_run.proofs.TellLemmas.{outcome_found, outcome_some}
use Rattle.er_run.proofs.tell.outcome_found.Goals as goal

pub returns-in-Line : goal.returns-in-Line
returns-in-Line c = λ asked v h is.
    let f = rw c.in-Line.is at is in
    rw f.0.1 (rw c.deref.ensures.value at c.outcome_of.ensures ∙ sym (outcome_found v h _ f.1.listed))

pub returns-in-Report : goal.returns-in-Report
returns-in-Report c = λ asked v h is.
    let f = rw c.in-Report.is at is in
    rw f.0.1 (rw c.deref-in-Report.ensures.value at c.outcome_of-in-Report.ensures ∙ sym (outcome_found v h _ f.1.listed))

pub returns-in-Summary : goal.returns-in-Summary
returns-in-Summary c = λ asked v h is.
    let f = rw c.in-Summary.is at is in
    rw f.0 (rw c.deref-in-Summary.ensures.value at c.outcome_of-in-Summary.ensures ∙ sym (outcome_found v h _ f.1.listed))

pub returns-in-Orders : goal.returns-in-Orders
returns-in-Orders c = λ asked v h is.
    let f = rw c.in-Orders.is at is in
    rw f.0 (sym (outcome_some v h _ _ f.1.listed f.1.has_race.0 f.1.has_race.1))

pub returns-in-Steps : goal.returns-in-Steps
returns-in-Steps c = λ asked v h is.
    let f = rw c.in-Steps.is at is in
    rw f.0 refl
