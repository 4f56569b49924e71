use Rattle.std.proofs.Common.{sym}
use Rattle.er_run.proofs.TellLemmas.{ends_report, reports}
use Rattle.er_run.proofs.tell.tell.Goals as goal

pub returns-clause-reported : goal.returns-clause-reported
returns-clause-reported g c = λ asked h j.
    let put = c.put_found-written.ensures asked h j in
    reports asked _ h _ _ _ _ _ _ (sym (c.outcome_found.ensures asked _ h j.is_found)) c.ends_as.ensures put.whole put.part

-- whatever was asked for

pub returns-clause-faults : goal.returns-clause-faults
returns-clause-faults g c =
    let r = c.requires in
    let put = c.put_found-written.ensures r.asked r.list r.is_judged in
    (ends_report r.asked _ r.list _ _ _ _ _ (c.outcome_found.ensures r.asked _ r.list r.is_judged.is_found) c.ends_as.ensures put.stands put.cause put.raised put.count).faults

pub returns-clause-no_memory : goal.returns-clause-no_memory
returns-clause-no_memory g c =
    let r = c.requires in
    let put = c.put_found-written.ensures r.asked r.list r.is_judged in
    (ends_report r.asked _ r.list _ _ _ _ _ (c.outcome_found.ensures r.asked _ r.list r.is_judged.is_found) c.ends_as.ensures put.stands put.cause put.raised put.count).no_memory
