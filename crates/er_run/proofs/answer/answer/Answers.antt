use Rattle.std.proofs.Common.{◌≡◌, reverse}
use Rattle.er_trace.specs.declared.fault.FeedFault.TheVariants as faults
use Rattle.er_run.proofs.AnswerLemmas.{cut_report, given_report, cut_fault, given_fault, compares_report, compares_fault, tests_report, tests_fault, failed_no_memory, failed_no_usage, failed_no_read_fault}
use Rattle.er_run.proofs.answer.answer.Goals as goal

pub returns-in-Ok-clause-answered : goal.returns-in-Ok-clause-answered
returns-in-Ok-clause-answered g c = λ bytes verdict answer.
    let accepted = rw c.in-Ok.is at verdict in
    given_report g.L.Lines.format c.in-Ok.judged.session.graph.version _ bytes accepted.records _ _ _ accepted.legal (c.tell.ensures.reported c.args.asked (reverse accepted.records) accepted.is_judged) answer

pub returns-in-Ok-clause-cut_short : goal.returns-in-Ok-clause-cut_short
returns-in-Ok-clause-cut_short g c = λ bytes verdict.
    let accepted = rw c.in-Ok.is at verdict in
    cut_report g.L.Lines.format c.in-Ok.judged.session.graph.version _ bytes accepted.records _ _ _ accepted.legal (c.tell.ensures.reported c.args.asked (reverse accepted.records) accepted.is_judged)

pub returns-in-Ok-clause-counted : goal.returns-in-Ok-clause-counted
returns-in-Ok-clause-counted g c = λ bytes from to verdict by.
    let accepted = rw c.in-Ok.is at verdict in
    let judged = rw c.in-Ok.is at by in
    (compares_report g.L.Lines.format g.met.L.Lines.is_format c.args.asked bytes c.in-Ok.judged _ from.compares to.compares accepted judged.compared, tests_report g.L.Lines.format g.met.L.Lines.is_format c.args.asked bytes c.in-Ok.judged _ from.tests to.tests accepted judged.tested)

pub returns-in-Err-clause-answered : goal.returns-in-Err-clause-answered
returns-in-Err-clause-answered g c = λ bytes verdict. given_fault g.L.Lines.format _ bytes c.in-Err.fault _ _ _ (rw c.in-Err.is at verdict) c.tell_fault.ensures.failed

pub returns-in-Err-clause-cut_short : goal.returns-in-Err-clause-cut_short
returns-in-Err-clause-cut_short g c = λ bytes verdict. cut_fault g.L.Lines.format _ bytes c.in-Err.fault _ _ _ (rw c.in-Err.is at verdict) c.tell_fault.ensures.failed

pub returns-in-Err-clause-counted : goal.returns-in-Err-clause-counted
returns-in-Err-clause-counted g c = λ bytes from to verdict by.
    (compares_fault g.L.Lines.format _ bytes c.in-Err.fault _ _ _ from.compares to.compares c.tell_fault.ensures.failed, tests_fault g.L.Lines.format _ bytes c.in-Err.fault _ _ _ from.tests to.tests c.tell_fault.ensures.failed)

pub returns-in-Err-clause-no_usage : goal.returns-in-Err-clause-no_usage
returns-in-Err-clause-no_usage g c = failed_no_usage c.args.asked c.in-Err.fault c.tell_fault.result (g.K.Sink.got c.args.sink.now) (g.K.Sink.got c.tell_fault.new.sink) c.tell_fault.ensures.failed

pub returns-in-Err-clause-no_read_fault : goal.returns-in-Err-clause-no_read_fault
returns-in-Err-clause-no_read_fault g c = failed_no_read_fault c.args.asked c.in-Err.fault c.tell_fault.result (g.K.Sink.got c.args.sink.now) (g.K.Sink.got c.tell_fault.new.sink) c.tell_fault.ensures.failed

pub returns-in-Err-clause-no_memory : goal.returns-in-Err-clause-no_memory
returns-in-Err-clause-no_memory g c = λ is.
    let same : c.in-Err.fault ≡ faults.NoMemory = cc in
    failed_no_memory c.args.asked c.in-Err.fault c.tell_fault.result (g.K.Sink.got c.args.sink.now) (g.K.Sink.got c.tell_fault.new.sink) same c.tell_fault.ensures.failed

pub returns-in-Ok-clause-no_memory : goal.returns-in-Ok-clause-no_memory
returns-in-Ok-clause-no_memory g c = λ is. let ok = c.in-Ok.is in absurd (cc)
