use Rattle.std.proofs.Common.{refl, ◌≡◌, ◌+◌, take, reverse, subst, arith}
use Rattle.std.proofs.lemmas.List.{length-reverse}
use Rattle.er_text.specs.declared.causes.Cause.TheVariants.{AfterEnd}
use Rattle.er_trace.specs.declared.fault.FeedFault.TheVariants as faults
use Rattle.er_run.specs.Legal.{end_cause_for}
use Rattle.er_run.specs.Accepted.{IsEndFault}
use Rattle.er_run.specs.Reading.{IsRefusedInput}
use Rattle.er_run.proofs.ReadingLemmas.{accepted_input, few_taken, reads_stand, refused_limit, refused_more, some_taken}
use Rattle.er_run.proofs.judge.judge_ended.Goals as goal

pub returns-in-Err-clause-refused : goal.returns-in-Err-clause-refused
returns-in-Err-clause-refused g c = λ n cause is first r.
    let same : c.in-Err.fault ≡ faults.Refused n cause = cc in
    refused_limit g.L.Lines.format c.args.command first (g.S.Source.left c.args.source.now) c.args.session n cause r (subst (IsEndFault (end_cause_for c.args.command c.args.session.graph.version (reverse r.ends.records)) (reverse r.ends.records)) same (c.in-Err.ensures.refused (reverse r.ends.records) r.ends.stands))

pub returns-in-Ok-eq0-clause-accepted : goal.returns-in-Ok-eq0-clause-accepted
returns-in-Ok-eq0-clause-accepted g c = λ first r.
    accepted_input g.L.Lines.format c.args.command first (g.S.Source.left c.args.source.now) (g.S.Source.left c.read.new.self) c.args.session c.in-Ok.judged c.in-Ok.ensures.version r (c.in-Ok.ensures.accepted (reverse r.ends.records) r.ends.stands)
    c.in-Ok-eq0.field-0 c.read.new.buf c.in-Ok-eq0.ensures.given c.in-Ok-eq0.field-0-test (c.in-Ok-eq0.ensures.end c.in-Ok-eq0.field-0-test (omega arith))

pub returns-in-Ok-read-clause-refused : goal.returns-in-Ok-read-clause-refused
returns-in-Ok-read-clause-refused g c = λ n cause is first r.
    let line : n ≡ c.next_line-after_end.result + 1 = cc in
    let why : AfterEnd ≡ cause = cc in
    let count = r.ends.stands.count in
    let some = some_taken c.in-Ok-read.field-0 c.read.new.buf c.in-Ok-read.ensures.placed c.in-Ok-read.field-0-test.1 in
    subst (IsRefusedInput g.L.Lines.format c.args.command first (g.S.Source.left c.read.new.self) n) why
    (refused_more g.L.Lines.format g.met.L.Lines.is_format c.args.command first (g.S.Source.left c.args.source.now) (g.S.Source.left c.read.new.self) c.args.session c.in-Ok.judged (take c.in-Ok-read.field-0 c.read.new.buf) n c.in-Ok.ensures.version r (c.in-Ok.ensures.accepted (reverse r.ends.records) r.ends.stands)
    c.in-Ok-read.ensures.given some (few_taken c.in-Ok-read.field-0 c.read.new.buf c.in-Ok-read.ensures.placed (omega arith)) (omega (arith, line, c.next_line-after_end.ensures, count, length-reverse r.ends.records)))

pub returns-in-Err-clause-reads : goal.returns-in-Err-clause-reads
returns-in-Err-clause-reads g c = reads_stand _ _ _ (λ e. cc) refl

pub returns-in-Ok-eq0-clause-reads : goal.returns-in-Ok-eq0-clause-reads
returns-in-Ok-eq0-clause-reads g c = reads_stand _ _ _ (λ e. cc) c.in-Ok-eq0.ensures.stands

pub returns-in-Ok-read-clause-reads : goal.returns-in-Ok-read-clause-reads
returns-in-Ok-read-clause-reads g c = reads_stand _ _ _ (λ e. cc) c.in-Ok-read.ensures.stands

pub returns-in-Err-read-clause-reads : goal.returns-in-Err-read-clause-reads
returns-in-Err-read-clause-reads g c = record {
  rose = λ is. c.in-Err-read.ensures.cause;
  once = λ is. c.in-Err-read.ensures.raised;
  stands = λ other. absurd (other refl);
  count = c.read.ensures.count;
}
