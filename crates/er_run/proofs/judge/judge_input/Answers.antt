use Rattle.std.proofs.Common.{◌≡◌, ◌++◌, ◌∙◌, arith}
use Rattle.std.proofs.lemmas.Result.{IfOk-weaker}
use Rattle.er_trace.specs.declared.fault.FeedFault.TheVariants.{Refused}
use Rattle.er_run.proofs.ReadingLemmas.{reads_stand, refused_input, refused_record}
use Rattle.er_run.proofs.judge.judge_input.Goals as goal

pub returns-in-None-clause-accepted : goal.returns-in-None-clause-accepted
returns-in-None-clause-accepted g c =
    let r = rw c.in-None.is at c.in-Ok.ensures.read in
    IfOk-weaker c.judge_ended.result _ _ (λ judged accepted. accepted (g.S.Source.left c.args.source.now) r) c.judge_ended.ensures.accepted

pub returns-in-None-clause-refused : goal.returns-in-None-clause-refused
returns-in-None-clause-refused g c = λ n cause is.
    let r = rw c.in-None.is at c.in-Ok.ensures.read in
    c.judge_ended.ensures.refused n cause is (g.S.Source.left c.args.source.now) r

pub returns-in-None-clause-reads : goal.returns-in-None-clause-reads
returns-in-None-clause-reads g c =
    let before = c.in-Ok.ensures.reads.stands (λ e. cc) in
    let reads = c.judge_ended.ensures.reads in
    record {
      rose = λ is. rw before at (reads.rose is);
      once = λ is. rw before at (reads.once is);
      stands = λ other. reads.stands other ∙ before;
      count = omega (arith, reads.count, before);
    }

pub returns-in-Some-clause-refused : goal.returns-in-Some-clause-refused
returns-in-Some-clause-refused g c = λ n cause is.
    let r = rw c.in-Some.is at c.in-Ok.ensures.read in
    let same : c.first_refusal-fault.result ≡ Refused n cause = cc in
    refused_input g.L.Lines.format g.met.L.Lines.is_format c.args.command (g.S.Source.left c.args.source.now) (g.S.Source.left c.read.new.source) c.in-Ok.session c.in-Some.refusal n cause r
    (c.first_refusal-fault.ensures.refused n cause same (r.bytes ++ r.ends.chunk) r.ends.records r.ends.stands r.ends.reading)

pub returns-in-Err-clause-refused : goal.returns-in-Err-clause-refused
returns-in-Err-clause-refused g c = λ n cause is. refused_record g.L.Lines.format c.args.command (g.S.Source.left c.args.source.now) (g.S.Source.left c.read.new.source) n cause (c.in-Err.ensures.refused n cause (cc))

pub returns-in-Some-clause-reads : goal.returns-in-Some-clause-reads
returns-in-Some-clause-reads g c = reads_stand _ _ _ (λ e. cc) (c.in-Ok.ensures.reads.stands (λ e. cc))
