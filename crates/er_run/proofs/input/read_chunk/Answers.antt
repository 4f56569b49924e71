use Rattle.std.proofs.Common.{◌≡◌, ◌++◌, Some, take, sym, subst, arith}
use Rattle.er_trace.specs.declared.fault.FeedFault.TheVariants as faults
use Rattle.er_run.specs.Reading.{IsReading, Ends}
use Rattle.er_run.specs.Session.{version_or_first}
use Rattle.er_run.proofs.ReadingLemmas.{by_session, few_taken, whole_reading, ends_whole, ends_spent, ends_refused, refused_by}
use Rattle.er_run.proofs.input.read_chunk.Goals as goal

pub returns-then-n-eq0-clause-ended : goal.returns-then-n-eq0-clause-ended
returns-then-n-eq0-clause-ended g c = λ refused is bytes records at.
    let same : c.line_at_end.result ≡ refused = cc in
    ends_spent g.L.Lines.format _ _ c.args.feed.now.mark c.args.feed.now.line.items c.args.feed.now.fault c.args.session.now bytes c.read.new.buf c.in-Ok.n records refused c.in-Ok.ensures.given c.if-n-eq0.true (c.in-Ok.ensures.end c.if-n-eq0.true (omega arith)) at
    (subst (IsReading g.L.Lines.format (version_or_first c.args.session.now) bytes records) same (c.line_at_end.ensures bytes records at.fed (version_or_first c.args.session.now) (by_session g.L.Lines.format g.met.L.Lines.is_format c.args.session.now bytes at.by)))

pub returns-in-Err-clause-refused : goal.returns-in-Err-clause-refused
returns-in-Err-clause-refused g c = λ n cause is bytes records at.
    let same : c.in-Err.fault ≡ faults.Refused n cause = cc in
    refused_by g.L.Lines.format _ _ n cause bytes _ c.in-Err.fault same c.in-Ok.ensures.given (few_taken c.in-Ok.n c.read.new.buf c.in-Ok.ensures.placed (omega arith)) (c.in-Err.ensures.refused bytes records at)

pub returns-in-Ok-Some-clause-ended : goal.returns-in-Ok-Some-clause-ended
returns-in-Ok-Some-clause-ended g c = λ refused is bytes records at.
    let same : Some c.in-Ok-Some.refusal ≡ refused = cc in
    let fault = rw c.in-Ok-Some.field-0-is at c.in-Ok-Some.ensures.fault in
    subst (λ r. Ends g.L.Lines.format (g.S.Source.left c.args.source.now) (g.S.Source.left c.read.new.self) c.feed_chunk.new.session r bytes) same
    (ends_refused g.L.Lines.format g.met.L.Lines.is_format _ _ c.feed_chunk.new.feed.mark c.feed_chunk.new.feed.line.items c.feed_chunk.new.feed.fault c.feed_chunk.new.session bytes _ records c.in-Ok-Some.refusal c.in-Ok.ensures.given (few_taken c.in-Ok.n c.read.new.buf c.in-Ok.ensures.placed (omega arith)) (c.in-Ok-Some.ensures.on bytes records at) fault)

pub returns-in-Ok-None-clause-ended : goal.returns-in-Ok-None-clause-ended
returns-in-Ok-None-clause-ended g c = λ refused is bytes records at.
    let on = c.in-Ok-None.ensures.on bytes records at in
    let ended = c.step_of.ensures.ended refused (cc) (bytes ++ take c.in-Ok.n c.read.new.buf) (records ++ on.0) on.1.fed in
    subst (λ r. Ends g.L.Lines.format (g.S.Source.left c.args.source.now) (g.S.Source.left c.read.new.self) c.feed_chunk.new.session r bytes) (sym ended.0)
    (ends_whole g.L.Lines.format _ _ c.feed_chunk.new.feed.mark c.feed_chunk.new.feed.line.items c.feed_chunk.new.feed.fault c.feed_chunk.new.session bytes (take c.in-Ok.n c.read.new.buf) records c.in-Ok.ensures.given (few_taken c.in-Ok.n c.read.new.buf c.in-Ok.ensures.placed (omega arith)) on (whole_reading g.L.Lines.format (version_or_first c.feed_chunk.new.session) (bytes ++ take c.in-Ok.n c.read.new.buf) (records ++ on.0) ended.1 (by_session g.L.Lines.format g.met.L.Lines.is_format c.feed_chunk.new.session (bytes ++ take c.in-Ok.n c.read.new.buf) on.1.by)))

pub returns-in-Ok-None-clause-ahead : goal.returns-in-Ok-None-clause-ahead
returns-in-Ok-None-clause-ahead g c = λ is bytes records at. c.step_of.ensures.on (cc) bytes records at.fed
