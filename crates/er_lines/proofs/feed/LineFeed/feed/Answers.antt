use Rattle.std.proofs.Common.{ap, inl, subst, Err}
use Rattle.std.specs.Prelude.{Option}
use Rattle.std.specs.Result.{result_err}
use Rattle.er_trace.specs.declared.fault.FeedFault.{FeedFault}
use Rattle.er_lines.specs.Feed.{Stands}
use Rattle.er_lines.specs.Steps.{Leads}
use Rattle.er_lines.proofs.StopLaws.{leads_by, refuses_by, fed, fed_until, fed_again, until_again, refuses_again}
use Rattle.er_lines.proofs.feed.LineFeed.feed.Goals as goal

pub returns-in-Some-clause-fed : goal.returns-in-Some-clause-fed
returns-in-Some-clause-fed g c = λ some bytes earlier stands.
    fed_again g.L.Lines.format c.args.self.now.mark c.args.self.now.line.items c.args.chunk.now bytes c.in-Some.fault c.args.self.now.fault c.args.out.now.items earlier c.in-Some.is stands

pub returns-in-Some-clause-refused : goal.returns-in-Some-clause-refused
returns-in-Some-clause-refused g c = λ n cause e bytes earlier stands.
    until_again g.L.Lines.format c.args.self.now.mark c.args.self.now.line.items c.args.chunk.now bytes n cause c.args.self.now.fault c.args.out.now.items earlier (cc) stands

pub returns-in-Some-clause-refuses : goal.returns-in-Some-clause-refuses
returns-in-Some-clause-refuses g c = λ bytes earlier place cause stands refused other.
    inl (ap Err (refuses_again g.L.Lines.format g.met.L.Lines.is_format c.args.self.now.mark c.args.self.now.line.items c.args.chunk.now bytes c.in-Some.fault c.args.self.now.fault earlier place cause c.in-Some.is stands refused))

pub returns-clause-fed : goal.returns-clause-fed
returns-clause-fed g c = λ some bytes earlier stands.
    let leads : Leads g.L.Lines.format c.args.self.now.mark c.args.self.now.line.items c.args.chunk.now c.take_chunk-result.new.self.mark c.take_chunk-result.new.self.line.items (result_err c.take_chunk-result.result) c.args.out.now.items c.take_chunk-result.new.out.items =
    leads_by g.L.Lines.format c.take_chunk-result.result c.args.self.now.mark c.take_chunk-result.new.self.mark c.args.self.now.line.items c.take_chunk-result.new.self.line.items c.args.chunk.now c.args.out.now.items c.take_chunk-result.new.out.items
    c.take_chunk-result.ensures.read c.take_chunk-result.ensures.refused some in
    fed g.L.Lines.format c.args.self.now.mark c.take_chunk-result.new.self.mark c.args.self.now.line.items c.take_chunk-result.new.self.line.items c.args.chunk.now bytes c.args.self.now.fault c.err-self.result c.args.out.now.items c.take_chunk-result.new.out.items earlier
    (rw (c.err-self.ensures.value) leads) c.in_default.is stands

pub returns-clause-refused : goal.returns-clause-refused
returns-clause-refused g c = λ n cause e bytes earlier stands.
    fed_until g.L.Lines.format c.args.self.now.mark c.take_chunk-result.new.self.mark c.args.self.now.line.items c.take_chunk-result.new.self.line.items c.args.chunk.now bytes c.args.self.now.fault n cause c.args.out.now.items c.take_chunk-result.new.out.items earlier
    (c.take_chunk-result.ensures.refused n cause e) c.in_default.is stands

pub returns-clause-refuses : goal.returns-clause-refuses
returns-clause-refuses g c = λ bytes earlier place cause stands refused other.
    refuses_by g.L.Lines.format g.met.L.Lines.is_format c.take_chunk-result.result c.args.self.now.mark c.take_chunk-result.new.self.mark c.args.self.now.line.items c.take_chunk-result.new.self.line.items c.args.chunk.now bytes c.args.out.now.items c.take_chunk-result.new.out.items earlier place cause
    (leads_by g.L.Lines.format c.take_chunk-result.result c.args.self.now.mark c.take_chunk-result.new.self.mark c.args.self.now.line.items c.take_chunk-result.new.self.line.items c.args.chunk.now c.args.out.now.items c.take_chunk-result.new.out.items
    c.take_chunk-result.ensures.read c.take_chunk-result.ensures.refused)
    (subst (λ (f : Option FeedFault). Stands g.L.Lines.format c.args.self.now.mark c.args.self.now.line.items f bytes earlier) c.in_default.is stands) refused other
