use Rattle.std.proofs.Common.{◌≡◌, ℕ, List, [], ◌++◌, ◌+◌, ◌-◌, ◌≤◌, length, take, true, subst, sym, ◌∙◌, arith}
use Rattle.er_text.specs.declared.causes.Cause.TheVariants.{LongLine}
use Rattle.er_text.specs.Bytes.{has_no_lf}
use Rattle.er_lines.specs.Marks.{number_at, IsOpen, IsClosed}
use Rattle.er_lines.specs.Steps.{Took}
use Rattle.er_lines.proofs.FeedLaws.{refused_closed, refused_line, refused_long, took_line, took_all}
use Rattle.er_lines.proofs.feed.LineFeed.take_front.Goals as goal

pub returns-in-Some-clause-refused : goal.returns-in-Some-clause-refused
returns-in-Some-clause-refused g c = λ n cause e.
    let numbered : n ≡ number_at c.args.self.now.mark = cc in
    let same : c.in-Some.cause ≡ cause = cc in
    let closed : IsClosed c.args.self.now.mark cause = subst (IsClosed c.args.self.now.mark) same c.in-Some.ensures.closed in
    refused_closed g.L.Lines.format c.args.self.now.mark c.args.self.now.line.items c.args.chunk.now c.args.self.now.line.items n cause c.args.out.now.items closed c.requires numbered

pub returns-in-Err-clause-refused : goal.returns-in-Err-clause-refused
returns-in-Err-clause-refused g c = λ n cause e.
    let most : c.MOST.result ≡ g.L.Lines.format.most = c.MOST.ensures ∙ g.met.L.Lines.most in
    let kept : List ℕ = c.args.self.now.line.items in
    let free : IsOpen c.args.self.now.mark = c.in_default.ensures.open in
    let step = c.in-Ends.ensures in
    let few : length kept + length c.in-Ends.front.now ≤ g.L.Lines.format.most = omega (arith, c.len.ensures, c.args.self.now.line.ok.0, most, step.2) in
    let bad = c.end_line.ensures.refused n cause cc in
    refused_line g.L.Lines.format c.args.self.now.mark c.end_line.new.self.mark kept c.args.chunk.now c.in-Ends.front.now c.in-Ends.later.now c.end_line.new.self.line.items n cause c.args.out.now.items c.end_line.new.out.items
    free bad.1 step.0 step.1 few bad.0 bad.2 bad.3

pub returns-in_default-end_line-clause-read : goal.returns-in_default-end_line-clause-read
returns-in_default-end_line-clause-read g c =
    let most : c.MOST.result ≡ g.L.Lines.format.most = c.MOST.ensures ∙ g.met.L.Lines.most in
    let kept : List ℕ = c.args.self.now.line.items in
    let step = c.in-Ends.ensures in
    let read = c.in_default-end_line.ensures.read in
    let few : length kept + length c.in-Ends.front.now ≤ g.L.Lines.format.most = omega (arith, c.len.ensures, c.args.self.now.line.ok.0, most, step.2) in
    let none : c.end_line.new.self.line.items ≡ [] = c.in_default-end_line.ensures.none in
    let took = took_line g.L.Lines.format c.args.self.now.mark c.end_line.new.self.mark kept c.args.chunk.now c.in-Ends.front.now c.in-Ends.later.now read.0 c.args.out.now.items c.end_line.new.out.items c.in_default.ensures.open step.1 few read.1 step.0 read.2 in
    subst (λ (l : List ℕ). Took g.L.Lines.format c.args.self.now.mark kept c.args.chunk.now c.end_line.new.self.mark l c.in-Ends.later.now c.args.out.now.items c.end_line.new.out.items) (sym none) took

pub returns-in-Ok-clause-read : goal.returns-in-Ok-clause-read
returns-in-Ok-clause-read g c =
    let most : c.MOST.result ≡ g.L.Lines.format.most = c.MOST.ensures ∙ g.met.L.Lines.most in
    let kept : List ℕ = c.args.self.now.line.items in
    let step = c.in-GoesOn.ensures in
    let few : length kept + length c.args.chunk.now ≤ g.L.Lines.format.most = omega (arith, c.len.ensures, c.args.self.now.line.ok.0, most, step.1) in
    let more : c.extend_from_slice.new.self.items ≡ kept ++ c.args.chunk.now = c.in-Ok.ensures.items in
    subst (λ (l : List ℕ). Took g.L.Lines.format c.args.self.now.mark kept c.args.chunk.now c.args.self.now.mark l [] c.args.out.now.items c.args.out.now.items) (sym more)
    (took_all g.L.Lines.format c.args.self.now.mark kept c.args.chunk.now c.args.out.now.items c.in_default.ensures.open step.0 few)

pub returns-in-TooLong-clause-refused : goal.returns-in-TooLong-clause-refused
returns-in-TooLong-clause-refused g c = λ n cause e.
    let most : c.MOST.result ≡ g.L.Lines.format.most = c.MOST.ensures ∙ g.met.L.Lines.most in
    let kept : List ℕ = c.args.self.now.line.items in
    let step = c.in-TooLong.ensures in
    let same : length kept ≡ c.len.result = omega (arith, c.len.ensures, c.args.self.now.line.ok.0) in
    let clear : has_no_lf (take (g.L.Lines.format.most + 1 - length kept) c.args.chunk.now) ≡ true = rw (same, sym most) step.0 in
    let numbered : n ≡ number_at c.args.self.now.mark = cc in
    let is : cause ≡ LongLine = cc in
    refused_long g.L.Lines.format c.args.self.now.mark kept c.args.chunk.now kept n cause c.args.out.now.items c.in_default.ensures.open clear (omega (arith, same, most, step.1)) numbered is
