use Rattle.er_lines.proofs.FeedLaws.{took_front}
use Rattle.er_lines.proofs.feed.LineFeed.take_next.Goals as goal

pub returns-clause-read : goal.returns-clause-read
returns-clause-read g c =
    took_front g.L.Lines.format c.args.self.now.mark c.in-Some.next c.args.self.now.line.items c.args.chunk.now c.in-Some.left.now c.in-Some.found c.args.out.now.items c.push.new.self.items c.in-Some.ensures c.in-Ok.ensures.items
