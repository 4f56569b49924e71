use Rattle.std.proofs.Common.{◌≡◌, ◌+◌, ◌≤◌, [], arith}
use Rattle.std.proofs.lemmas.Grind.{common_steps}
use Rattle.er_trace.specs.Trace.{most_lines}
use Rattle.er_lines.proofs.FeedLaws.{front_at}
use Rattle.er_lines.proofs.feed.LineFeed.front_record.Goals as goal

pub returns : goal.returns
returns g c =
    let none : c.args.self.now.line.items ≡ [] = grind (arith, common_steps) in
    let few : c.in-After.records + 2 ≤ most_lines = omega (arith, c.if-records.false) in
    front_at g.L.Lines.format c.args.self.now.mark c.args.self.now.line.items c.args.chunk.now c.in_ok-found.left.now c.in_ok-found.found c.in-After.version c.in-After.records
    c.in-After.is few none c.in_ok-found.ensures
