use Rattle.std.proofs.Common.{length}
use Rattle.er_lines.proofs.StopLaws.{accepted}
use Rattle.er_lines.proofs.feed.LineFeed.ended.Goals as goal

pub returns-in_default : goal.returns-in_default
returns-in_default g c = λ bytes records stands going. (
  λ no. absurd (cc),
  λ whole.
      let at = accepted g.L.Lines.format g.met.L.Lines.is_format c.args.self.now.mark c.args.self.now.line.items bytes records records whole.0 c.args.self.now.fault whole.1 stands in
      absurd (c.in_default.not-Ended at.1.0 (length records) at.1.1),
)
