use Rattle.std.proofs.Common.{sym, ◌∙◌}
use Rattle.er_lines.proofs.HeaderLaws.{header_given, header_missing}
use Rattle.er_lines.proofs.feed.LineFeed.version.Goals as goal

pub returns-clause-given : goal.returns-clause-given
returns-clause-given g c = λ version told bytes records stands.
    header_given g.L.Lines.format c.args.self.now.mark c.args.self.now.line.items bytes c.args.self.now.fault records version stands (sym c.version.ensures ∙ told)

pub returns-clause-none : goal.returns-clause-none
returns-clause-none g c = λ none bytes records stands version.
    header_missing g.L.Lines.format c.args.self.now.mark c.args.self.now.line.items bytes c.args.self.now.fault records version stands (sym c.version.ensures ∙ none)
