use Rattle.er_lines.proofs.LinesBefore.{line_of_no_end}
use Rattle.er_lines.proofs.laws.line_of_no_end.Goals as goal

pub returns : goal.returns
returns g c = line_of_no_end g.L.Lines.format
