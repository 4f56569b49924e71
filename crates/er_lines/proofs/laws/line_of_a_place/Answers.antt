use Rattle.er_lines.proofs.LinesBefore.{line_of_a_place}
use Rattle.er_lines.proofs.laws.line_of_a_place.Goals as goal

pub returns : goal.returns
returns g c = line_of_a_place g.L.Lines.format
