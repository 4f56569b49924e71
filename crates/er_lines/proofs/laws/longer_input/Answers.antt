use Rattle.er_lines.proofs.StopLaws.{longer}
use Rattle.er_lines.proofs.laws.longer_input.Goals as goal

pub returns : goal.returns
returns g c = longer g.L.Lines.format
