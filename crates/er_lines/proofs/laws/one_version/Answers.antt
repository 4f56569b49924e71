use Rattle.er_lines.proofs.OneReading.{one_beginning}
use Rattle.er_lines.proofs.laws.one_version.Goals as goal

pub returns : goal.returns
returns g c = one_beginning g.L.Lines.format g.met.L.Lines.is_format
