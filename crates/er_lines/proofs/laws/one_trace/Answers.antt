use Rattle.er_lines.proofs.OneReading.{one_trace}
use Rattle.er_lines.proofs.laws.one_trace.Goals as goal

pub returns : goal.returns
returns g c = one_trace g.L.Lines.format g.met.L.Lines.is_format
