use Rattle.er_lines.proofs.CutTraces.{cut_trace as is_cut}
use Rattle.er_lines.proofs.laws.cut_trace.Goals as goal

pub returns : goal.returns
returns g c = is_cut g.L.Lines.format
