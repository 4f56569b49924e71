use Rattle.er_lines.proofs.VersionLaws.{trace_of_version}
use Rattle.er_lines.proofs.laws.records_of_version.Goals as goal

pub returns : goal.returns
returns g c = trace_of_version g.L.Lines.format g.met.L.Lines.is_format
