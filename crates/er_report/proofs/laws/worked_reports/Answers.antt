use Rattle.std.proofs.Common.{refl}
use Rattle.std.specs.Fmt.{digits}
use Rattle.er_syntax.specs.Lines.{item_line}
use Rattle.er_report.proofs.laws.worked_reports.Goals as goal

pub returns : goal.returns
unfolding item_line digits
returns c = (refl, refl)
