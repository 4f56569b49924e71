use Rattle.std.proofs.Common.{refl}
use Rattle.std.specs.Fmt.{digits}
use Rattle.er_syntax.specs.Lines.{item_line}
use Rattle.er_run_tests.proofs.rows.later_representative.Goals as goal

pub returns : goal.returns
unfolding digits item_line
returns c = record { text = refl; legal = refl; within = refl; report = refl }
