use Rattle.er_run.proofs.CauseNumbers.{are_numbered}
use Rattle.er_run.proofs.laws.causes_are_numbered.Goals as goal

pub returns : goal.returns
returns c = are_numbered
