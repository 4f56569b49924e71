use Rattle.er_history.proofs.VersionLemmas.{paths_before_suffice}
use Rattle.er_history.proofs.paths_before_suffice.Goals as goal

pub returns : goal.returns
returns c = paths_before_suffice
