use Rattle.er_history.proofs.VersionLemmas.{set_before_callback}
use Rattle.er_history.proofs.set_before_callback.Goals as goal

pub returns : goal.returns
returns c = set_before_callback
