use Rattle.er_run.proofs.RaceLaws as lemmas
use Rattle.er_run.proofs.laws.races_in_order.Goals as goal

pub returns : goal.returns
returns c = lemmas.races_in_order
