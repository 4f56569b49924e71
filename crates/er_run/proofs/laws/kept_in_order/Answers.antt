use Rattle.er_run.proofs.AccessLemmas as lemmas
use Rattle.er_run.proofs.laws.kept_in_order.Goals as goal

pub returns : goal.returns
returns c = lemmas.kept_in_order
