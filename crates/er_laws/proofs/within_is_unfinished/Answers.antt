use Rattle.er_laws.proofs.TaskLemmas as lemma
use Rattle.er_laws.proofs.within_is_unfinished.Goals as goal

pub returns : goal.returns
returns c = lemma.within_is_unfinished
