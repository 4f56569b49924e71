use Rattle.er_laws.proofs.KeptLemmas as lemma
use Rattle.er_laws.proofs.chains_are_kept.Goals as goal

pub returns : goal.returns
returns c = lemma.chains_are_kept
