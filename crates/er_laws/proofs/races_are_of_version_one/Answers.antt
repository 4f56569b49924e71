use Rattle.er_laws.proofs.RaceLemmas as lemma
use Rattle.er_laws.proofs.races_are_of_version_one.Goals as goal

pub returns : goal.returns
returns c = lemma.races_are_of_version_one
