use Rattle.er_laws.proofs.VersionLemmas as lemma
use Rattle.er_laws.proofs.paths_remain.Goals as goal

pub returns : goal.returns
returns c = lemma.paths_remain
