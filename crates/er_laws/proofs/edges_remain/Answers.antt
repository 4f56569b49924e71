use Rattle.er_laws.proofs.VersionLemmas as lemma
use Rattle.er_laws.proofs.edges_remain.Goals as goal

pub returns : goal.returns
returns c = lemma.edges_remain
