use Rattle.er_laws.proofs.LeastLemmas as lemma
use Rattle.er_laws.proofs.rules_are_least.Goals as goal

pub returns : goal.returns
returns c = lemma.rules_are_least
