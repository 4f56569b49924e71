use Rattle.er_laws.proofs.LeastLemmas as lemma
use Rattle.er_laws.proofs.steps_have_least_rules.Goals as goal

pub returns : goal.returns
returns c = lemma.steps_have_least_rules
