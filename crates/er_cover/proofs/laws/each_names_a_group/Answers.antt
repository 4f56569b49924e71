use Rattle.er_cover.proofs.LawLemmas as lemmas
use Rattle.er_cover.proofs.laws.each_names_a_group.Goals as goal

pub returns-clause-within : goal.returns-clause-within
returns-clause-within c = lemmas.each_names_a_group

pub returns-clause-covers : goal.returns-clause-covers
returns-clause-covers c = lemmas.each_names_a_cover
