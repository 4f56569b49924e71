use Rattle.er_cover.proofs.LawLemmas as lemmas
use Rattle.er_cover.proofs.laws.each_is_covered.Goals as goal

pub returns : goal.returns
returns c = lemmas.each_is_covered
