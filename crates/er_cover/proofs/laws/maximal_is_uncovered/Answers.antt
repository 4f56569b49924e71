use Rattle.er_cover.proofs.LawLemmas as lemmas
use Rattle.er_cover.proofs.laws.maximal_is_uncovered.Goals as goal

pub returns : goal.returns
returns c = lemmas.maximal_is_uncovered
