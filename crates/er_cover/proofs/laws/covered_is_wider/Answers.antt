use Rattle.er_cover.proofs.LawLemmas as lemmas
use Rattle.er_cover.proofs.laws.covered_is_wider.Goals as goal

pub returns : goal.returns
returns c = lemmas.covered_is_wider
