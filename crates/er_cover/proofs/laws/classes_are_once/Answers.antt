use Rattle.er_cover.proofs.LawLemmas as lemmas
use Rattle.er_cover.proofs.laws.classes_are_once.Goals as goal

pub returns : goal.returns
returns c = lemmas.classes_are_once
