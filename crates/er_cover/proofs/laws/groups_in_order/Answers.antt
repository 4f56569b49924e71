use Rattle.er_cover.proofs.LawLemmas as lemmas
use Rattle.er_cover.proofs.laws.groups_in_order.Goals as goal

pub returns : goal.returns
returns c = lemmas.groups_in_order
