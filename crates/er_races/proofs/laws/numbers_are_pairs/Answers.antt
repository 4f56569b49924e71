use Rattle.er_races.proofs.RaceLemmas as lemmas
use Rattle.er_races.proofs.laws.numbers_are_pairs.Goals as goal

pub returns : goal.returns
returns c = lemmas.numbers_are_pairs
