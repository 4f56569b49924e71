use Rattle.er_run.proofs.RaceLaws as lemmas
use Rattle.er_run.proofs.laws.each_race_names_a_cover.Goals as goal

pub returns : goal.returns
returns c = lemmas.each_race_names_a_cover
