use Rattle.er_cover.proofs.RowLemmas as lemmas
use Rattle.er_cover.proofs.laws.worked_rows.Goals as goal

pub returns : goal.returns
returns c = lemmas.worked_rows
