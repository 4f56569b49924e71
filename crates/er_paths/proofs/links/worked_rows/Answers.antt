use Rattle.er_paths.proofs.links.Rows as row
use Rattle.er_paths.proofs.links.worked_rows.Goals as goal

pub returns : goal.returns
returns c = row.worked_rows
