-- The worked rows, by computing.
use Rattle.std.proofs.Common.{refl}
use Rattle.er_cover.specs.Rows.{WorkedRows}

pub worked_rows : WorkedRows
worked_rows = (refl, refl, refl, refl, refl)
