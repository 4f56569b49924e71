use Rattle.std.proofs.Common.{refl}
use Rattle.std.specs.Fmt.{digits}
use Rattle.er_gen.proofs.rows.one_round.Goals as goal

pub returns : goal.returns
unfolding digits
returns c = refl
