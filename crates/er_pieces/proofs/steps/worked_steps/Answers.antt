use Rattle.std.proofs.Common.{refl}
use Rattle.er_pieces.proofs.steps.worked_steps.Goals as goal

pub returns : goal.returns
returns c = (refl, refl, refl, refl, refl, refl, refl)
