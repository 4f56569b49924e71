use Rattle.er_paths.proofs.links.Fits as proof
use Rattle.er_paths.proofs.links.chains_are_first_fit.Goals as goal

pub returns : goal.returns
returns c = proof.chains_are_first_fit
