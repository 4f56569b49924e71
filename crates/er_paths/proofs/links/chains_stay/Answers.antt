use Rattle.er_paths.proofs.links.Chains as chain
use Rattle.er_paths.proofs.links.chains_stay.Goals as goal

pub returns : goal.returns
returns c = chain.chains_stay
