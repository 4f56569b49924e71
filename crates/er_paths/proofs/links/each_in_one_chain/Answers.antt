use Rattle.er_paths.proofs.links.Fits as proof
use Rattle.er_paths.proofs.links.each_in_one_chain.Goals as goal

pub returns : goal.returns
returns c = proof.each_in_one_chain
