use Rattle.er_paths.proofs.links.Ascending as proof
use Rattle.er_paths.proofs.links.links_ascend.Goals as goal

pub returns : goal.returns
returns c = proof.links_ascend
