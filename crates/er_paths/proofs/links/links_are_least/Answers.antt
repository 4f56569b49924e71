use Rattle.er_paths.proofs.links.Links as link
use Rattle.er_paths.proofs.links.links_are_least.Goals as goal

pub returns : goal.returns
returns c = link.links_are_least
