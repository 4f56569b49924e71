use Rattle.er_pieces.proofs.steps.Rules.{links_are_edges}
use Rattle.er_pieces.proofs.steps.links_are_edges.Goals as goal

pub returns : goal.returns
returns c = links_are_edges
