use Rattle.er_pieces.proofs.steps.Steps.{steps_follow_links}
use Rattle.er_pieces.proofs.steps.steps_follow_links.Goals as goal

pub returns : goal.returns
returns c = steps_follow_links
