use Rattle.er_pieces.proofs.NestedLaws.{nested_facts}
use Rattle.er_pieces.proofs.nested_facts_hold.Goals as goal

pub returns : goal.returns
returns c = nested_facts
