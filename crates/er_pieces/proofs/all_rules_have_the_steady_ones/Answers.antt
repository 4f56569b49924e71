use Rattle.er_pieces.proofs.SteadyLemmas.{all_rules_are_steady}
use Rattle.er_pieces.proofs.all_rules_have_the_steady_ones.Goals as goal

pub returns : goal.returns
returns c = all_rules_are_steady
