use Rattle.er_pieces.proofs.TogetherLemmas.{sound_lists_are_steady, all_hand, handed_stay_enough, handed_are_below}
use Rattle.er_pieces.proofs.seven_groups_together_are_enough.Goals as goal

pub returns-clause-steady : goal.returns-clause-steady
returns-clause-steady c = sound_lists_are_steady

pub returns-clause-handed : goal.returns-clause-handed
returns-clause-handed c = all_hand

pub returns-clause-enough : goal.returns-clause-enough
returns-clause-enough c = handed_stay_enough

pub returns-clause-below : goal.returns-clause-below
returns-clause-below c = handed_are_below
