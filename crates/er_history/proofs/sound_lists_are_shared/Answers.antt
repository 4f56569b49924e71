use Rattle.er_history.proofs.VersionLemmas.{causes_are_shared, sound_lists_are_shared}
use Rattle.er_history.proofs.sound_lists_are_shared.Goals as goal

pub returns-clause-causes : goal.returns-clause-causes
returns-clause-causes c = causes_are_shared

pub returns-clause-lists : goal.returns-clause-lists
returns-clause-lists c = sound_lists_are_shared
