use Rattle.er_history.proofs.TaskLemmas.{tasks_are_of_version_three}
use Rattle.er_history.proofs.tasks_are_of_version_three.Goals as goal

pub returns : goal.returns
returns c = tasks_are_of_version_three
