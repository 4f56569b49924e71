use Rattle.er_history.specs.Tasks.{OfAnim}
use Rattle.er_tasks.proofs.tasks.Tasks.begun_anims.Goals as goal

pub returns-clause-numbers : goal.returns-clause-numbers
returns-clause-numbers c = λ h stands. c.tasks.ensures.numbers OfAnim h stands.anims

pub returns-clause-begun : goal.returns-clause-begun
returns-clause-begun c = λ h stands. c.tasks.ensures.begun OfAnim h stands.anims
