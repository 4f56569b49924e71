use Rattle.er_history.specs.Tasks.{OfAnim}
use Rattle.er_reasons.proofs.task.ask_before_anim.Goals as goal

pub returns-in-AnimRun : goal.returns-in-AnimRun
returns-in-AnimRun c = λ joined h stands. rw c.in-AnimRun.is (c.is_declarer.ensures OfAnim c.in-AnimRun.anim h stands c.anim.ensures)
