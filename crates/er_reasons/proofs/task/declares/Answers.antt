use Rattle.er_history.specs.Tasks.{OfMessage, OfAnim}
use Rattle.er_reasons.proofs.task.declares.Goals as goal

pub returns-in-MessageRun : goal.returns-in-MessageRun
returns-in-MessageRun c = λ h stands. rw c.in-MessageRun.is (c.is_declarer.ensures OfMessage c.in-MessageRun.message h stands c.message.ensures)

pub returns-in-AnimRun : goal.returns-in-AnimRun
returns-in-AnimRun c = λ h stands. rw c.in-AnimRun.is (c.is_declarer-in-AnimRun.ensures OfAnim c.in-AnimRun.anim h stands c.anim.ensures)
