use Rattle.er_history.specs.Tasks.{OfMessage}
use Rattle.er_reasons.proofs.task.post_before_message.Goals as goal

pub returns-in-MessageRun : goal.returns-in-MessageRun
returns-in-MessageRun c = λ joined h stands. rw c.in-MessageRun.is (c.is_declarer.ensures OfMessage c.in-MessageRun.message h stands c.message.ensures)
