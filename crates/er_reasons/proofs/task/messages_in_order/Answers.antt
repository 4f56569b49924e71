use Rattle.std.specs.Prelude.{◌&&◌}
use Rattle.er_history.specs.Tasks.{OfMessage}
use Rattle.er_reasons.proofs.task.messages_in_order.Goals as goal

pub returns-in-MessageRun-what : goal.returns-in-MessageRun-what
returns-in-MessageRun-what c = λ h lists stands timed. rw (c.in-MessageRun.is, c.in-MessageRun-what.is) (λ i.
    c.recorded-first.ensures i && c.in_order.ensures OfMessage c.in-MessageRun.message c.in-MessageRun-what.later h lists stands timed c.message.ensures c.message-in-MessageRun-what.ensures i)
