use Rattle.std.specs.Prelude.{◌&&◌}
use Rattle.er_history.specs.Tasks.{OfAnim}
use Rattle.er_reasons.proofs.task.anims_in_order.Goals as goal

pub returns-in-AnimRun-what : goal.returns-in-AnimRun-what
returns-in-AnimRun-what c = λ h lists stands timed. rw (c.in-AnimRun.is, c.in-AnimRun-what.is) (λ i.
    c.recorded-first.ensures i && c.in_order.ensures OfAnim c.in-AnimRun.anim c.in-AnimRun-what.later h lists stands timed c.anim.ensures c.anim-in-AnimRun-what.ensures i)
