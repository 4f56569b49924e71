use Rattle.std.proofs.Common.{sym}
use Rattle.er_paths.specs.Paths.{joins}
use Rattle.er_history.specs.Edges.{up_to}
use Rattle.er_reasons.proofs.task.task_rule.Goals as goal

pub returns : goal.returns
returns c = λ h lists stands timed.
    let joined = up_to c.args.v.now.number (joins lists) in
    rw (
      sym (c.post_before_message.ensures joined h stands),
      sym (c.messages_in_order.ensures h lists stands timed),
      sym (c.ask_before_anim.ensures joined h stands),
      sym (c.anims_in_order.ensures h lists stands timed),
      sym (c.queue_before_job.ensures joined h stands),
      sym (c.jobs_in_order.ensures h lists stands timed),
      sym (c.jobs_before_callbacks.ensures joined h stands),
      sym (c.jobs_before_close.ensures joined h stands),
    ) c.least_from.ensures
