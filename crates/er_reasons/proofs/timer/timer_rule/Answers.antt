use Rattle.std.proofs.Common.{sym}
use Rattle.er_paths.specs.Paths.{joins}
use Rattle.er_history.specs.Edges.{up_to}
use Rattle.er_reasons.proofs.timer.timer_rule.Goals as goal

pub returns : goal.returns
returns c = λ h lists stands timed. rw (sym (c.set_before_timer.ensures (up_to c.args.v.now.number (joins lists)) h stands), sym (c.timers_in_order.ensures h lists stands timed), sym (c.ticks_in_order.ensures (up_to c.args.v.now.number (joins lists)) h)) c.least_from.ensures
