use Rattle.std.proofs.Common.{sym}
use Rattle.er_reasons.proofs.dispatch.dispatch_rule.Goals as goal

pub returns : goal.returns
returns c = λ joined h. rw (sym (c.target_before_dispatch.ensures joined h), sym (c.registered_before_run.ensures joined h), sym (c.dispatch_in_order.ensures joined h), sym (c.dispatches_of_one_type_in_order.ensures joined h)) c.least_from.ensures
