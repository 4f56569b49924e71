use Rattle.std.proofs.Common.{sym}
use Rattle.er_reasons.proofs.request.request_rule.Goals as goal

pub returns : goal.returns
returns c = λ joined h. rw (sym (c.replies_in_order.ensures joined h)) c.least_from.ensures
