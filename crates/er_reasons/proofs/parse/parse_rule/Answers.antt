use Rattle.std.proofs.Common.{sym}
use Rattle.er_reasons.proofs.parse.parse_rule.Goals as goal

pub returns : goal.returns
returns c = λ joined h. rw (sym (c.parse_steps_in_order.ensures joined h), sym (c.document_before_its_steps.ensures joined h)) c.least_from.ensures
