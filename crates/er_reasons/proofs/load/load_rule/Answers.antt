use Rattle.std.proofs.Common.{sym}
use Rattle.er_reasons.proofs.load.load_rule.Goals as goal

pub returns : goal.returns
returns c = λ joined h. rw (sym (c.parsed_before_dcl.ensures joined h), sym (c.dcl_before_load.ensures joined h), sym (c.parsed_before_load.ensures joined h), sym (c.static_loads_before_load.ensures joined h), sym (c.element_before_its_load.ensures joined h), sym (c.inner_load_before_frame_load.ensures joined h)) c.least_from.ensures
