use Rattle.std.proofs.Common.{sym}
use Rattle.er_reasons.proofs.script.script_rule.Goals as goal

pub returns : goal.returns
returns c = λ joined h. rw (sym (c.script_made_before_run.ensures joined h), sym (c.blocking_script_before_later_step.ensures joined h), sym (c.step_before_deferred_script.ensures joined h), sym (c.blocking_before_deferred_script.ensures joined h), sym (c.deferred_scripts_as_parsed.ensures joined h)) c.least_from.ensures
