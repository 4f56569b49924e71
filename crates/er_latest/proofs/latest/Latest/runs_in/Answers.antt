use Rattle.std.proofs.Common.{◌∙◌}
use Rattle.er_latest.proofs.latest.Latest.runs_in.Goals as goal

pub returns : goal.returns
returns c = λ actions stands. c.of.ensures ∙ stands.runs (c.args.dispatch, c.args.group)
