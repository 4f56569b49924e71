use Rattle.std.proofs.Common.{arith}
use Rattle.std.proofs.lemmas.Bool.Decides.{nat_tests}
use Rattle.er_paths.specs.Paths.{joins}
use Rattle.er_history.specs.Rules.{rules}
use Rattle.er_history.specs.Edges.{up_to}
use Rattle.er_reasons.specs.Shown.{event_shown}
use Rattle.er_reasons.proofs.ReasonLemmas.{events_told}
use Rattle.er_reasons.proofs.edge.event_rule.Goals as goal

pub returns : goal.returns
returns c = λ h lists stands timed. events_told (rules c.args.version) (up_to c.args.v.now.number (joins lists)) (event_shown h c.args.u.now) (event_shown h c.args.v.now) c.any_rule.result (grind (arith, nat_tests)) (c.any_rule.ensures h lists stands timed)
