use Rattle.er_paths.specs.Paths.{joins}
use Rattle.er_history.specs.Edges.{up_to}
use Rattle.er_reasons.specs.Shown.{event_shown}
use Rattle.er_reasons.proofs.ReasonLemmas.{groups_found}
use Rattle.er_reasons.proofs.edge.any_rule.Goals as goal

pub returns : goal.returns
returns c = λ h lists stands timed.
    let joined = up_to c.args.v.now.number (joins lists) in
    groups_found c.args.version joined (event_shown h c.args.u.now) (event_shown h c.args.v.now) _ _ _ _ _ _ _ _ _ _ _ _ _
    (c.parse_rule-parse.ensures joined h) (c.script_rule.ensures joined h) (c.load_rule.ensures joined h) (c.dispatch_rule.ensures joined h) (c.timer_rule.ensures h lists stands timed) (c.request_rule.ensures joined h) (c.task_rule.ensures h lists stands timed)
    c.lesser-script.ensures c.lesser-load.ensures c.lesser-dispatch.ensures c.lesser-timer.ensures c.lesser-request.ensures c.lesser.ensures
