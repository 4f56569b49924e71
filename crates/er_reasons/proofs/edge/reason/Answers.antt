use Rattle.std.proofs.Common.{arith, ◌∙◌}
use Rattle.er_history.specs.History.{told}
use Rattle.er_history.specs.Rules.{rules}
use Rattle.er_history.specs.Edges.{edges}
use Rattle.er_reasons.specs.Shown.{event_shown}
use Rattle.er_reasons.proofs.ReasonLemmas.{action_found, none_back, rule_told}
use Rattle.er_reasons.proofs.edge.reason.Goals as goal

pub returns-then-i-j : goal.returns-then-i-j
returns-then-i-j c = λ h timed. none_back (rules c.args.version) h c.args.i c.args.j (omega arith)

pub returns : goal.returns
returns c = λ h timed.
    let page = c.args.page.now in
    let stands = timed.page in
    let a = action_found page h c.args.i c.requires.first stands in
    let b = action_found page h c.args.j c.requires.second stands in
    c.lesser.ensures ∙ rule_told c.args.version h c.args.i c.args.j a.0 b.0 c.begin_of.result.now (event_shown h c.event_at-u.result) (event_shown h c.event_at-v.result) c.event_rule-between.result c.piece_rule.result (omega arith) a.1 b.1
    (c.event_at-u.ensures h a.0 stands a.1) (c.event_at-v.ensures h b.0 stands b.1) (c.begin_of.ensures h stands)
    (c.event_rule-between.ensures h (edges (rules c.args.version) (told h).actions) stands timed.clocks) (λ y. c.piece_rule.ensures h y)
