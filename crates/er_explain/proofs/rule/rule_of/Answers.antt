use Rattle.std.proofs.Common.{ap, ◌∙◌}
use Rattle.er_trace.specs.declared.version.Version.{Version}
use Rattle.er_history.specs.Rules.{rules}
use Rattle.er_pieces.specs.steps.Steps.{rule_of}
use Rattle.er_graph.specs.Accepted.{records}
use Rattle.er_explain.proofs.StepLemmas.{graph_timed, page_begun}
use Rattle.er_explain.proofs.rule.rule_of.Goals as goal

pub reason-requires : goal.reason-requires
reason-requires c = record {
  first = page_begun c.args.graph.now c.page.result.now c.args.i c.requires.first c.page.ensures;
  second = page_begun c.args.graph.now c.page.result.now c.args.j c.requires.second c.page.ensures;
}

pub returns : goal.returns
returns c = λ accepted is.
    c.reason.ensures (records accepted) (graph_timed c.args.graph.now c.page.result.now c.clocks.result.now c.version.result accepted c.version.ensures (c.page.ensures accepted is.listed) (c.clocks.ensures accepted is))
    ∙ ap (λ (v : Version). rule_of (rules v) (records accepted) c.args.i c.args.j) c.version.ensures
