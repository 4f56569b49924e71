use Rattle.std.proofs.Common.{◌∙◌, sym}
use Rattle.er_graph.specs.Accepted.{records, edges_of}
use Rattle.er_explain.proofs.StepLemmas.{begun_below, explained_none, explained_some, graph_timed, page_begun, shown_turned, some_clocks, some_graph, steps_by}
use Rattle.er_explain.proofs.explanation.explain.Goals as goal

pub go_back-requires-clause-last : goal.go_back-requires-clause-last
go_back-requires-clause-last c = begun_below c.args.graph.now c.clocks-clocks.result.now c.args.to (some_graph c.args.graph.now c.args.graph.now.stands c.requires.whole) c.requires.second c.clocks-clocks.ensures

pub go_back-requires-clause-some : goal.go_back-requires-clause-some
go_back-requires-clause-some c = some_clocks c.args.graph.now c.clocks-clocks.result.now (some_graph c.args.graph.now c.args.graph.now.stands c.requires.whole) c.clocks-clocks.ensures

pub go_back-requires-clause-begun : goal.go_back-requires-clause-begun
go_back-requires-clause-begun c = page_begun c.args.graph.now c.page.result.now c.args.to c.requires.second c.page.ensures

pub returns-then-not-joined : goal.returns-then-not-joined
returns-then-not-joined c = λ accepted is. explained_none c.args.graph.now.version (records accepted) c.args.from c.args.to (c.if-not-joined.ensures (edges_of c.args.graph.now.version accepted) (c.clocks-clocks.ensures accepted is))

pub returns : goal.returns
returns c = λ accepted is.
    let version = c.args.graph.now.version in
    let h = records accepted in
    let timed = c.clocks-clocks.ensures accepted is in
    let path = c.if-not-joined.ensures (edges_of version accepted) timed in
    let stands = graph_timed c.args.graph.now c.page.result.now c.clocks-clocks.result.now c.version.result accepted c.version.ensures (c.page.ensures accepted is.listed) timed in
    explained_some version h c.args.from c.args.to _ path
    (shown_turned c.go_back.new.found.items c.reverse.new.self.items c.reverse.ensures.items
    ∙ steps_by c.version.result version h c.args.from c.args.to _ c.version.ensures (c.in_ok-go_back.ensures.steps h stands) (sym path))
