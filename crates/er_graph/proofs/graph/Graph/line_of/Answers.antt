use Rattle.std.proofs.Common.{List, ℕ, refl, ap, arith, sym, ◌∙◌}
use Rattle.std.specs.List.{slice_get}
use Rattle.std.proofs.lemmas.Option.{slice_get_read}
use Rattle.er_graph.proofs.GraphLemmas.{within_lines}
use Rattle.er_graph.proofs.graph.Graph.line_of.Goals as goal

pub index-requires : goal.index-requires
index-requires c = omega (arith, c.args.self.now.lines.ok.0, within_lines c.args.self.now c.args.action c.requires.begun)

pub returns : goal.returns
returns c = λ accepted listed.
    let lines = c.args.self.now.lines.items in
    ap (λ (l : List ℕ). slice_get l c.args.action) (sym listed.lines) ∙ slice_get_read lines _ c.args.action c.index.result.now refl (within_lines c.args.self.now c.args.action c.requires.begun) c.index.ensures
