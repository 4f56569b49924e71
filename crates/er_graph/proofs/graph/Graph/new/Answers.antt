use Rattle.er_graph.proofs.PartLemmas.{nothing_yet}
use Rattle.er_graph.proofs.graph.Graph.new.Goals as goal

pub invariant_of-result : goal.invariant_of-result
invariant_of-result c = record { stands = ∣ nothing_yet c.args.version c.in_ok-new.field-0 c.new-2.result c.new-3.result.items c.in_ok-new.ensures c.new-2.ensures.stands c.new-3.ensures.items ∣₁ }
