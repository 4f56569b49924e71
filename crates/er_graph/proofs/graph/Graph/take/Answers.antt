use Rattle.er_graph.proofs.GraphLemmas.{grown_parts, failed_parts}
use Rattle.er_graph.proofs.graph.Graph.take.Goals as goal

pub invariant_of-self : goal.invariant_of-self
invariant_of-self c =
    let old = c.args.self.now in
    record { stands = failed_parts old.version old.page c.grow.new.page old.clocks c.grow.new.clocks old.lines.items c.grow.new.lines.items c.args.rec.now c.requires.next c.in_err-grow.ensures.kept }

pub invariant_of-self-2 : goal.invariant_of-self-2
invariant_of-self-2 c =
    let old = c.args.self.now in
    record { stands = grown_parts old.version old.page c.grow.new.page old.clocks c.grow.new.clocks old.lines.items c.grow.new.lines.items c.args.line c.args.rec.now c.requires.next c.in_ok-grow.ensures.told c.in_ok-grow.ensures.timed }
