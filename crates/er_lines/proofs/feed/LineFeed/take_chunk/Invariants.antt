use Rattle.std.proofs.Common.{◌≡◌, length}
use Rattle.er_lines.specs.Steps.{Took}
use Rattle.er_lines.proofs.feed.LineFeed.take_chunk.Given as goal

abbrev pub invariant-loop-rest : goal.invariant-loop-rest
invariant-loop-rest g l = record {
  took : Took g.L.Lines.format l.fn.self.mark l.fn.self.line.items l.fn.chunk l.self.mark l.self.line.items l.rest l.fn.out.items l.out.items;
  fault : l.self.fault ≡ l.fn.self.fault;
}

abbrev pub decreases-loop-rest : goal.decreases-loop-rest
decreases-loop-rest g l = length l.rest
