use Rattle.std.proofs.Common.{arith}
use Rattle.er_gen.proofs.GeneratedLemmas.{at_round}
use Rattle.er_gen.proofs.records.record_at.Goals as goal

pub returns-then-place-rounds : goal.returns-then-place-rounds
returns-then-place-rounds c = search (arith, at_round)
