use Rattle.std.proofs.Common.{length}
use Rattle.er_run.proofs.GivenLemmas.{AreTaken}
use Rattle.er_run.proofs.session.Session.take_generated.Given as goal

abbrev pub invariant-loop-rec : goal.invariant-loop-rec
invariant-loop-rec l = AreTaken l.fn.self l.self l.fn.generator l.generator

abbrev pub decreases-loop-rec : goal.decreases-loop-rec
decreases-loop-rec l = length l.generator
