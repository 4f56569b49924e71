use Rattle.std.proofs.Common.{arith}
use Rattle.er_explain.proofs.StepLemmas.{earlier_begun}
use Rattle.er_explain.proofs.explanation.note.Goals as goal

pub reason-requires-clause-first : goal.reason-requires-clause-first
reason-requires-clause-first c = earlier_begun c.args.page.now c.args.at c.args.source (omega arith) c.requires.begun
