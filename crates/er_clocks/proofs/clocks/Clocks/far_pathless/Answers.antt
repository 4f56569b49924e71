use Rattle.std.proofs.Common.{ℕ, List, subst, sym}
use Rattle.er_clocks.specs.Asked.{AreLaid}
use Rattle.er_clocks.proofs.clocks.Clocks.far_pathless.Goals as goal

pub returns-in-Ok-clause-answer : goal.returns-in-Ok-clause-answer
returns-in-Ok-clause-answer c =
    c.first_uncovered.ensures.answer c.args.j (subst (λ (laid : List ℕ). AreLaid c.args.self.now c.args.j laid) (sym c.deref.ensures.value) c.in-Ok.ensures)
