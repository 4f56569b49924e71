use Rattle.std.proofs.Common.{arith, sym, ◌∙◌}
use Rattle.er_gen.proofs.GeneratedLemmas.{place_fits}
use Rattle.er_gen.proofs.generator.Generator.next.Goals as goal

pub overflow_add-self : goal.overflow_add-self
overflow_add-self c = omega (arith, place_fits c.self.inside.rounds c.self.inside.given c.in-Some.found c.self.invariant (sym c.in-Some.is ∙ c.in_ok-found.ensures))
