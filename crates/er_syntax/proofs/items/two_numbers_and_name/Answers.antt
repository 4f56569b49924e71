use Rattle.std.proofs.Common.{arith}
use Rattle.std.proofs.lemmas.Grind.{common_steps}
use Rattle.er_syntax.proofs.items.two_numbers_and_name.Goals as goal

pub returns-clause-exact : goal.returns-clause-exact
returns-clause-exact c = λ a b name small_a small_b is e.
    let first = c.in-Some.ensures.exact a _ small_a e in
    let second = c.in_ok-b.ensures.exact b name small_b is first.1 in
    grind (arith, common_steps)
