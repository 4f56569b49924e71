use Rattle.std.proofs.Common.{◌≡◌, true, arith}
use Rattle.er_paths.specs.Paths.{joins}
use Rattle.er_clocks.proofs.Again.{all_found}
use Rattle.er_clocks.proofs.clocks.Clocks.all_join.Goals as goal

pub returns : goal.returns
returns c = λ e. all_found (λ k. joins c.args.self.now k c.args.j ≡ true) c.args.numbers.now (λ m h. c.loop-n.invariant m (let end = c.loop-n-test.false in omega (arith, h, c.loop-n.auto.n-end, end)))
