use Rattle.std.proofs.Common.{arith}
use Rattle.er_clocks.proofs.SharedLemmas.{shared_more}
use Rattle.er_clocks.proofs.shared.Shared.put.Goals as goal

pub returns-in-Own-clause-more : goal.returns-in-Own-clause-more
returns-in-Own-clause-more g c = λ d.
    rw (c.push_reserved.ensures.items, c.put_number-in-Own.ensures, c.in-Own.is)
    (shared_more d c.args.self.now.lists.items c.args.self.now.numbers.items c.in-Own.list c.len-number.result c.requires.shared (omega (arith, c.len-number.ensures, c.args.self.now.lists.ok.0)))
