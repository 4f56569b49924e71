use Rattle.std.proofs.Common.{◌≡◌, ◌+◌, drop}
use Rattle.er_reasons.specs.Numbers.{least_from}
use Rattle.er_reasons.proofs.numbers.least_from.Given as goal

-- those that are left decide
abbrev pub invariant-loop-n : goal.invariant-loop-n
invariant-loop-n l = least_from (l.first + l.n) (drop l.n l.tests) ≡ least_from l.first l.tests
