use Rattle.er_text.proofs.NumberLaws.{ReadsDigits}
use Rattle.er_syntax.proofs.plain.front_digits.Given as goal

abbrev pub invariant-loop-at : goal.invariant-loop-at
invariant-loop-at l = ReadsDigits l.bytes l.at l.value
