use Rattle.er_text.proofs.NumberLaws.{ReadsDigits}
use Rattle.er_text.proofs.numbers.value_of.Given as goal

abbrev pub invariant-loop-digit : goal.invariant-loop-digit
invariant-loop-digit l = ReadsDigits l.digits l.digit-index l.value
