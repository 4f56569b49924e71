use Rattle.std.proofs.Common.{sym, ◌∙◌}
use Rattle.er_text.proofs.NumberLaws.{reads_digit}
use Rattle.er_text.proofs.numbers.value_of.Goals as goal

pub loop-digit-preserved : goal.loop-digit-preserved
loop-digit-preserved c =
    reads_digit c.args.digits.now c.loop-digit.digit-index c.loop-digit.value c.loop-digit.invariant c.loop-digit-test.true (sym c.is_ascii_digit.ensures.value ∙ c.if-not-is_ascii_digit.false)
