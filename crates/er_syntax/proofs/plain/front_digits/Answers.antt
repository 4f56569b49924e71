use Rattle.std.proofs.Common.{◌<◌, length, sym, ◌∙◌, arith}
use Rattle.std.proofs.lemmas.Grind.{common_steps}
use Rattle.er_text.proofs.NumberLaws.{reads_digit}
use Rattle.er_syntax.proofs.plain.front_digits.Goals as goal

pub loop-at-preserved : goal.loop-at-preserved
loop-at-preserved c =
    let within : c.loop-at.at < length c.args.bytes.now = grind (arith, common_steps) in
    reads_digit c.args.bytes.now c.loop-at.at c.loop-at.value c.loop-at.invariant within (sym c.is_ascii_digit.ensures.value ∙ c.if-not-is_ascii_digit.false)
