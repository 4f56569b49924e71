use Rattle.std.proofs.Common.{arith, sym, ◌∙◌}
use Rattle.std.proofs.lemmas.Fmt.{decimal_nonempty, decimal_injective}
use Rattle.er_text.proofs.NumberLaws.{lacks-decimal}
use Rattle.er_text.proofs.laws.number_word.Goals as goal

pub returns : goal.returns
returns c = record {
  some = decimal_nonempty;
  no_space = λ n. lacks-decimal 32 n (omega arith);
  no_lf = λ n. lacks-decimal 10 n (omega arith);
  one = λ word m n first second. decimal_injective m n (omega arith) (omega arith) (sym first.1 ∙ second.1);
}
