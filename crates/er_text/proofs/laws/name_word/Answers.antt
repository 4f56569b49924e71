use Rattle.std.proofs.Common.{arith}
use Rattle.er_text.proofs.NameLaws.{lacks-name_spelling, name_spelling_injective, length_of_spelling}
use Rattle.er_text.proofs.laws.name_word.Goals as goal

pub returns : goal.returns
returns c = record {
  some = λ name is. omega (arith, is.some, (length_of_spelling name).0);
  few = λ name is. omega (arith, is.few, (length_of_spelling name).1);
  no_space = λ name. lacks-name_spelling 32 name (omega arith);
  no_lf = λ name. lacks-name_spelling 10 name (omega arith);
  one = λ a b first second. name_spelling_injective a b first.bytes second.bytes;
}
