use Rattle.std.proofs.Common.{refl}
use Rattle.er_text.proofs.WordLaws.{lacks-joined}
use Rattle.er_text.proofs.laws.joined_line.Goals as goal

pub returns : goal.returns
returns c = λ parts h. lacks-joined 10 parts refl h
