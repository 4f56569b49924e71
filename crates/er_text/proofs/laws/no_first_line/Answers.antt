use Rattle.er_text.proofs.LineLaws.{first_line_some, first_line_none}
use Rattle.er_text.proofs.laws.no_first_line.Goals as goal

pub returns : goal.returns
returns c = λ b. (first_line_some b, first_line_none b)
