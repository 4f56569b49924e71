use Rattle.er_text.proofs.LineLaws.{first_line_parts}
use Rattle.er_text.proofs.laws.parts_of_first_line.Goals as goal

pub returns : goal.returns
returns c = record { line = λ b l r h. (first_line_parts b l r h).0; bytes = λ b l r h. (first_line_parts b l r h).1 }
