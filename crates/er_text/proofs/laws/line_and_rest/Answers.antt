use Rattle.er_text.proofs.LineLaws.{first_line-at}
use Rattle.er_text.proofs.laws.line_and_rest.Goals as goal

pub returns : goal.returns
returns c = first_line-at
