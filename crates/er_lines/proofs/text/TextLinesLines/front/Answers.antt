use Rattle.er_lines.proofs.TextLaws.{front_by}
use Rattle.er_lines.proofs.text.TextLinesLines.front.Goals as goal

pub returns : goal.returns
returns c = front_by c.args.version c.args.chunk.now c.plain_line.result c.plain_line.ensures
