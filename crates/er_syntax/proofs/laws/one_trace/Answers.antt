use Rattle.er_syntax.proofs.OneTrace.{one_text}
use Rattle.er_syntax.proofs.laws.one_trace.Goals as goal

pub returns : goal.returns
returns c = one_text
