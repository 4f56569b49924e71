use Rattle.std.proofs.Common.{refl}
use Rattle.er_run.specs.Answer.{format_of}
use Rattle.er_run.proofs.CutTraces as cuts
use Rattle.er_run.proofs.laws.cut_trace.Goals as goal

pub returns : goal.returns
returns c = λ asked v records bytes more is legal some. (cuts.cut_trace (format_of asked) asked v records bytes more is legal some, refl)
