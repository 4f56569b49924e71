use Rattle.er_run.specs.Answer.{format_of}
use Rattle.er_run.proofs.CompleteLemmas.{longer}
use Rattle.er_run.proofs.laws.longer_input.Goals as goal

pub returns : goal.returns
returns c = λ asked. longer (format_of asked) asked
