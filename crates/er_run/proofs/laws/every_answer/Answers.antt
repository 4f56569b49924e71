use Rattle.er_run.specs.Answer.{format_of}
use Rattle.er_run.proofs.EveryAnswer.{every_answer}
use Rattle.er_run.proofs.FormatLemmas.{good_format}
use Rattle.er_run.proofs.laws.every_answer.Goals as goal

pub returns : goal.returns
returns c = λ asked. every_answer (format_of asked) (good_format asked) asked
