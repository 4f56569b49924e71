use Rattle.er_run.specs.Answer.{format_of}
use Rattle.er_run.proofs.FormatLemmas.{good_format}
use Rattle.er_run.proofs.OneAnswer.{answer_once}
use Rattle.er_run.proofs.laws.one_answer.Goals as goal

pub returns : goal.returns
returns c = λ asked. answer_once (format_of asked) (good_format asked) asked
