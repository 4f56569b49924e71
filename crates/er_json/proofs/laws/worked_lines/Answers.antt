use Rattle.std.proofs.Common.{refl}
use Rattle.std.specs.Fmt.{digits}
use Rattle.serde_json.proofs.OnLiterals.{serde_json_on_literals}
use Rattle.er_json.specs.Json.{report, refusal}
use Rattle.er_json.proofs.laws.worked_lines.Goals as goal

pub returns : goal.returns
unfolding serde_json_on_literals digits report refusal
returns c = (refl, refl, refl, refl)
