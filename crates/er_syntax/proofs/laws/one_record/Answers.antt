use Rattle.er_syntax.proofs.OneRecord.{one_record}
use Rattle.er_syntax.proofs.laws.one_record.Goals as goal

pub returns : goal.returns
returns c = one_record
