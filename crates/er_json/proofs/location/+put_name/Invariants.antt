use Rattle.std.proofs.Common.{length}
use Rattle.er_json.proofs.location.+put_name.Given as goal

abbrev pub decreases-put_name : goal.decreases-put_name
decreases-put_name g l = length l.name.now
