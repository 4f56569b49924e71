use Rattle.std.proofs.Common.{◌-◌, ◌≤◌}
use Rattle.er_text.specs.Name.{most_name}
use Rattle.er_text.proofs.NameLaws.{ReadsBytes}
use Rattle.er_text.proofs.names.read_name.Given as goal

abbrev pub invariant-loop-rest : goal.invariant-loop-rest
invariant-loop-rest l = ReadsBytes l.word l.count l.rest × (l.count ≤ most_name)

abbrev pub decreases-loop-rest : goal.decreases-loop-rest
decreases-loop-rest l = most_name - l.count
