-- Which records are out of order by rule 21.
use Rattle.er_history.specs.Rules.{request_rules}
use Rattle.er_history.specs.Sound.{NeverLeadBack}

-- none is
abbrev pub RequestsAreNeverLate : Type 0
RequestsAreNeverLate = NeverLeadBack request_rules
