-- Which records are out of order by rules 1 and 2.
use Rattle.er_history.specs.Rules.{parse_rules}
use Rattle.er_history.specs.Sound.{NeverLeadBack}

-- none is
abbrev pub ParsingIsNeverLate : Type 0
ParsingIsNeverLate = NeverLeadBack parse_rules
