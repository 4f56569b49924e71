-- Which records are out of order by rules 24 to 31.
use Rattle.er_history.specs.Rules.{task_rules}
use Rattle.er_history.specs.Sound.{NeverLeadBack}

-- none is
abbrev pub TasksAreNeverLate : Type 0
TasksAreNeverLate = NeverLeadBack task_rules
