-- Which records are out of order by rules 18 to 20.
use Rattle.er_trace.specs.declared.version.Version.{Version}
use Rattle.er_history.specs.Rules.{timer_rules}
use Rattle.er_history.specs.Sound.{NeverLeadBack}

-- none is
abbrev pub TimersAreNeverLate : Type 0
TimersAreNeverLate = (v : Version) → NeverLeadBack (timer_rules v)
