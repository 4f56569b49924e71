-- The exit status and the line on standard error of each outcome.
use Rattle.std.specs.Prelude.{ℕ, List, Option, Some, None, codes}
use Rattle.er_run.specs.declared.outcome.Outcome.{Outcome}
use Rattle.er_run.specs.declared.outcome.Outcome.TheVariants.{Clean, Races, Usage, Refused, ReadFault, WriteFault, NoMemory}

abbrev pub status_of : Outcome → ℕ
status_of Clean = 0
status_of Races = 1
status_of Usage = 2
status_of (Refused n c) = 3
status_of ReadFault = 4
status_of WriteFault = 5
status_of NoMemory = 6

abbrev pub line_of : Outcome → Option (List ℕ)
line_of Usage = Some (codes "usage: er_cli [check|gen|schedule|explain|jsonl] [--shards N] [--json] [--number N] [--race N] [--from N] [--to N]")
line_of ReadFault = Some (codes "er_cli: input could not be read")
line_of WriteFault = Some (codes "er_cli: output could not be written")
line_of NoMemory = Some (codes "er_cli: out of memory")
line_of _ = None
