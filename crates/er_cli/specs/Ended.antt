-- With which status the program ends, and with which line on standard error.
use Rattle.std.specs.Prelude.{◌≡◌, ◌≢◌, ℕ, List, Option, Some, option_map, codes}
use Rattle.er_words.specs.declared.commands.Asked.{Asked}
use Rattle.er_words.specs.declared.commands.Command.TheVariants.{Gen}
use Rattle.er_words.specs.Words.{Asks}
use Rattle.er_run.specs.declared.outcome.Outcome.{Outcome}
use Rattle.er_run.specs.declared.outcome.Outcome.TheVariants.{Usage, ReadFault, NoMemory}
use Rattle.er_run.specs.declared.meters.Meters.{Meters}
use Rattle.er_run.specs.Promise.{IsRun, IsSilent, Streams}
use Rattle.er_run.specs.Status.{status_of, line_of}
use Rattle.er_cli.specs.declared.printed.Printed.{Printed}

-- the text of a line that was printed
abbrev pub line_printed : Option Printed → Option (List ℕ)
line_printed = option_map (λ line. line.text.now)

-- The status and the line are those of an outcome to which `run` may come for all of these words,
-- by counters that began at 0, if a caller saw this of the streams before and after.
pub record EndsWith (words : List (List ℕ)) (old new : Streams) (line : Option (List ℕ))
    (status : ℕ) : Type 0 where
  pub outcome : Outcome
  pub from : Meters
  pub to : Meters
  pub from_zero : (from.compares ≡ 0) × (from.tests ≡ 0)
  pub status_is : status ≡ status_of outcome
  pub line_is : line ≡ line_of outcome
  pub ran : IsRun words old new from to outcome
  pub unread : outcome ≡ Usage → new.left ≡ old.left
  -- a generated trace reads nothing, so only `NoMemory` and `WriteFault` can replace its answer
  pub generated : (asked : Asked) (n : ℕ) → Asks words asked → asked.command ≡ Gen n
      → (new.left ≡ old.left) × (outcome ≢ ReadFault)
  pub unwritten : IsSilent outcome → new.got ≡ old.got

-- the line if the system did not pass the arguments, and the status, which no outcome has
abbrev pub no_words_line : List ℕ
no_words_line = codes "er_cli: arguments could not be read"

abbrev pub no_words_status : ℕ
no_words_status = 7

-- how the program ends there
pub record LacksWords (line : Option (List ℕ)) (status : ℕ) : Type 0 where
  pub line_is : line ≡ Some no_words_line
  pub status_is : status ≡ no_words_status

-- how it ends if an allocation failed
pub record LacksMemory (line : Option (List ℕ)) (status : ℕ) : Type 0 where
  pub line_is : line ≡ line_of NoMemory
  pub status_is : status ≡ status_of NoMemory
