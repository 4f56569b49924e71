-- Which lists are legal, and when the `end` line after them is refused. Lists of records are
-- newest first.
use Rattle.std.specs.Prelude.{◌≡◌, ℕ, Bool, ◌||◌, nat_lt, nat_le, if◌then◌else◌, List, [], ◌∷◌, length, Option, Some, None}
use Rattle.er_text.specs.declared.causes.Cause.{Cause}
use Rattle.er_text.specs.declared.causes.Cause.TheVariants.{TooManyAccesses, TooManyPairs, TooManyRaces, TooManyClasses, NoRace, NoAction}
use Rattle.er_trace.specs.declared.record.Record.{Record}
use Rattle.er_trace.specs.declared.version.Version.{Version}
use Rattle.er_history.specs.History.{or_else, told}
use Rattle.er_history.specs.Rules.{Rule}
use Rattle.er_history.specs.Sound as sound
use Rattle.er_access.specs.Kept.{most_accesses}
use Rattle.er_races.specs.Races.{most_pairs, most_races}
use Rattle.er_cover.specs.Groups.{most_classes}
use Rattle.er_words.specs.declared.commands.Command.{Command}
use Rattle.er_words.specs.declared.commands.Command.TheVariants.{Check, Gen, Schedule, Explain}
use Rattle.er_run.specs.Races.{kept, candidates, races, classes}

-- with the record there are more distinct accesses than are allowed
abbrev pub is_past_room : List Record → Record → Bool
is_past_room h x = nat_lt most_accesses (length (kept (x ∷ h)))

-- the first cause for which the record is refused after the earlier ones
abbrev pub cause : List (ℕ × Rule) → List Record → Record → Option Cause
cause table h x =
    or_else (sound.cause table h x) (if is_past_room h x then Some TooManyAccesses else None)

-- each record has no cause after those before it
abbrev pub IsLegal : List (ℕ × Rule) → List Record → Type 0
IsLegal table [] = Unit {0}
IsLegal table (x ∷ h) = (cause table h x ≡ None) × IsLegal table h

-- the limit of the pairs or of the races that the records before the `end` line are over; where
-- they are over none, another cause
abbrev pub listing_cause : Version → List Record → Option Cause → Option Cause
listing_cause v h other =
    if nat_lt most_pairs (length (candidates h)) then Some TooManyPairs
    else if nat_lt most_races (length (races v h)) then Some TooManyRaces
    else other

-- the limit of the classes
abbrev pub class_cause : Version → List Record → Option Cause
class_cause v h = if nat_lt most_classes (length (classes v h)) then Some TooManyClasses else None

-- there is no race of this number: they are numbered from 1
abbrev pub race_cause : ℕ → Version → List Record → Option Cause
race_cause k v h = if nat_lt k 1 || nat_lt (length (races v h)) k then Some NoRace else None

-- of a report: the first limit that they are over
abbrev pub end_cause : Version → List Record → Option Cause
end_cause v h = listing_cause v h (class_cause v h)

-- of the orders for race number k
abbrev pub schedule_cause : ℕ → Version → List Record → Option Cause
schedule_cause k v h = listing_cause v h (race_cause k v h)

-- of an explanation: i or j is no action
abbrev pub explain_cause : ℕ → ℕ → List Record → Option Cause
explain_cause i j h = if nat_le (length (told h).actions) i
    || nat_le (length (told h).actions) j then Some NoAction else None

-- the first cause for which the `end` line after the records is refused, by command
abbrev pub end_cause_for : Command → Version → List Record → Option Cause
end_cause_for (Check json input) v h = end_cause v h
end_cause_for (Gen n) v h = end_cause v h
end_cause_for (Schedule k) v h = schedule_cause k v h
end_cause_for (Explain i j) v h = explain_cause i j h
