-- Where the bytes of a name are.
use Rattle.std.specs.Prelude.{ℕ, ◌≤◌, List, take}
use Rattle.er_trace.specs.declared.name.Held.{Held}
use Rattle.er_trace.specs.declared.name.Held.TheVariants.{Short, Long}

-- how many bytes a name may have in place
abbrev pub most_in_place : ℕ
most_in_place = 30

abbrev pub bytes_of : Held → List ℕ
bytes_of (Short len place) = take len place
bytes_of (Long bytes) = bytes.items

abbrev pub IsHeld : Held → Type 0
IsHeld (Short len place) = len ≤ most_in_place
IsHeld (Long bytes) = Unit {0}
