-- Where the links of an action are.
use Rattle.std.specs.Prelude.{ℕ, ◌≤◌, List, take}
use Rattle.er_clocks.specs.declared.list.Held.{Held}
use Rattle.er_clocks.specs.declared.list.Held.TheVariants.{Few, Many}

-- how many may lie in place
abbrev pub most_in_place : ℕ
most_in_place = 6

abbrev pub numbers_of : Held → List ℕ
numbers_of (Few len place) = take len place
numbers_of (Many numbers) = numbers.value.items

abbrev pub AreInPlace : Held → Type 0
AreInPlace (Few len place) = len ≤ most_in_place
AreInPlace (Many numbers) = Unit {0}
