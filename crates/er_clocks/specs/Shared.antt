-- A list for each action, where actions may share one.
use Rattle.std.specs.Prelude.{ℕ, ◌<◌, ◌≤◌, List, [], length, map, All, slice_index_or}
use Rattle.er_clocks.specs.declared.shared.Taken.{Taken}
use Rattle.er_clocks.specs.declared.shared.Taken.TheVariants.{As, Own}

-- the list of action j: empty past the last
abbrev pub row_of : List (List ℕ) → ℕ → List ℕ
row_of rows j = slice_index_or rows j []

-- what all actions have, each of which has the number of its own; d past the last
abbrev pub shared : {X : Type 0} → X → List X → List ℕ → List X
shared d lists numbers = map (λ n. slice_index_or lists n d) numbers

-- Each number is that of a list.
pub record AreShared {X : Type 0} (lists : List X) (numbers : List ℕ) : Type 0 where
  pub within : All (λ n. n < length lists) numbers
  pub few : length lists ≤ length numbers

-- what an action beside these has: the same as an earlier one, or its own
abbrev pub taken : {X : Type 0} → X → List X → Taken X → X
taken d rows (As j) = slice_index_or rows j d
taken d rows (Own row) = row

-- what is shared is there
abbrev pub IsTakenFrom : {X : Type 0} → ℕ → Taken X → Type 0
IsTakenFrom count (As j) = j < count
IsTakenFrom count (Own row) = Unit {0}
