-- What is found under each number.
use Rattle.std.specs.Prelude.{ℕ, ◌<◌, ◌≤◌, ◌+◌, ◌^◌, ◌≡◌, Bool, true, Option, Some, None, get_or, length, nat_eq}
use Rattle.indexmap.specs.IndexMap.{get, spare}
use Rattle.er_numbers.specs.declared.Numbers.{Numbers}

-- the first, or where there is none the second
abbrev pub or_else : {V : Type 0} → Option V → Option V → Option V
or_else None o = o
or_else (Some x) o = Some x

-- in the vector, or else in the table
abbrev pub found : {V : Type 0} → Numbers V → ℕ → Option V
found xs k = or_else (get_or xs.dense.items k None) (get nat_eq xs.sparse k)

-- a value may be put under the number: one more can be counted, and it has a place in the vector,
-- or the table has room
pub record HasRoomUnder {V : Type 0} (xs : Numbers V) (number : ℕ) : Type 0 where
  pub counts : xs.count + 1 < 2 ^ 64
  pub place : length xs.dense.items ≤ number → 0 < spare xs.sparse

-- values may be put under each number that passes
abbrev pub HasRoomWhere : {V : Type 0} → Numbers V → (ℕ → Bool) → Type 0
HasRoomWhere xs test = (k : ℕ) → test k ≡ true → HasRoomUnder xs k
