-- What a table answers under a number, and what is noted in it.
use Rattle.std.specs.Prelude.{ℕ, Bool, false, ◌==◌, if◌then◌else◌, Option, Some, None}

-- under number k: the value, where it was noted under k
abbrev pub noted : {X : Type 0} → ℕ → ℕ → X → Option X
noted k number x = if number == k then Some x else None

abbrev pub noted_in : {X : Type 0} → ℕ → Option (ℕ × X) → Option X
noted_in k None = None
noted_in k (Some p) = noted k p.0 p.1

-- the number is k
abbrev pub is_number : ℕ → Option ℕ → Bool
is_number k None = false
is_number k (Some n) = n == k
