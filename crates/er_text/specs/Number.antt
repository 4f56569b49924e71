-- The spelling of a number.
use Rattle.std.specs.Prelude.{◌≡◌, ℕ, ◌<◌, ◌^◌, List, decimal}

-- decimal, without a sign and without leading zeros, and below 2 ^ 32
abbrev pub IsNumber : List ℕ → ℕ → Type 0
IsNumber word n = (n < 2 ^ 32) × (word ≡ decimal n)
