-- What a caller sees of a source and of a sink in memory.
use Rattle.std.specs.Prelude.{ℕ, ◌+◌, List, min}

-- a source: the bytes still to come, the most that one call gives, the numbers of the calls that
-- fail, how many calls came, and how many failed
pub record Input : Type 0 where
  pub left : List ℕ
  pub most : ℕ
  pub failing : List ℕ
  pub calls : ℕ
  pub faults : ℕ

-- a sink: the bytes taken so far, how many it has room for in all, the most that one call takes,
-- and its calls likewise
pub record Output : Type 0 where
  pub got : List ℕ
  pub room : ℕ
  pub most : ℕ
  pub failing : List ℕ
  pub calls : ℕ
  pub faults : ℕ

-- the last value of a count of calls: 2 ^ 32 - 1
abbrev pub last_call : ℕ
last_call = 4294967295

-- the number of the next call, counted from 1
abbrev pub next_call : ℕ → ℕ
next_call calls = min (calls + 1) last_call
