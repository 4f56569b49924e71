-- What a source gives and a sink takes. The bytes of an end are told (`Some`) or not (`None`).
use Rattle.std.specs.Prelude.{◌≡◌, ◌⊎◌, ℕ, ◌+◌, ◌<◌, ◌≤◌, List, [], ◌++◌, length, take, min, Option, None, option_map, IfSome, Result, OnOk, OnErr}
use Rattle.std.specs.Io.KnownBytes.{Appends}

-- the bytes of an end that does not tell them
abbrev pub untold : Option (List ℕ)
untold = None

-- these bytes were the front of what was left, and are taken from it
abbrev pub Gives : Option (List ℕ) → List ℕ → Option (List ℕ) → Type 0
Gives old front new = old ≡ option_map (λ rest. front ++ rest) new

-- these bytes came to those that were got before
abbrev pub Gets : Option (List ℕ) → List ℕ → Option (List ℕ) → Type 0
Gets old more new = new ≡ option_map (λ got. got ++ more) old

-- where the bytes are told, none is left
abbrev pub IsSpent : Option (List ℕ) → Type 0
IsSpent left = IfSome left (λ rest. rest ≡ [])

-- the last value of a count: 2 ^ 64 - 1
abbrev pub last_count : ℕ
last_count = 18446744073709551615

-- the count of an end whose calls never fail
abbrev pub no_faults : ℕ
no_faults = 0

-- the count after one more
abbrev pub one_more : ℕ → ℕ
one_more count = min (count + 1) last_count

-- a fault came: the count is greater, or stands at its last value
abbrev pub Rose : ℕ → ℕ → Type 0
Rose old new = (old < new) ⊎ (new ≡ last_count)

-- what a writer of the standard library is known to hold grew by one front of the chunk at most
abbrev pub AppendsFront : Option (List ℕ) → Option (List ℕ) → List ℕ → Type 0
AppendsFront old new chunk = (n : ℕ) × (n ≤ length chunk) × Appends old new (take n chunk)

-- a proper front of the bytes that are due came
unfoldable pub GetsPart : Option (List ℕ) → List ℕ → Option (List ℕ) → Type 0
GetsPart old due new = (n : ℕ) × (n < length due) × Gets old (take n due) new

-- What writing the bytes that are due comes to, by what the sink got and counted before and after:
-- all of them came and no fault, or a proper front of them and one fault, behind which
-- nothing is written.
pub record Puts {S E : Type 0} (got : S → Option (List ℕ)) (faults : S → ℕ) (old : S) (due : List ℕ)
    (new : S) (result : Result Unit E) : Type 0 where
  pub whole : OnOk result (Gets (got old) due (got new))
  pub stands : OnOk result (faults new ≡ faults old)
  pub part : OnErr result (GetsPart (got old) due (got new))
  pub cause : OnErr result (Rose (faults old) (faults new))
  pub raised : OnErr result (faults new ≡ one_more (faults old))
  pub count : faults old ≤ faults new
