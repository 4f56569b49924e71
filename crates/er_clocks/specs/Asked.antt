-- What is asked of several actions at once.
use Rattle.std.specs.Prelude.{◌≡◌, ◌<◌, ℕ, ◌+◌, ◌==◌, min, if◌then◌else◌, Bool, not, List, length, slice_index}
use Rattle.std.specs.List.{position_or_len}
use Rattle.er_paths.specs.links.Chains.{chains, entry}

-- the place of the first of these that does not join j, or their number
abbrev pub first_apart : (ℕ → ℕ → Bool) → List ℕ → ℕ → ℕ
first_apart joined firsts j = position_or_len (λ i. not (joined i j)) firsts

-- the place of the first of these that joins j, or their number
abbrev pub first_joining : (ℕ → ℕ → Bool) → List ℕ → ℕ → ℕ
first_joining joined firsts j = position_or_len (λ i. joined i j) firsts

-- the place of the first of these that i joins, or their number
abbrev pub first_led : (ℕ → ℕ → Bool) → ℕ → List ℕ → ℕ
first_led joined i seconds = position_or_len (λ j. joined i j) seconds

-- how many are asked up to that place
abbrev pub asked : List ℕ → ℕ → ℕ
asked firsts n = min (n + 1) (length firsts)

-- the number at a chain, of an action with this number at its own chain and this row
abbrev pub entry_at : ℕ → ℕ → List ℕ → ℕ → ℕ
entry_at own number row c = if c == own then number else slice_index row c

-- these are the entries of j
abbrev pub AreEntries : List (List ℕ) → ℕ → (ℕ → ℕ) → Type 0
AreEntries lists j at = (c : ℕ) → at c ≡ entry lists j c

-- a list has the entries of j, one a chain
pub record AreLaid (lists : List (List ℕ)) (j : ℕ) (laid : List ℕ) : Type 0 where
  pub long : length laid ≡ length (chains lists)
  pub entries : (c : ℕ) → c < length (chains lists) → slice_index laid c ≡ entry lists j c
