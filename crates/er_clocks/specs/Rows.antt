-- Steps on a row of numbers, one a chain. Past its end a row has 0.
use Rattle.std.specs.Prelude.{◌≡◌, ℕ, ◌==◌, if◌then◌else◌, max, nat_lt, Bool, List, ◌∷◌, length, slice_index}
use Rattle.er_paths.specs.links.Links.{links_of}
use Rattle.er_paths.specs.links.Chains.{chain_of, place_of}

-- chain by chain the greater number of two rows
abbrev pub IsRaised : List ℕ → List ℕ → List ℕ → Type 0
IsRaised old more new = (c : ℕ) → slice_index new c ≡ max (slice_index old c) (slice_index more c)

-- the row with this number at one chain
abbrev pub IsSet : List ℕ → ℕ → ℕ → List ℕ → Type 0
IsSet old chain number new = (c : ℕ)
    → slice_index new c ≡ (if c == chain then number else slice_index old c)

-- the row has more members of i's chain than come before i
abbrev pub is_covered : List (List ℕ) → List ℕ → ℕ → Bool
is_covered lists row i = nat_lt (place_of lists i) (slice_index row (chain_of lists i))

-- the links into the next action
abbrev pub links_before : List ℕ → List (List ℕ) → List ℕ
links_before p lists = links_of (p ∷ lists) (length lists)
