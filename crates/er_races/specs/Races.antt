-- The races among kept accesses. All lists stand oldest first.
use Rattle.std.specs.Prelude.{◌≡◌, ◌<◌, ℕ, Bool, not, ◌&&◌, List, map, filter, length, Some, slice_get}
use Rattle.er_access.specs.Kept.{Kept, is_candidate, candidates_of, pairs_of}
use Rattle.er_access.specs.Numbers.{numbered}
use Rattle.er_races.specs.declared.race.Race.{Race}
pub use Rattle.er_trace.specs.Limits.{most_races}

-- the candidates whose first action does not join the second
abbrev pub races_by : (ℕ → ℕ → Bool) → List Kept → List (Kept × Kept)
races_by joined accesses = filter (λ p. not (joined p.0.action p.1.action)) (candidates_of accesses)

-- the numbers of the pairs that pass, in the order of the first and then of the second
abbrev pub passing : {A : Type 0} → (A → A → Bool) → List A → List Race
passing test accesses =
    map (λ p. record { first = p.0.0; second = p.1.0 })
    (filter (λ p. test p.0.1 p.1.1) (pairs_of (numbered accesses)))

abbrev pub is_race : (ℕ → ℕ → Bool) → Kept → Kept → Bool
is_race joined a b = is_candidate a b && not (joined a.action b.action)

-- the numbers of the races
abbrev pub races_of : (ℕ → ℕ → Bool) → List Kept → List Race
races_of joined accesses = passing (is_race joined) accesses

-- these numbers are those of the pairs, in their order
abbrev pub ArePairs : List Kept → List Race → List (Kept × Kept) → Type 0
ArePairs accesses found pairs = map (λ r. slice_get accesses r.first) found
    ≡ map (λ p. Some p.0) pairs
    × map (λ r. slice_get accesses r.second) found ≡ map (λ p. Some p.1) pairs

-- the numbers are of accesses, the lesser first
abbrev pub IsWithin : List Kept → Race → Type 0
IsWithin accesses r = (r.first < r.second) × (r.second < length accesses)

-- the most candidate pairs among which races are listed, and the most races
abbrev pub most_pairs : ℕ
most_pairs = 16777216

abbrev pub AreTooMany : (ℕ → ℕ → Bool) → List Kept → Type 0
AreTooMany joined accesses = most_races < length (races_by joined accesses)
