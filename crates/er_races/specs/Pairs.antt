-- Pairs of numbers, by their first.
use Rattle.std.specs.Prelude.{ℕ, Bool, ◌&&◌, nat_lt, List, [], ◌∷◌, ◌++◌, map, filter}
use Rattle.std.specs.List.{range_with_len}
use Rattle.er_access.specs.declared.access.Access.{Access}
use Rattle.er_access.specs.Numbers.{access_at}
use Rattle.er_races.specs.declared.race.Race.{Race}

-- one number with each of these
abbrev pub with_each : ℕ → List ℕ → List Race
with_each i js = map (λ j. record { first = i; second = j }) js

-- each of these numbers with one second
abbrev pub with_second : List ℕ → ℕ → List Race
with_second is j = map (λ i. record { first = i; second = j }) is

-- each of these numbers with the seconds that are its own
abbrev pub each : (ℕ → List ℕ) → List ℕ → List Race
each seconds [] = []
each seconds (i ∷ rest) = with_each i (seconds i) ++ each seconds rest

-- a lesser and a greater number, whose accesses pass
abbrev pub passes : (Access → Access → Bool) → List Access → ℕ → ℕ → Bool
passes test accesses i j = nat_lt i j && test (access_at accesses i) (access_at accesses j)

abbrev pub all_pairs : (ℕ → ℕ → Bool) → ℕ → List Race
all_pairs test n = each (λ i. filter (test i) (range_with_len 0 n)) (range_with_len 0 n)
