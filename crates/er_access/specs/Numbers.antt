-- The numbers of accesses and of locations, from 0.
use Rattle.std.specs.Prelude.{◌≡◌, ℕ, ◌+◌, ◌==◌, if◌then◌else◌, List, [], ◌∷◌, ◌++◌, map, filter, Some, slice_get}
use Rattle.std.specs.List.{list_any, position_or_len}
use Rattle.std.proofs.Common.{get_or}
use Rattle.er_trace.specs.declared.record.Mode.TheVariants.{R}
use Rattle.er_trace.specs.declared.record.Loc.{Loc}
use Rattle.er_access.specs.declared.access.Access.{Access}
use Rattle.er_access.specs.Kept.{Kept, access_of, same_loc}

-- a location that is not there yet goes last
abbrev pub with_location : Loc → List Loc → List Loc
with_location loc locations =
    if list_any (same_loc loc) locations then locations else locations ++ loc ∷ []

abbrev pub locations_from : List Loc → List Kept → List Loc
locations_from locations [] = locations
locations_from locations (x ∷ xs) = locations_from (with_location x.loc locations) xs

-- the locations of the accesses, each once, in the order of first use
abbrev pub locations_of : List Kept → List Loc
locations_of kept = locations_from [] kept

abbrev pub number_of : Loc → List Loc → ℕ
number_of loc locations = position_or_len (same_loc loc) locations

-- the access with the number of its location
abbrev pub by_number : List Loc → Kept → Access
by_number locations x = record {
  line = x.line;
  action = x.action;
  mode = x.mode;
  location = number_of x.loc locations;
}

abbrev pub accesses_of : List Kept → List Access
accesses_of kept = map (by_number (locations_of kept)) kept

-- the members with their numbers
abbrev pub numbered_from : {A : Type 0} → ℕ → List A → List (ℕ × A)
numbered_from n [] = []
numbered_from n (x ∷ xs) = (n, x) ∷ numbered_from (n + 1) xs

abbrev pub numbered : {A : Type 0} → List A → List (ℕ × A)
numbered xs = numbered_from 0 xs

-- the numbers of the accesses of location k
abbrev pub rows_of : List Access → ℕ → List ℕ
rows_of accesses k = map (λ p. p.0) (filter (λ p. p.1.location == k) (numbered accesses))

-- the access of a number
abbrev pub access_at : List Access → ℕ → Access
access_at accesses n = get_or accesses n (record { line = 0; action = 0; mode = R; location = 0 })

-- number n is the access, at the location of its number
abbrev pub IsKeptAt : List Kept → ℕ → Access → Type 0
IsKeptAt kept n x =
    (loc : Loc) → slice_get (locations_of kept) x.location ≡ Some loc
    → slice_get kept n ≡ Some (access_of x.line x.action x.mode loc)
