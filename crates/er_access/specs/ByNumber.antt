-- The tests of accesses, by the numbers of their locations.
use Rattle.std.specs.Prelude.{◌≡◌, ◌⊎◌, Bool, false, not, ◌==◌, ◌&&◌, ◌||◌, if◌then◌else◌, List, [], ◌∷◌, ◌++◌, filter, length}
use Rattle.std.specs.List.{list_any}
use Rattle.er_access.specs.declared.access.Access.{Access}
use Rattle.er_access.specs.Kept.{is_write, same_mode, pairs_of, most_accesses}

-- the same location, mode and action
abbrev pub repeats_by_number : Access → Access → Bool
repeats_by_number x y =
    ((y.location == x.location) && same_mode x.mode y.mode) && (y.action == x.action)

abbrev pub repeats_any_by_number : Access → List Access → Bool
repeats_any_by_number x accesses = list_any (repeats_by_number x) accesses

abbrev pub is_new_by_number : Access → List Access → Bool
is_new_by_number x accesses = not (repeats_any_by_number x accesses)

-- one more access, unless it repeats one
abbrev pub with_numbered : Access → List Access → List Access
with_numbered x accesses = if repeats_any_by_number x accesses then accesses else accesses ++ x ∷ []

abbrev pub IsSameOrWith : Access → List Access → List Access → Type 0
IsSameOrWith x old new = (new ≡ old) ⊎ (new ≡ with_numbered x old)

-- it repeats none, and no more are kept
abbrev pub IsFullByNumber : Access → List Access → Type 0
IsFullByNumber x accesses =
    (repeats_any_by_number x accesses ≡ false) × (length accesses ≡ most_accesses)

-- one location, different actions, at least one write
abbrev pub is_candidate_by_number : Access → Access → Bool
is_candidate_by_number a b =
    (a.location == b.location)
    && (not (a.action == b.action) && (is_write a.mode || is_write b.mode))

abbrev pub candidates_by_number : List Access → List (Access × Access)
candidates_by_number accesses = filter (λ p. is_candidate_by_number p.0 p.1) (pairs_of accesses)
