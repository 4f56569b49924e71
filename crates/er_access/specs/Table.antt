-- When a table's parts fit its accesses.
use Rattle.std.specs.Prelude.{◌≡◌, ◌<◌, ◌≤◌, ℕ, false, List, [], ◌∷◌, map, length}
use Rattle.std.specs.List.{AllByRecursion, list_any}
use Rattle.std.proofs.Common.{get_or}
use Rattle.er_trace.specs.declared.record.Mode.{Mode}
use Rattle.er_trace.specs.declared.record.Loc.{Loc}
use Rattle.er_trace.specs.declared.record.Loc.TheVariants.{Var}
use Rattle.er_access.specs.declared.access.Access.{Access}
use Rattle.er_access.specs.Kept.{Kept, same_loc, most_accesses}
use Rattle.er_access.specs.Numbers.{locations_of}
use Rattle.er_access.specs.ByNumber.{candidates_by_number, repeats_by_number}
use Rattle.er_access.specs.Place.{Seen, actions_at, seen_at}

abbrev pub location_at : List Loc → ℕ → Loc
location_at locations k = get_or locations k (Var 0 [])

-- the access with its location in place of the number
abbrev pub with_loc : List Loc → Access → Kept
with_loc locations x = record {
  line = x.line;
  action = x.action;
  mode = x.mode;
  loc = location_at locations x.location;
}

abbrev pub kept_by : List Loc → List Access → List Kept
kept_by locations accesses = map (with_loc locations) accesses

-- each is greater than those before it
abbrev pub IsRising : List ℕ → Type 0
IsRising [] = Unit {0}
IsRising (x ∷ xs) = AllByRecursion (λ y. x < y) xs × IsRising xs

-- no location is there twice
abbrev pub AreDistinct : List Loc → Type 0
AreDistinct [] = Unit {0}
AreDistinct (l ∷ ls) = (list_any (same_loc l) ls ≡ false) × AreDistinct ls

-- no later access is of a lesser action, and none repeats an earlier one
abbrev pub AreInOrder : List Access → Type 0
AreInOrder [] = Unit {0}
AreInOrder (x ∷ later) =
    AllByRecursion (λ (y : Access). (x.action ≤ y.action) × (repeats_by_number y x ≡ false)) later
    × AreInOrder later

-- the places are those of the accesses, which are of no others, and repeat nothing
pub record IsHeld (places : List Seen) (accesses : List Access) (pairs : ℕ) : Type 0 where
  pub few : length accesses ≤ most_accesses
  pub known : AllByRecursion (λ (x : Access). x.location < length places) accesses
  pub seen : (k : ℕ) (d : Seen) → k < length places → get_or places k d ≡ seen_at accesses k
  pub rising : (k : ℕ) (m : Mode) → IsRising (actions_at accesses k m)
  pub ordered : AreInOrder accesses
  pub counted : pairs ≡ length (candidates_by_number accesses)

pub record IsTable (locations : List Loc) (places : List Seen) (accesses : List Access)
    (pairs : ℕ) : Type 0 where
  pub used : length locations ≤ length accesses
  pub as_many : length places ≡ length locations
  pub distinct : AreDistinct locations
  pub first_used : locations_of (kept_by locations accesses) ≡ locations
  pub held : IsHeld places accesses pairs
