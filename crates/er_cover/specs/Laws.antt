-- What holds of classes, covers and groups. Laws over paths hold for every list of predecessors.
use Rattle.std.specs.Prelude.{◌≡◌, ◌↔◌, ℕ, pos, ◌-ℤ◌, ℤ, ◌<ℤ◌, ◌<◌, Bool, true, false, List, length, All, Some}
use Rattle.std.specs.List.{list_any, slice_get}
use Rattle.std.specs.List.Sorted.{IsStrictlyIncreasing}
use Rattle.er_paths.specs.Paths.{joins}
use Rattle.er_cover.specs.declared.class.Class.{Class}
use Rattle.er_cover.specs.Classes.{same, is_among, each_once}
use Rattle.er_cover.specs.Groups.{covers, is_maximal, maximal_of, groups_by, names_by, grouping_by}
use Rattle.er_cover.specs.Passes.{AreDistinct, IsKnown}

-- the difference of the two action numbers
abbrev pub width : Class → ℤ
width x = pos x.second -ℤ pos x.first

-- A class that is covered by another class is wider.
abbrev pub CoveredIsWider : Type 0
CoveredIsWider = (lists : List (List ℕ)) (x y : Class) → covers (joins lists) x y ≡ true
    → same x y ≡ false → width x <ℤ width y

-- Every class is covered by a maximal class.
abbrev pub EachIsCovered : Type 0
EachIsCovered = (lists : List (List ℕ)) (classes : List Class) (x : Class)
    → All (IsKnown (length lists)) classes → is_among x classes ≡ true
    → list_any (λ g. covers (joins lists) g x) (maximal_of (joins lists) classes) ≡ true

-- A class is maximal exactly where whatever covers it is the class itself.
abbrev pub MaximalIsUncovered : Type 0
MaximalIsUncovered = (joined : ℕ → ℕ → Bool) (classes : List Class) (x : Class)
    → (is_maximal joined classes x ≡ true)
    ↔ ((y : Class) → is_among y classes ≡ true → covers joined y x ≡ true → y ≡ x)

-- The classes of races are those of each race, and none is there twice.
abbrev pub ClassesAreOnce : Type 0
ClassesAreOnce = (by_race : List Class)
    → AreDistinct (each_once by_race)
    × ((x : Class) → is_among x (each_once by_race) ≡ is_among x by_race)

-- The groups stand in the order of their representatives.
abbrev pub GroupsInOrder : Type 0
GroupsInOrder = (joined : ℕ → ℕ → Bool) (by_race : List Class)
    → IsStrictlyIncreasing (grouping_by joined by_race).representatives

-- Each race names a group.
abbrev pub EachNamesAGroup : Type 0
EachNamesAGroup = (lists : List (List ℕ)) (by_race : List Class)
    → All (IsKnown (length lists)) by_race
    → All (λ g. g < length (groups_by (joins lists) by_race)) (names_by (joins lists) by_race)

-- race k, of class x, names a group, and this covers it
pub record NamesACover (joined : ℕ → ℕ → Bool) (by_race : List Class)
    (k : ℕ) (x : Class) : Type 0 where
  pub number : ℕ
  pub group : Class
  pub names : slice_get (names_by joined by_race) k ≡ Some number
  pub is : slice_get (groups_by joined by_race) number ≡ Some group
  pub is_cover : covers joined group x ≡ true

-- Each race names a group that covers it.
abbrev pub EachNamesACover : Type 0
EachNamesACover = (lists : List (List ℕ)) (by_race : List Class) (k : ℕ) (x : Class)
    → All (IsKnown (length lists)) by_race → slice_get by_race k ≡ Some x
    → NamesACover (joins lists) by_race k x
