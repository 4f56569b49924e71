-- What the passes over the classes keep.
use Rattle.std.specs.Prelude.{◌≡◌, ℕ, ◌+◌, ◌-◌, ◌*◌, ◌^◌, ◌<◌, ◌≤◌, ◌++◌, ◌&&◌, Bool, true, false, List, [], ◌∷◌, map, filter, length, if◌then◌else◌, slice_index, slice_range, get_or, ◌==◌, nat_lt, Some}
use Rattle.std.specs.List.{All, AllByRecursion, list_any, position_or_len}
use Rattle.er_paths.specs.Paths.{joins}
use Rattle.er_access.specs.declared.access.Access.{Access}
use Rattle.er_access.specs.Numbers.{access_at}
use Rattle.er_races.specs.declared.race.Race.{Race}
use Rattle.er_races.specs.Races.{most_races}
use Rattle.er_cover.specs.declared.class.Class.{Class}
use Rattle.er_cover.specs.declared.heads.Heads.{Heads}
use Rattle.er_cover.specs.declared.maximal.Leading.{Leading}
use Rattle.er_cover.specs.Classes.{same, is_among, each_once}
use Rattle.er_cover.specs.Groups.{Grouping, covers, groups_by, maximal_of, most_classes, name_of, names_by, numbers_of, representative, size_of}

-- the action of the access of a number
abbrev pub action_at : List Access → ℕ → ℕ
action_at accesses n = (access_at accesses n).action

-- the class of a race, by the numbers of its accesses
abbrev pub class_by_number : List Access → Race → Class
class_by_number accesses race =
    record { first = action_at accesses race.first; second = action_at accesses race.second }

abbrev pub classes_by_number : List Access → List Race → List Class
classes_by_number accesses races = map (class_by_number accesses) races

-- both actions are below the number of actions
abbrev pub IsKnown : ℕ → Class → Type 0
IsKnown actions x = (x.first < actions) × (x.second < actions)

-- the place among all pairs of actions, where the first falls and, for one first, the second rises
abbrev pub rank : ℕ → Class → ℕ
rank actions x = (actions - x.first) * actions + x.second

abbrev pub IsNoLater : ℕ → Class → Class → Type 0
IsNoLater actions x y = rank actions x ≤ rank actions y

-- no class has a greater rank than a later one
abbrev pub AreRising : ℕ → List Class → Type 0
AreRising actions [] = Unit {0}
AreRising actions (x ∷ later) = AllByRecursion (IsNoLater actions x) later × AreRising actions later

-- no class is there twice
abbrev pub AreDistinct : List Class → Type 0
AreDistinct [] = Unit {0}
AreDistinct (x ∷ later) = AllByRecursion (λ y. same x y ≡ false) later × AreDistinct later

-- x at the end, where it is new
abbrev pub with_new : Class → List Class → List Class
with_new x classes = if is_among x classes then classes else classes ++ x ∷ []

-- its race goes last, where x is new
abbrev pub Adds : List Class → Class → ℕ → List ℕ → List ℕ → Type 0
Adds classes x race old new = new ≡ (if is_among x classes then old else old ++ race ∷ [])

-- x goes last, where none of these covers it
abbrev pub Keeps : (ℕ → ℕ → Bool) → Class → List Class → List Class → Type 0
Keeps joined x old new =
    new ≡ (if list_any (λ g. covers joined g x) old then old else old ++ x ∷ [])

abbrev pub seconds_of : List Class → List ℕ
seconds_of classes = map (λ (g : Class). g.second) classes

-- the second actions of the classes to whose first action a path leads
abbrev pub seconds_from : (ℕ → ℕ → Bool) → ℕ → List Class → List ℕ
seconds_from joined first classes =
    seconds_of (filter (λ (g : Class). joined first g.first) classes)

-- where the groups of the first action at a place begin, or behind the last the number of groups
abbrev pub start_of : ℕ → Heads → ℕ → ℕ
start_of count heads n = get_or heads.starts.items n count

-- the groups of the first action at a place
abbrev pub groups_at : List Class → Heads → ℕ → List Class
groups_at found heads n = slice_range found
    (start_of (length found) heads n) (start_of (length found) heads (n + 1))

-- this is the first action of the last group
abbrev pub ends_with : Heads → ℕ → Bool
ends_with heads first = nat_lt 0 (length heads.firsts.items)
    && (slice_index heads.firsts.items (length heads.firsts.items - 1) == first)

-- the first actions of these groups: the groups of each stand from its start up to the next one's
pub record AreHeads (found : List Class) (heads : Heads) : Type 0 where
  pub paired : length heads.starts.items ≡ length heads.firsts.items
  pub begin : start_of (length found) heads 0 ≡ 0
  pub rising : (n : ℕ) → n < length heads.firsts.items
      → start_of (length found) heads n < start_of (length found) heads (n + 1)
  pub each : (n : ℕ) → n < length heads.firsts.items
      → All (λ (g : Class). g.first ≡ slice_index heads.firsts.items n) (groups_at found heads n)
  -- no two side by side are the same
  pub apart : (n : ℕ) → n + 1 < length heads.firsts.items
      → (slice_index heads.firsts.items n == slice_index heads.firsts.items (n + 1)) ≡ false

-- these are what stands there, where it was found for a first action
abbrev pub IsLeading : (ℕ → ℕ → Bool) → List Class → Leading → Type 0
IsLeading joined classes leading = (first : ℕ) → leading.first ≡ Some first
    → leading.seconds.items ≡ seconds_from joined first classes

-- x goes last, where it is one of these
abbrev pub Chooses : List Class → Class → List Class → List Class → Type 0
Chooses these x old new = new ≡ (if is_among x these then old ++ x ∷ [] else old)

-- those that are among these
abbrev pub chosen_of : List Class → List Class → List Class
chosen_of these classes = filter (λ x. is_among x these) classes

-- of these each is covered by itself alone
abbrev pub AreMaximal : (ℕ → ℕ → Bool) → List Class → Type 0
AreMaximal joined groups = (x y : Class) → is_among x groups ≡ true → is_among y groups ≡ true
    → covers joined y x ≡ same x y

-- what each of these classes names
abbrev pub names_of : List (List ℕ) → List Class → List Class → List ℕ
names_of links groups classes = map (name_of (joins links) groups) classes

-- the first race of each of these classes
abbrev pub representatives_of : List Class → List Class → List ℕ
representatives_of by_race classes = map (representative by_race) classes

-- and of all classes
abbrev pub first_races : List Class → List ℕ
first_races by_race = representatives_of by_race (each_once by_race)

-- the value under the number of a class
abbrev pub value_of : List Class → List ℕ → Class → ℕ
value_of classes values x = slice_index values (position_or_len (λ y. same x y) classes)

-- at most this many comparisons in one pass: two for each pair of a class and a group
abbrev pub pass_tests : List Class → List Class → ℕ
pass_tests classes groups = 2 * (length classes * length groups)

-- in the pass that finds the groups
abbrev pub maximal_tests : (ℕ → ℕ → Bool) → List Class → ℕ
maximal_tests joined classes = pass_tests classes (maximal_of joined classes)

-- these are the sizes of so many groups
pub record AreSizes (names : List ℕ) (count : ℕ) (sizes : List ℕ) : Type 0 where
  pub long : length sizes ≡ count
  pub each : (g : ℕ) → g < count → slice_index sizes g ≡ size_of names g

abbrev pub HasTooMany : List Class → Type 0
HasTooMany by_race = most_classes < length (each_once by_race)

-- no more races name groups than are listed; each representative has a size, and their numbers fit
abbrev pub AreWhole : List ℕ → List ℕ → List ℕ → Type 0
AreWhole names representatives sizes = (length names ≤ most_races)
    × (length sizes ≡ length representatives) × (length representatives < 2 ^ 32)

-- The parts of a grouping.

abbrev pub representatives_by : (ℕ → ℕ → Bool) → List Class → List ℕ
representatives_by joined by_race = map (representative by_race) (groups_by joined by_race)

abbrev pub sizes_by : (ℕ → ℕ → Bool) → List Class → List ℕ
sizes_by joined by_race =
    map (size_of (names_by joined by_race)) (numbers_of (groups_by joined by_race))

abbrev pub the_groups : List ℕ → List ℕ → List ℕ → Grouping
the_groups names representatives sizes =
    record { names = names; representatives = representatives; sizes = sizes }
