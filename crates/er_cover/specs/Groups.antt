-- Covers and groups. `joined i j` says that a path leads from action i to action j. Races and
-- groups are numbered from 0.
use Rattle.std.specs.Prelude.{ℕ, ◌*◌, Bool, not, ◌==◌, ◌&&◌, List, map, filter, length}
use Rattle.std.specs.List.{list_any, position_or_len, count_by, range_with_len}
use Rattle.er_access.specs.Kept.{Kept}
use Rattle.er_cover.specs.declared.class.Class.{Class}
use Rattle.er_cover.specs.Classes.{same, each_once, classes_by_race, classes_of}

-- each race of x covers each race of y: a path leads from y's first action to x's, and one from x's
-- second action to y's
abbrev pub covers : (ℕ → ℕ → Bool) → Class → Class → Bool
covers joined x y = joined y.first x.first && joined x.second y.second

-- no other class covers it
abbrev pub is_maximal : (ℕ → ℕ → Bool) → List Class → Class → Bool
is_maximal joined classes x = not (list_any (λ y. not (same y x) && covers joined y x) classes)

-- the groups: the maximal classes, in the order of their representatives
abbrev pub maximal_of : (ℕ → ℕ → Bool) → List Class → List Class
maximal_of joined classes = filter (is_maximal joined classes) classes

-- the first race of a class
abbrev pub representative : List Class → Class → ℕ
representative by_race x = position_or_len (λ y. same y x) by_race

-- the first group whose class covers x
abbrev pub name_of : (ℕ → ℕ → Bool) → List Class → Class → ℕ
name_of joined groups x = position_or_len (λ g. covers joined g x) groups

-- the numbers of groups
abbrev pub numbers_of : List Class → List ℕ
numbers_of groups = range_with_len 0 (length groups)

-- how many races name a group
abbrev pub size_of : List ℕ → ℕ → ℕ
size_of names g = count_by (λ n. n == g) names

-- what is seen of groups
pub record Grouping : Type 0 where
  -- for each race the group that it names
  pub names : List ℕ
  -- for each group its representative
  pub representatives : List ℕ
  -- for each group its size
  pub sizes : List ℕ

-- the groups of races of these classes
abbrev pub groups_by : (ℕ → ℕ → Bool) → List Class → List Class
groups_by joined by_race = maximal_of joined (each_once by_race)

-- the group that each race names
abbrev pub names_by : (ℕ → ℕ → Bool) → List Class → List ℕ
names_by joined by_race = map (name_of joined (groups_by joined by_race)) by_race

-- what is seen of them
abbrev pub grouping_by : (ℕ → ℕ → Bool) → List Class → Grouping
grouping_by joined by_race = record {
  names = names_by joined by_race;
  representatives = map (representative by_race) (groups_by joined by_race);
  sizes = map (size_of (names_by joined by_race)) (numbers_of (groups_by joined by_race));
}

-- the groups of the races among kept accesses
abbrev pub groups_of : (ℕ → ℕ → Bool) → List Kept → List Class
groups_of joined accesses = groups_by joined (classes_by_race joined accesses)

-- what is seen of them
abbrev pub grouping_of : (ℕ → ℕ → Bool) → List Kept → Grouping
grouping_of joined accesses = grouping_by joined (classes_by_race joined accesses)

-- how many classes there may be
abbrev pub most_classes : ℕ
most_classes = 32768

-- how many comparisons there may be: four for each pair of a class and a group
abbrev pub most_tests : (ℕ → ℕ → Bool) → List Kept → ℕ
most_tests joined accesses =
    4 * (length (classes_of joined accesses) * length (groups_of joined accesses))
