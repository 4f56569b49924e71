-- The parts of a grouping.
use Rattle.std.specs.Prelude.{◌≡◌, ℕ, ◌-◌, ◌≤◌, Bool, true, List, map, length, take, drop}
use Rattle.std.specs.List.{AllByRecursion}
use Rattle.er_access.specs.Kept.{Kept}
use Rattle.er_races.specs.Races.{most_races}
use Rattle.er_cover.specs.declared.class.Class.{Class}
use Rattle.er_cover.specs.Classes.{is_among, each_once, classes_by_race}
use Rattle.er_cover.specs.Groups.{groups_by, most_classes, name_of}
use Rattle.er_cover.specs.Passes.{first_races}

-- what is seen of classes: the class of each race, and those that are groups
pub record Classing : Type 0 where
  pub by_race : List Class
  pub groups : List Class

abbrev pub classing : List Class → List Class → Classing
classing by_race groups = record { by_race = by_race; groups = groups }

-- the classes of these races, and the groups among them
abbrev pub classing_by : (ℕ → ℕ → Bool) → List Class → Classing
classing_by joined by_race = classing by_race (groups_by joined by_race)

-- the classes of the races among kept accesses
abbrev pub classing_of : (ℕ → ℕ → Bool) → List Kept → Classing
classing_of joined accesses = classing_by joined (classes_by_race joined accesses)

-- the classes, each once
abbrev pub once_of : Classing → List Class
once_of classes = each_once classes.by_race

-- the groups are those over these paths
abbrev pub IsOver : (ℕ → ℕ → Bool) → Classing → Type 0
IsOver joined classes = classes.groups ≡ groups_by joined classes.by_race

-- what the classes from one number up to another name
abbrev pub names_between : (ℕ → ℕ → Bool) → Classing → ℕ → ℕ → List ℕ
names_between joined classes from to =
    map (name_of joined classes.groups) (take (to - from) (drop from (once_of classes)))

-- what all classes name
abbrev pub class_names : (ℕ → ℕ → Bool) → Classing → List ℕ
class_names joined classes = map (name_of joined classes.groups) (once_of classes)

-- the classes each once with their first races, and groups among them
pub record IsClassing (by_race keys : List Class) (firsts : List ℕ)
    (groups : List Class) : Type 0 where
  pub few : length by_race ≤ most_races
  pub few_classes : length (each_once by_race) ≤ most_classes
  pub few_groups : length groups ≤ length (each_once by_race)
  pub classes : keys ≡ each_once by_race
  pub firsts_are : firsts ≡ first_races by_race
  pub there : AllByRecursion (λ x. is_among x keys ≡ true) groups
