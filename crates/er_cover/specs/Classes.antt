-- Classes of races. A class is all races of one pair of actions, and is named by the pair. Lists
-- stand in the order of the races.
use Rattle.std.specs.Prelude.{ℕ, Bool, not, ◌==◌, ◌&&◌, List, [], ◌∷◌, map, filter}
use Rattle.std.specs.List.{list_any}
use Rattle.er_access.specs.Kept.{Kept}
use Rattle.er_races.specs.Races.{races_by}
use Rattle.er_cover.specs.declared.class.Class.{Class}

abbrev pub same : Class → Class → Bool
same x y = (x.first == y.first) && (x.second == y.second)

-- x is one of these
abbrev pub is_among : Class → List Class → Bool
is_among x classes = list_any (λ y. same y x) classes

-- the class of a race: its two actions
abbrev pub class_of : Kept × Kept → Class
class_of race = record { first = race.0.action; second = race.1.action }

-- the class of each race
abbrev pub classes_by_race : (ℕ → ℕ → Bool) → List Kept → List Class
classes_by_race joined accesses = map class_of (races_by joined accesses)

-- each class once, in the order of the first races
abbrev pub each_once : List Class → List Class
each_once [] = []
each_once (x ∷ later) = x ∷ filter (λ y. not (same y x)) (each_once later)

-- the classes of all races
abbrev pub classes_of : (ℕ → ℕ → Bool) → List Kept → List Class
classes_of joined accesses = each_once (classes_by_race joined accesses)
