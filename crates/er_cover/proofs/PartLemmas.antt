-- Steps of the parts of a grouping.
use Rattle.std.proofs.Common.{◌≡◌, ℕ, zero, suc, ◌+◌, ◌-◌, ◌*◌, ◌<◌, ◌≤◌, Bool, true, false, List, [], ◌∷◌, length, take, drop, refl, sym, ap, ◌∙◌, arith, subst, All}
use Rattle.std.specs.Prelude.{◌||◌, map}
use Rattle.std.specs.List.{AllByRecursion, list_any, position_or_len}
use Rattle.std.proofs.lemmas.Nat.{mul-le}
use Rattle.std.proofs.lemmas.List.{length-map}
use Rattle.std.proofs.lemmas.List.Elements.{recursion_from_All, All-from_recursion}
use Rattle.er_access.specs.Kept.{Kept}
use Rattle.er_races.specs.declared.race.Race.{Race}
use Rattle.er_races.specs.Races.{races_by, races_of}
use Rattle.er_races.proofs.RaceLemmas.{as_many_races}
use Rattle.er_cover.specs.declared.class.Class.{Class}
use Rattle.er_cover.specs.Classes.{same, is_among, each_once, class_of, classes_of, classes_by_race}
use Rattle.er_cover.specs.Groups.{Grouping, grouping_of, groups_by, groups_of, is_maximal, most_classes, name_of}
use Rattle.er_cover.specs.Parts.{Classing, IsOver, class_names, classing_of, names_between, once_of}
use Rattle.er_cover.specs.Passes.{IsKnown, value_of}
use Rattle.er_cover.proofs.CoverLemmas.{AreOrders, name_below}
use Rattle.er_cover.proofs.OrderLemmas.{each_member}
use Rattle.er_cover.proofs.PassLemmas.{filter_le}
use Rattle.er_cover.proofs.GroupLemmas.{race_covered}
use Rattle.er_cover.proofs.NumberLemmas.{among_turned, once_members}

all_taken : (P : Class → Type 0) (n : ℕ) (xs : List Class) → AllByRecursion P xs → AllByRecursion P (take n xs)
all_taken P zero xs all = tt
all_taken P (suc n) [] all = tt
all_taken P (suc n) (x ∷ xs) all = (all.0, all_taken P n xs all.1)

all_dropped : (P : Class → Type 0) (n : ℕ) (xs : List Class) → AllByRecursion P xs → AllByRecursion P (drop n xs)
all_dropped P zero xs all = all
all_dropped P (suc n) [] all = tt
all_dropped P (suc n) (x ∷ xs) all = all_dropped P n xs all.1

-- some of known classes
pub part_known : (n a b : ℕ) (xs part : List Class) → part ≡ take a (drop b xs) → All (IsKnown n) xs → All (IsKnown n) part
part_known n a b xs part e all =
    let Q : List Class → Type 0 = λ ws. All (IsKnown n) ws in
    subst Q (sym e) (All-from_recursion (IsKnown n) (take a (drop b xs)) (all_taken (IsKnown n) a (drop b xs) (all_dropped (IsKnown n) b xs (recursion_from_All (IsKnown n) xs all))))

position_below : (p : Class → Bool) (xs : List Class) → list_any p xs ≡ true → position_or_len p xs < length xs
position_below p [] e = let never : false ≡ true = e in cc
position_below p (x ∷ xs) e = by (p x) refl (position_below p xs)
  where
    by : (b : Bool) → p x ≡ b → (list_any p xs ≡ true → position_or_len p xs < length xs) → position_or_len p (x ∷ xs) < length (x ∷ xs)
    by true h later = rw h (omega arith)
    by false h later =
        let Q : Bool → Type 0 = λ b. (b || list_any p xs) ≡ true in
        let less = later (subst Q h e) in
        rw h (omega (arith, less))

-- what is looked up is below what bounds the values
pub looked_below : (keys asked : List Class) (values names : List ℕ) (count : ℕ) → length values ≡ length keys → All (λ g. g < count) values → AllByRecursion (λ x. is_among x keys ≡ true) asked → names ≡ map (value_of keys values) asked → All (λ g. g < count) names
looked_below keys asked values names count long below there e =
    let Q : List ℕ → Type 0 = λ ns. All (λ g. g < count) ns in
    subst Q (sym e) (All-from_recursion (λ g. g < count) (map (value_of keys values) asked) (each asked there))
  where
    each : (xs : List Class) → AllByRecursion (λ x. is_among x keys ≡ true) xs → AllByRecursion (λ g. g < count) (map (value_of keys values) xs)
    each [] all = tt
    each (x ∷ xs) all =
        let at = position_below (λ y. same x y) keys (among_turned x keys ∙ all.0) in
        (below (position_or_len (λ y. same x y) keys) 0 (omega (arith, long, at)), each xs all.1)

-- each class names a group
pub class_names_below : (n : ℕ) (joined : ℕ → ℕ → Bool) (classes : Classing) (names : List ℕ) → AreOrders joined → ((i : ℕ) → i < n → joined i i ≡ true) → All (IsKnown n) classes.by_race → IsOver joined classes
    → names ≡ class_names joined classes → All (λ g. g < length classes.groups) names
class_names_below n joined classes names orders own known over e =
    let Q : List ℕ → Type 0 = λ ns. All (λ g. g < length classes.groups) ns in
    subst Q (sym e) (All-from_recursion (λ g. g < length classes.groups) (map (name_of joined classes.groups) (each_once classes.by_race)) (each (each_once classes.by_race) (each_member (λ x. is_among x (each_once classes.by_race) ≡ true) (each_once classes.by_race) (λ x m. m))))
  where
    less : (x : Class) → is_among x (each_once classes.by_race) ≡ true → name_of joined classes.groups x < length classes.groups
    less x m =
        let L : List Class → Type 0 = λ gs. name_of joined gs x < length gs in
        subst L (sym over) (name_below joined (groups_by joined classes.by_race) x (race_covered n joined classes.by_race x orders own known (sym (once_members classes.by_race x) ∙ m)))

    each : (xs : List Class) → AllByRecursion (λ x. is_among x (each_once classes.by_race) ≡ true) xs → AllByRecursion (λ g. g < length classes.groups) (map (name_of joined classes.groups) xs)
    each [] all = tt
    each (x ∷ xs) all = (less x all.0, each xs all.1)

-- all classes are those from 0 up to their number
take_all : (xs : List Class) → take (length xs) xs ≡ xs
take_all [] = refl
take_all (x ∷ xs) = ap (λ (l : List Class). x ∷ l) (take_all xs)

whole : (xs : List Class) → take (length xs - 0) (drop 0 xs) ≡ xs
whole xs = let e : length xs - 0 ≡ length xs = omega arith in ap (λ (n : ℕ). take n xs) e ∙ take_all xs

pub all_names : (joined : ℕ → ℕ → Bool) (classes : Classing) → names_between joined classes 0 (length (once_of classes)) ≡ class_names joined classes
all_names joined classes = ap (map (name_of joined classes.groups)) (whole (once_of classes))

-- how many comparisons one pass makes at most
pub few_tests : (joined : ℕ → ℕ → Bool) (kept : List Kept) → length (classes_of joined kept) ≤ most_classes → length (classes_of joined kept) * length (groups_of joined kept) ≤ most_classes * most_classes
few_tests joined kept few =
    let less = filter_le (λ x. is_maximal joined (classes_of joined kept) x) (classes_of joined kept) in
    mul-le (length (classes_of joined kept)) (length (groups_of joined kept)) most_classes most_classes few (omega (arith, less, few))

-- what the pass over all classes names, and how many comparisons it makes at most
pub all_listed : (joined : ℕ → ℕ → Bool) (classes : Classing) (count : ℕ) (names : List ℕ) → count ≡ length (once_of classes) → names ≡ names_between joined classes 0 count → names ≡ class_names joined classes
all_listed joined classes count names e named = named ∙ (ap (λ (n : ℕ). names_between joined classes 0 n) e ∙ all_names joined classes)

pub all_tested : (joined : ℕ → ℕ → Bool) (kept : List Kept) (classes : Classing) (count start made : ℕ) → classes ≡ classing_of joined kept → count ≡ length (once_of classes) → start ≡ 0 → made ≤ start + 2 * ((count - 0) * length classes.groups)
    → made ≤ 2 * (length (classes_of joined kept) * length (groups_of joined kept))
all_tested joined kept classes count start made e counted none bound =
    let P : Classing → Type 0 = λ s. made ≤ 2 * (length (once_of s) * length s.groups) in
    let Q : ℕ → Type 0 = λ n. made ≤ 2 * (n * length classes.groups) in
    let whole : count - 0 ≡ length (once_of classes) = omega (arith, counted) in
    let most : made ≤ 2 * ((count - 0) * length classes.groups) = omega (arith, none, bound) in
    subst P e (subst Q whole most)

pub over_classing : (joined : ℕ → ℕ → Bool) (kept : List Kept) (classes : Classing) → classes ≡ classing_of joined kept → IsOver joined classes
over_classing joined kept classes e = subst (λ (s : Classing). IsOver joined s) (sym e) refl

pub as_many_names : (joined : ℕ → ℕ → Bool) (kept : List Kept) (races : List Race) (v : Grouping) → races ≡ races_of joined kept → v ≡ grouping_of joined kept → length v.names ≡ length races
as_many_names joined kept races v e is =
    ap (λ (g : Grouping). length g.names) is
    ∙ (length-map (classes_by_race joined kept) (name_of joined (groups_of joined kept))
    ∙ (length-map (races_by joined kept) class_of
    ∙ (as_many_races joined kept ∙ sym (ap (λ (rs : List Race). length rs) e))))
