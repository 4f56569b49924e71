-- What shards name: one, two halves, all.
use Rattle.std.proofs.Common.{◌≡◌, ℕ, zero, suc, ◌+◌, ◌-◌, ◌*◌, ◌/◌, ◌<◌, ◌≤◌, ◌^◌, Bool, List, [], ◌∷◌, ◌++◌, take, drop, map, length, refl, sym, ap, ◌∙◌, arith, subst, Global}
use Rattle.std.specs.Prelude.{Result, Ok, Err, IfOk}
use Rattle.std.specs.declared.vec.Vec.{Vec}
use Rattle.std.proofs.lemmas.Nat.{mul-le, le-div}
use Rattle.std.proofs.lemmas.List.{map-append, length-map}
use Rattle.std.proofs.Math.Nat.{div-le_of_le-mul, div-mul-le_self}
use Rattle.er_io.specs.declared.ends.NoMemory.{NoMemory}
use Rattle.er_cover.specs.declared.class.Class.{Class}
use Rattle.er_access.specs.Kept.{Kept}
use Rattle.er_races.specs.declared.race.Race.{Race}
use Rattle.er_races.specs.Races.{races_by, races_of}
use Rattle.er_races.proofs.RaceLemmas.{as_many_races}
use Rattle.er_cover.specs.Classes.{class_of, classes_of, classes_by_race}
use Rattle.er_cover.specs.Groups.{Grouping, grouping_of, groups_of, is_maximal, most_classes, name_of}
use Rattle.er_cover.proofs.PartLemmas.{all_names}
use Rattle.er_cover.specs.Parts.{Classing, IsOver, names_between, class_names, once_of, classing_of}
use Rattle.er_shard.specs.Named.{IsNamed, AreBothNamed, begin_of}

pub begins_within : (s count shards : ℕ) → s ≤ shards → s * count / shards ≤ count
begins_within s count shards h = div-le_of_le-mul shards (mul-le s count shards count h (omega arith))

pub begins_rise : (s t count shards : ℕ) → 0 < shards → s ≤ t → s * count / shards ≤ t * count / shards
begins_rise s t count shards some h =
    let whole = div-mul-le_self (s * count) shards in
    let more = mul-le s count t count h (omega arith) in
    le-div (s * count / shards) (t * count) shards some (omega (arith, whole, more))

abbrev nothing : List Class
nothing = []

take_none : (n : ℕ) → nothing ≡ take n nothing
take_none zero = refl
take_none (suc n) = refl

drop_none : (n : ℕ) → nothing ≡ drop n nothing
drop_none zero = refl
drop_none (suc n) = refl

take_nothing : (m n : ℕ) → take n nothing ≡ take m nothing
take_nothing m n = sym (take_none n) ∙ take_none m

drop_nothing : (m n : ℕ) → drop n nothing ≡ drop m nothing
drop_nothing m n = sym (drop_none n) ∙ drop_none m

takes : (m k : ℕ) (xs : List Class) → take m xs ++ take k (drop m xs) ≡ take (m + k) xs
takes zero k xs = let e : k ≡ zero + k = omega arith in ap (λ (n : ℕ). take n xs) e
takes (suc m) k [] = take_nothing (suc m + k) k
takes (suc m) k (x ∷ xs) = let e : suc (m + k) ≡ suc m + k = omega arith in ap (λ (l : List Class). x ∷ l) (takes m k xs) ∙ ap (λ (n : ℕ). take n (x ∷ xs)) e

drops : (a m : ℕ) (xs : List Class) → drop m (drop a xs) ≡ drop (a + m) xs
drops zero m xs = let e : m ≡ zero + m = omega arith in ap (λ (n : ℕ). drop n xs) e
drops (suc a) m [] = drop_nothing (suc a + m) m
drops (suc a) m (x ∷ xs) = let e : suc (a + m) ≡ suc a + m = omega arith in drops a m xs ∙ ap (λ (n : ℕ). drop n (x ∷ xs)) e

pieces : (a b c : ℕ) (xs : List Class) → a ≤ b → b ≤ c → take (b - a) (drop a xs) ++ take (c - b) (drop b xs) ≡ take (c - a) (drop a xs)
pieces a b c xs h k =
    let there : a + (b - a) ≡ b = omega (arith, h) in
    let long : (b - a) + (c - b) ≡ c - a = omega (arith, h, k) in
    ap (λ (l : List Class). take (b - a) (drop a xs) ++ take (c - b) l) (sym (drops a (b - a) xs ∙ ap (λ (n : ℕ). drop n xs) there))
    ∙ (takes (b - a) (c - b) (drop a xs) ∙ ap (λ (n : ℕ). take n (drop a xs)) long)

pub names_joined : (joined : ℕ → ℕ → Bool) (classes : Classing) (a b c : ℕ) → a ≤ b → b ≤ c → names_between joined classes a b ++ names_between joined classes b c ≡ names_between joined classes a c
names_joined joined classes a b c h k =
    sym (map-append (name_of joined classes.groups) (take (b - a) (drop a (once_of classes))) (take (c - b) (drop b (once_of classes))))
    ∙ ap (map (name_of joined classes.groups)) (pieces a b c (once_of classes) h k)

spread : (m n w : ℕ) → (m + n) * w ≡ m * w + n * w
spread m n w = grind arith

pub two_named : (shards from middle to : ℕ) (joined : ℕ → ℕ → Bool) (classes : Classing) → begin_of shards classes from ≤ begin_of shards classes middle → begin_of shards classes middle ≤ begin_of shards classes to
    → (names more all : Result (Vec ℕ Global) NoMemory) (made others total : ℕ) → IsNamed shards from middle joined classes names made → IsNamed shards middle to joined classes more others → AreBothNamed names more all → total ≡ made + others → IsNamed shards from to joined classes all total
two_named shards from middle to joined classes h k names more all made others total left right both sum = record {
  named = listed names more all left.named right.named both;
  at_most = bound (begin_of shards classes from) (begin_of shards classes middle) (begin_of shards classes to) (length classes.groups) h k left.at_most right.at_most;
}
  where
    listed : (n m a : Result (Vec ℕ Global) NoMemory) → IfOk n (λ v. v.items ≡ names_between joined classes (begin_of shards classes from) (begin_of shards classes middle)) → IfOk m (λ v. v.items ≡ names_between joined classes (begin_of shards classes middle) (begin_of shards classes to))
        → AreBothNamed n m a → IfOk a (λ v. v.items ≡ names_between joined classes (begin_of shards classes from) (begin_of shards classes to))
    listed (Ok n) (Ok m) (Ok a) e f g = g ∙ (ap (λ (l : List ℕ). l ++ m.items) e ∙ (ap (λ (l : List ℕ). names_between joined classes (begin_of shards classes from) (begin_of shards classes middle) ++ l) f ∙ names_joined joined classes (begin_of shards classes from) (begin_of shards classes middle) (begin_of shards classes to) h k))
    listed (Ok n) (Ok m) (Err a) e f g = tt
    listed (Ok n) (Err m) (Ok a) e f g = let never : Ok a ≡ Err m = g in cc
    listed (Ok n) (Err m) (Err a) e f g = tt
    listed (Err n) m (Ok a) e f g = let never : Ok a ≡ Err n = g in cc
    listed (Err n) m (Err a) e f g = tt

    bound : (a b c w : ℕ) → a ≤ b → b ≤ c → made ≤ 2 * ((b - a) * w) → others ≤ 2 * ((c - b) * w) → total ≤ 2 * ((c - a) * w)
    bound a b c w h k p q =
        let split : (c - a) * w ≡ (b - a) * w + (c - b) * w = (let long : c - a ≡ (b - a) + (c - b) = omega (arith, h, k) in ap (λ (n : ℕ). n * w) long ∙ spread (b - a) (c - b) w) in
        omega (arith, split, p, q, sum)

-- all shards

swap : (a b : ℕ) → a * b ≤ b * a
swap a b = let e : a * b ≡ b * a = grind arith in omega (arith, e)

begins_first : (count shards : ℕ) → 0 * count / shards ≡ 0
begins_first count shards = let least = begins_within 0 0 shards (omega arith) in omega (arith, least)

begins_last : (count shards : ℕ) → 1 ≤ shards → shards * count / shards ≡ count
begins_last count shards some =
    let least = begins_within shards count shards (omega arith) in
    let most = le-div count (shards * count) shards (omega (arith, some)) (swap count shards) in
    omega (arith, least, most)

pub all_named : (shards : ℕ) (joined : ℕ → ℕ → Bool) (classes : Classing) → 1 ≤ shards → names_between joined classes (begin_of shards classes 0) (begin_of shards classes shards) ≡ class_names joined classes
all_named shards joined classes some =
    let first : begin_of shards classes 0 ≡ 0 = begins_first (length (once_of classes)) shards in
    let last : begin_of shards classes shards ≡ length (once_of classes) = begins_last (length (once_of classes)) shards some in
    ap (λ (n : ℕ). names_between joined classes n (begin_of shards classes shards)) first ∙ (ap (λ (n : ℕ). names_between joined classes 0 n) last ∙ all_names joined classes)

-- the comparisons of all
pub all_bounded : (shards : ℕ) (joined : ℕ → ℕ → Bool) (classes : Classing) (kept : List Kept) (names : Result (Vec ℕ Global) NoMemory) (made : ℕ) → 1 ≤ shards → classes ≡ classing_of joined kept → IsNamed shards 0 shards joined classes names made
    → made ≤ 2 * (length (classes_of joined kept) * length (groups_of joined kept))
all_bounded shards joined classes kept names made some e found =
    let P : Classing → Type 0 = λ s. made ≤ 2 * (length (once_of s) * length s.groups) in
    let first : begin_of shards classes 0 ≡ 0 = begins_first (length (once_of classes)) shards in
    let last : begin_of shards classes shards ≡ length (once_of classes) = begins_last (length (once_of classes)) shards some in
    let span : begin_of shards classes shards - begin_of shards classes 0 ≡ length (once_of classes) = omega (arith, first, last) in
    let Q : ℕ → Type 0 = λ n. made ≤ 2 * (n * length classes.groups) in
    subst P e (subst Q span found.at_most)

-- what is named, where all shards named
pub named_all : (shards : ℕ) (joined : ℕ → ℕ → Bool) (classes : Classing) (names : Result (Vec ℕ Global) NoMemory) (v : Vec ℕ Global) (made : ℕ) → 1 ≤ shards → names ≡ Ok v → IsNamed shards 0 shards joined classes names made → v.items ≡ class_names joined classes
named_all shards joined classes names v made some is found =
    let P : Result (Vec ℕ Global) NoMemory → Type 0 = λ n. IfOk n (λ w. w.items ≡ names_between joined classes (begin_of shards classes 0) (begin_of shards classes shards)) in
    subst P is found.named ∙ all_named shards joined classes some

-- the comparisons of some shards
pub part_small : (shards from to : ℕ) (joined : ℕ → ℕ → Bool) (classes : Classing) (names : Result (Vec ℕ Global) NoMemory) (made : ℕ) → to ≤ shards → length (once_of classes) ≤ most_classes → length classes.groups ≤ most_classes
    → IsNamed shards from to joined classes names made → made ≤ 2 * (most_classes * most_classes)
part_small shards from to joined classes names made within few few_groups found =
    let last = begins_within to (length (once_of classes)) shards within in
    let most = mul-le (begin_of shards classes to - begin_of shards classes from) (length classes.groups) most_classes most_classes (omega (arith, last, few)) few_groups in
    omega (arith, most, found.at_most)
