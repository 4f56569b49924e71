-- The races of a table, and their classes.
use Rattle.std.proofs.Common.{◌≡◌, ℕ, zero, suc, ◌<◌, Bool, List, [], ◌∷◌, Some, map, refl, sym, ap, ◌∙◌, All, subst}
use Rattle.std.specs.Prelude.{slice_get}
use Rattle.std.specs.List.{AllByRecursion}
use Rattle.std.proofs.lemmas.List.Elements.{recursion_from_All, All-from_recursion}
use Rattle.er_trace.specs.declared.record.Loc.{Loc}
use Rattle.er_access.specs.Kept.{Kept}
use Rattle.er_access.specs.Numbers.{access_at, accesses_of, by_number, locations_of}
use Rattle.er_races.specs.declared.race.Race.{Race}
use Rattle.er_races.specs.Races.{races_of, races_by, IsWithin}
use Rattle.er_races.proofs.RaceLemmas.{numbers_are_pairs, numbers_within}
use Rattle.er_cover.specs.declared.class.Class.{Class}
use Rattle.er_cover.specs.Classes.{class_of, classes_by_race}
use Rattle.er_cover.specs.Passes.{class_by_number, classes_by_number, IsKnown}

-- the accesses of races are of the table
pub races_within : (joined : ℕ → ℕ → Bool) (accesses : List Kept) (races : List Race) → races ≡ races_of joined accesses → All (IsWithin accesses) races
races_within joined accesses races is =
    let Q : List Race → Type 0 = λ rs. All (IsWithin accesses) rs in
    subst Q (sym is) (numbers_within joined accesses)

-- the access of a number has the action of the kept access
kept_action : (locations : List Loc) (accesses : List Kept) (n : ℕ) (x : Kept) → slice_get accesses n ≡ Some x → (access_at (map (by_number locations) accesses) n).action ≡ x.action
kept_action locations [] n x e = absurd (cc)
kept_action locations (y ∷ ys) zero x e = let s : y ≡ x = cc in ap (λ (z : Kept). z.action) s
kept_action locations (y ∷ ys) (suc n) x e = kept_action locations ys n x e

abbrev the_class : ℕ → ℕ → Class
the_class i j = record { first = i; second = j }

classes_alike : (accesses : List Kept) (races : List Race) (pairs : List (Kept × Kept)) → map (λ r. slice_get accesses r.first) races ≡ map (λ p. Some p.0) pairs → map (λ r. slice_get accesses r.second) races ≡ map (λ p. Some p.1) pairs
    → classes_by_number (accesses_of accesses) races ≡ map class_of pairs
classes_alike accesses [] [] firsts seconds = refl
classes_alike accesses [] (p ∷ ps) firsts seconds = absurd (cc)
classes_alike accesses (r ∷ rs) [] firsts seconds = absurd (cc)
classes_alike accesses (r ∷ rs) (p ∷ ps) firsts seconds =
    let f : slice_get accesses r.first ≡ Some p.0 = cc in
    let s : slice_get accesses r.second ≡ Some p.1 = cc in
    let first = kept_action (locations_of accesses) accesses r.first p.0 f in
    let second = kept_action (locations_of accesses) accesses r.second p.1 s in
    let head : class_by_number (accesses_of accesses) r ≡ class_of p = same first second in
    ap (λ (x : Class). x ∷ classes_by_number (accesses_of accesses) rs) head ∙ ap (λ (xs : List Class). class_of p ∷ xs) (classes_alike accesses rs ps (cc) (cc))
  where
    same : {i j k l : ℕ} → i ≡ k → j ≡ l → the_class i j ≡ the_class k l
    same e d = cc

-- so the classes by the numbers are those of the races
pub classes_numbered : (joined : ℕ → ℕ → Bool) (accesses : List Kept) (races : List Race) (found : List Class) → races ≡ races_of joined accesses → found ≡ classes_by_number (accesses_of accesses) races → found ≡ classes_by_race joined accesses
classes_numbered joined accesses races found is e =
    let pairs = numbers_are_pairs joined accesses in
    e ∙ ap (λ (rs : List Race). classes_by_number (accesses_of accesses) rs) is ∙ classes_alike accesses (races_of joined accesses) (races_by joined accesses) pairs.0 pairs.1

-- and their actions are actions of the clocks
action_below : (actions : ℕ) (accesses : List Kept) (n : ℕ) (x : Kept) → AllByRecursion (λ (y : Kept). y.action < actions) accesses → slice_get accesses n ≡ Some x → x.action < actions
action_below actions [] n x all e = absurd (cc)
action_below actions (y ∷ ys) zero x all e = let s : y ≡ x = cc in let L : Kept → Type 0 = λ z. z.action < actions in subst L s all.0
action_below actions (y ∷ ys) (suc n) x all e = action_below actions ys n x all.1 e

each_known : (actions : ℕ) (accesses : List Kept) (races : List Race) (pairs : List (Kept × Kept)) → AllByRecursion (λ (y : Kept). y.action < actions) accesses → map (λ r. slice_get accesses r.first) races ≡ map (λ p. Some p.0) pairs → map (λ r. slice_get accesses r.second) races ≡ map (λ p. Some p.1) pairs
    → AllByRecursion (IsKnown actions) (map class_of pairs)
each_known actions accesses races [] all firsts seconds = tt
each_known actions accesses [] (p ∷ ps) all firsts seconds = absurd (cc)
each_known actions accesses (r ∷ rs) (p ∷ ps) all firsts seconds = ((action_below actions accesses r.first p.0 all (cc), action_below actions accesses r.second p.1 all (cc)), each_known actions accesses rs ps all (cc) (cc))

pub classes_known : (actions : ℕ) (joined : ℕ → ℕ → Bool) (accesses : List Kept) (found : List Class) → All (λ (y : Kept). y.action < actions) accesses → found ≡ classes_by_race joined accesses → All (IsKnown actions) found
classes_known actions joined accesses found known is =
    let Q : List Class → Type 0 = λ xs. All (IsKnown actions) xs in
    let A : Kept → Type 0 = λ y. y.action < actions in
    let pairs = numbers_are_pairs joined accesses in
    subst Q (sym is) (All-from_recursion (IsKnown actions) (classes_by_race joined accesses) (each_known actions accesses (races_of joined accesses) (races_by joined accesses) (recursion_from_All A accesses known) pairs.0 pairs.1))
