-- What a loop over races and groups reads.
use Rattle.std.proofs.Common.{◌≡◌, ℕ, ◌<◌, List, length, get_or, sym, ap, ◌∙◌, arith, Option, None, Some, option_map}
use Rattle.std.specs.List.{slice_get, zip}
use Rattle.std.proofs.lemmas.Grind.{common_steps}
use Rattle.std.proofs.lemmas.Slice.Zip.{length-zip, get_or-zip}
use Rattle.std.proofs.lemmas.Option.{slice_get-get_or, slice_get-map}
use Rattle.er_trace.specs.declared.record.Loc.{Loc}
use Rattle.er_access.specs.declared.access.Access.{Access}
use Rattle.er_access.specs.Kept.{Kept}
use Rattle.er_access.specs.Numbers.{locations_of, IsKeptAt}
use Rattle.er_races.specs.declared.race.Race.{Race}
use Rattle.er_races.specs.Races.{ArePairs}
use Rattle.er_report.specs.Fragments.{placed}

pair_from_parts : (o : Option (Kept × Kept)) (a b : Kept) → option_map (λ p. Some p.0) o ≡ Some (Some a) → option_map (λ p. Some p.1) o ≡ Some (Some b) → o ≡ Some (a, b)
pair_from_parts None a b first second = cc
pair_from_parts (Some (x, y)) a b first second = cc

-- the pair of the race at a place
pair_at : (accesses : List Kept) (found : List Race) (pairs : List (Kept × Kept)) (i : ℕ) (r : Race) (a b : Kept) → ArePairs accesses found pairs
    → slice_get found i ≡ Some r → slice_get accesses r.first ≡ Some a → slice_get accesses r.second ≡ Some b → slice_get pairs i ≡ Some (a, b)
pair_at accesses found pairs i r a b are here first second =
    let f = λ (x : Race). slice_get accesses x.first in
    let g = λ (x : Race). slice_get accesses x.second in
    let u = λ (p : Kept × Kept). Some p.0 in
    let v = λ (p : Kept × Kept). Some p.1 in
    let e1 : option_map u (slice_get pairs i) ≡ option_map f (slice_get found i) = sym (slice_get-map u pairs i) ∙ ap (λ (xs : List (Option Kept)). slice_get xs i) (sym are.0) ∙ slice_get-map f found i in
    let e2 : option_map v (slice_get pairs i) ≡ option_map g (slice_get found i) = sym (slice_get-map v pairs i) ∙ ap (λ (xs : List (Option Kept)). slice_get xs i) (sym are.1) ∙ slice_get-map g found i in
    pair_from_parts (slice_get pairs i) a b (e1 ∙ ap (option_map f) here ∙ ap Some first) (e2 ∙ ap (option_map g) here ∙ ap Some second)

-- The pair at a place, as a loop over the races reads it: its accesses, with the location of the
-- first, and of the second.
pub record IsPairAt (pairs : List (Kept × Kept)) (i : ℕ) (x y : Access) (l : Loc) : Type 0 where
  pub other : Loc
  pub here : slice_get pairs i ≡ Some (placed x l, placed y other)

pub reads_pair : (accesses : List Kept) (found : List Race) (pairs : List (Kept × Kept)) (i : ℕ) (d : Race) (x y : Access) (l : Loc) → ArePairs accesses found pairs → i < length found
    → slice_get (locations_of accesses) x.location ≡ Some l → y.location < length (locations_of accesses)
    → IsKeptAt accesses (get_or found i d).first x → IsKeptAt accesses (get_or found i d).second y → IsPairAt pairs i x y l
reads_pair accesses found pairs i d x y l are within at known first second =
    let other = get_or (locations_of accesses) y.location l in
    record {
      other = other;
      here = pair_at accesses found pairs i (get_or found i d) (placed x l) (placed y other) are (slice_get-get_or found i d within) (first l at) (second other (slice_get-get_or (locations_of accesses) y.location l known));
    }

-- the name at a place, as a loop over the races reads it
pub name_at : (names : List ℕ) (k g : ℕ) → k < length names → g ≡ get_or names k 0 → slice_get names k ≡ Some g
name_at names k g within is = rw is (slice_get-get_or names k 0 within)

-- the representative and the size at a place, as a loop over the groups reads them
pub group_at : (representatives sizes : List ℕ) (i k n : ℕ) → length sizes ≡ length representatives → i < length representatives → k ≡ get_or representatives i 0 → n ≡ get_or sizes i 0
    → slice_get (zip representatives sizes) i ≡ Some (k, n)
group_at representatives sizes i k n long within first second =
    let below : i < length sizes = omega (arith, long, within) in
    let both : i < length (zip representatives sizes) = grind (arith, common_steps, length-zip) in
    rw (first, second) (slice_get-get_or (zip representatives sizes) i (0, 0) both ∙ ap Some (get_or-zip representatives sizes i (0, 0) within below))

pub groups_long : (representatives sizes : List ℕ) → length sizes ≡ length representatives → length (zip representatives sizes) ≡ length representatives
groups_long representatives sizes long = grind (arith, common_steps, length-zip)
