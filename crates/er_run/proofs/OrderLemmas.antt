-- The two actions of a race: that of the first access began earlier. Lists of records
-- stand newest first.
use Rattle.std.proofs.Common.{◌≡◌, ◌≢◌, ℕ, zero, suc, ◌+◌, ◌<◌, ◌≤◌, Bool, true, false, not, cond, List, [], ◌∷◌, ◌++◌, All, length, filter, get_or, Some, refl, sym, ap, ◌∙◌, subst, arith, length-append}
use Rattle.std.specs.Prelude.{nat_lt, if◌then◌else◌}
use Rattle.std.specs.List.{slice_get}
use Rattle.std.proofs.Math.Seq.{get_or-append_seam}
use Rattle.std.proofs.lemmas.Bool.Decides.{nat_tests}
use Rattle.std.proofs.lemmas.List.{get_or_append_left}
use Rattle.std.proofs.lemmas.List.Elements.{All-get_or}
use Rattle.std.proofs.lemmas.Option.{get_or_from_slice_get, slice_get-get_or}
use Rattle.er_trace.specs.declared.record.Record.{Record}
use Rattle.er_trace.specs.declared.record.Record.TheVariants.{Access}
use Rattle.er_trace.specs.declared.record.Mode.{Mode}
use Rattle.er_trace.specs.declared.record.Loc.{Loc}
use Rattle.er_trace.specs.declared.record.Loc.TheVariants.{Var}
use Rattle.er_history.specs.History.{Action, told, running}
use Rattle.er_history.specs.Laws.{IsNumbered}
use Rattle.er_history.proofs.HistoryLemmas.{actions_are_numbered}
use Rattle.er_access.specs.declared.access.Access as access
use Rattle.er_access.specs.Kept.{Kept, access_of, is_candidate, pairs_of, repeats_any, with_access}
use Rattle.er_access.specs.Numbers.{IsKeptAt, locations_of}
use Rattle.er_races.specs.declared.race.Race.{Race}
use Rattle.er_races.specs.Races.{IsWithin, races_by, races_of}
use Rattle.er_report.specs.Fragments.{placed}
use Rattle.er_report.proofs.CountLemmas.{are_pairs, are_within}
use Rattle.er_report.proofs.ReportLemmas.{reads_pair}
use Rattle.er_run.specs.Races.{kept, access_in, without_repeats}
use Rattle.er_run.proofs.AccessLemmas.{kept_begun, same_kept}

-- the actions of these accesses never fall
abbrev pub Rises : List Kept → Type 0
Rises xs = (p q : ℕ) (d : Kept) → p < q → q < length xs → (get_or xs p d).action ≤ (get_or xs q d).action

rises_more : (old : List Kept) (x : Kept) → All (λ (y : Kept). y.action ≤ x.action) old → Rises old → Rises (old ++ x ∷ [])
rises_more old x under rises p q d before below = by (nat_lt q (length old)) refl
  where
    by : (b : Bool) → nat_lt q (length old) ≡ b → (get_or (old ++ x ∷ []) p d).action ≤ (get_or (old ++ x ∷ []) q d).action
    by true is =
        let within : q < length old = grind (arith, nat_tests) in
        let first = get_or_append_left old (x ∷ []) d p (omega (arith, within, before)) in
        let second = get_or_append_left old (x ∷ []) d q within in
        rw (first, second) (rises p q d before within)
    by false is =
        let past : length old ≤ q = grind (arith, nat_tests) in
        let last : q ≡ length old = omega (arith, past, below, length-append old (x ∷ [])) in
        let within : p < length old = omega (arith, before, last) in
        let first = get_or_append_left old (x ∷ []) d p within in
        let second : get_or (old ++ x ∷ []) q d ≡ x = ap (λ n. get_or (old ++ x ∷ []) n d) last ∙ get_or-append_seam old x [] d in
        rw (first, second) (under p d within)

rises_with : (old : List Kept) (x : Kept) → All (λ (y : Kept). y.action ≤ x.action) old → Rises old → Rises (with_access x old)
rises_with old x under rises = by (repeats_any x old)
  where
    by : (b : Bool) → Rises (if b then old else old ++ x ∷ [])
    by true = rises
    by false = rises_more old x under rises

access_rises : (actions : List Action) (m : Mode) (l : Loc) (place : ℕ) (old : List Kept) → IsNumbered actions → All (λ (y : Kept). y.action < length actions) old → Rises old
    → Rises (without_repeats (access_in (record { read = Access m l; place = place; action = running actions })) old)
access_rises [] m l place old n all rises = rises
access_rises (a ∷ older) m l place old n all rises =
    rises_with old (access_of (place + 2) a.number m l) (λ k d below. let under = all k d below in omega (arith, n.0, under)) rises

pub kept_rises : (h : List Record) → Rises (kept h)
kept_rises [] = λ p q d before below. absurd (omega arith)
kept_rises (Access m l ∷ h) = access_rises (told h).actions m l (length (told h).entries) (kept h) (actions_are_numbered h) (kept_begun h) (kept_rises h)
kept_rises (x ∷ h) = subst Rises (sym (same_kept h x refl)) (kept_rises h)

-- what passes a test stood in the list

abbrev Passed : {X : Type 0} → (X → Bool) → List X → X → Type 0
Passed q xs x = (q x ≡ true) × ((m : ℕ) × (slice_get xs m ≡ Some x))

passed_on : {X : Type 0} (q : X → Bool) (y : X) (ys : List X) (x : X) → Passed q ys x → Passed q (y ∷ ys) x
passed_on q y ys x before = (before.0, (suc before.1.0, before.1.1))

pub passed : {X : Type 0} (q : X → Bool) (xs : List X) (n : ℕ) (x : X) → slice_get (filter q xs) n ≡ Some x → Passed q xs x
passed q [] n x e = absurd (cc)
passed {X = X} q (y ∷ ys) n x e = by (q y) refl n (λ m at. passed_on q y ys x (passed q ys m x at)) e
  where
    by : (b : Bool) → q y ≡ b → (k : ℕ) → ((m : ℕ) → slice_get (filter q ys) m ≡ Some x → Passed q (y ∷ ys) x) → slice_get (cond b (y ∷ filter q ys) (filter q ys)) k ≡ Some x → Passed q (y ∷ ys) x
    by false is k again at = again k at
    by true is (suc k) again at = again k at
    by true is zero again at = let same : y ≡ x = cc in (ap q (sym same) ∙ is, (zero, ap Some same))

-- the accesses of a race are of two actions, and no path leads from the first to the second

pub differ : (a b : Kept) → is_candidate a b ≡ true → a.action ≢ b.action
differ a b is same = grind (arith, nat_tests)

pub no_path : (b : Bool) → not b ≡ true → b ≡ false
no_path true e = cc
no_path false e = refl

-- no later, and another
pub less_by : (i j : ℕ) → i ≤ j → i ≢ j → i < j
less_by i j up other = by (nat_lt i j) refl
  where
    by : (b : Bool) → nat_lt i j ≡ b → i < j
    by true is = grind (arith, nat_tests)
    by false is = absurd (other (grind (arith, nat_tests)))

-- race number k, from 0, is of these two actions
pub record IsRaceAt (joined : ℕ → ℕ → Bool) (accesses : List Kept) (k i j : ℕ) : Type 0 where
  pub race : Kept × Kept
  pub found : slice_get (races_by joined accesses) k ≡ Some race
  pub first : race.0.action ≡ i
  pub second : race.1.action ≡ j
  pub earlier : i < j
  pub apart : joined i j ≡ false

pub race_at : (joined : ℕ → ℕ → Bool) (accesses : List Kept) (races : List Race) (k : ℕ) (d : Race) (x y : access.Access) → Rises accesses → races ≡ races_of joined accesses → k < length races
    → x.location < length (locations_of accesses) → y.location < length (locations_of accesses)
    → IsKeptAt accesses (get_or races k d).first x → IsKeptAt accesses (get_or races k d).second y → IsRaceAt joined accesses k x.action y.action
race_at joined accesses races k d x y rises are below known_x known_y first second =
    let o : Loc = Var 0 [] in
    let l : Loc = get_or (locations_of accesses) x.location o in
    let m : Loc = get_or (locations_of accesses) y.location o in
    let at_x = slice_get-get_or (locations_of accesses) x.location o known_x in
    let at_y = slice_get-get_or (locations_of accesses) y.location o known_y in
    let is = reads_pair accesses races (races_by joined accesses) k d x y l (are_pairs joined accesses races are) below at_x known_y first second in
    let r : Race = get_or races k d in
    let within = All-get_or (IsWithin accesses) races k d below (are_within joined accesses races are) in
    let a : Kept = placed x l in
    let up = rises r.first r.second a within.0 within.1 in
    let up_x = get_or_from_slice_get accesses r.first a a (first l at_x) in
    let up_y = get_or_from_slice_get accesses r.second (placed y m) a (second m at_y) in
    let no_less : x.action ≤ y.action = rw (up_x, up_y) at up in
    let outer = passed (λ (p : Kept × Kept). not (joined p.0.action p.1.action)) (filter (λ (p : Kept × Kept). is_candidate p.0 p.1) (pairs_of accesses)) k (a, placed y is.other) is.here in
    let inner = passed (λ (p : Kept × Kept). is_candidate p.0 p.1) (pairs_of accesses) outer.1.0 (a, placed y is.other) outer.1.1 in
    let other : x.action ≢ y.action = differ a (placed y is.other) inner.0 in
    record {
      race = (a, placed y is.other);
      found = is.here;
      first = refl;
      second = refl;
      earlier = less_by x.action y.action no_less other;
      apart = no_path (joined x.action y.action) outer.0;
    }
