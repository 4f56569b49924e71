-- What is written of a race and of its orders.
use Rattle.std.proofs.Common.{◌≡◌, ℕ, zero, suc, ◌-◌, ◌<◌, ◌≤◌, List, length, get_or, Some, sym, ap, ◌∙◌, arith}
use Rattle.std.specs.List.{slice_get}
use Rattle.std.proofs.Math.Logic.{∥∥₁_elim}
use Rattle.std.proofs.Props.{props}
use Rattle.std.proofs.lemmas.List.Elements.{All-get_or}
use Rattle.er_trace.specs.declared.record.Loc.{Loc}
use Rattle.er_paths.specs.Paths.{joins}
use Rattle.er_access.specs.declared.access.Access.{Access}
use Rattle.er_access.specs.Kept.{Kept}
use Rattle.er_access.specs.Numbers.{locations_of, IsKeptAt}
use Rattle.er_races.specs.declared.race.Race.{Race}
use Rattle.er_races.specs.Races.{races_by, IsWithin}
use Rattle.er_report.specs.Fragments.{placed, both_at}
use Rattle.er_report.proofs.CountLemmas.{are_pairs, are_within}
use Rattle.er_report.proofs.ReportLemmas.{reads_pair}
use Rattle.er_schedule.specs.Schedules.{Orders, orders_of}
use Rattle.er_schedule.specs.Text.{race_number, schedules_of, schedule_text, text_of, AreOrders, AreSomeOrders}

-- from number 1 on the races of these numbers are those of the list, in its order
pub race_number_from_one : (pairs : List (Kept × Kept)) (k : ℕ) → 1 ≤ k → race_number pairs k ≡ slice_get pairs (k - 1)
race_number_from_one pairs zero least = absurd (omega (arith, least))
race_number_from_one pairs (suc k) least = let e : k ≡ suc k - 1 = omega arith in ap (slice_get pairs) e

-- the numbers of a race are of accesses
pub race_first : (accesses : List Kept) (races : List Race) (k : ℕ) (orders : Orders) (i : ℕ) (d : Race) → ∥ AreSomeOrders accesses races k orders ∥₁ → i < length races → (get_or races i d).first < length accesses
race_first accesses races k orders i d some below = ∥∥₁_elim some (hlevel props) (λ one.
    let within = All-get_or (IsWithin accesses) races i d below (are_within (joins one.lists) accesses races one.are.races_are) in
    omega (arith, within.0, within.1))

pub race_second : (accesses : List Kept) (races : List Race) (k : ℕ) (orders : Orders) (i : ℕ) (d : Race) → ∥ AreSomeOrders accesses races k orders ∥₁ → i < length races → (get_or races i d).second < length accesses
race_second accesses races k orders i d some below = ∥∥₁_elim some (hlevel props) (λ one.
    let within = All-get_or (IsWithin accesses) races i d below (are_within (joins one.lists) accesses races one.are.races_are) in
    omega (arith, within.1))

-- the text that is written is the one that is due
pub text_told : (lists : List (List ℕ)) (accesses : List Kept) (races : List Race) (k : ℕ) (orders : Orders) (d : Race) (x y : Access) (l : Loc) → AreOrders lists accesses races k orders → 1 ≤ k → k - 1 < length races
    → slice_get (locations_of accesses) x.location ≡ Some l → y.location < length (locations_of accesses) → IsKeptAt accesses (get_or races (k - 1) d).first x → IsKeptAt accesses (get_or races (k - 1) d).second y
    → schedules_of k (both_at x y l) orders ≡ schedule_text lists accesses k
text_told lists accesses races k orders d x y l are least below at known first second =
    let pairs = races_by (joins lists) accesses in
    let is = reads_pair accesses races pairs (k - 1) d x y l (are_pairs (joins lists) accesses races are.races_are) below at known first second in
    let here : race_number pairs k ≡ Some (placed x l, placed y is.other) = race_number_from_one pairs k least ∙ is.here in
    let race : are.race ≡ (placed x l, placed y is.other) = same_pair (sym are.found ∙ here) in
    let due : orders ≡ orders_of (joins lists) (length lists) x.action y.action = are.orders_are ∙ ap (λ (p : Kept × Kept). orders_of (joins lists) (length lists) p.0.action p.1.action) race in
    ap (schedules_of k (both_at x y l)) due ∙ sym (ap (text_of lists k) here)
  where
    same_pair : {p q : Kept × Kept} → Some p ≡ Some q → p ≡ q
    same_pair e = cc
