-- What one record more does to the kept accesses. Lists of records stand newest first.
use Rattle.std.proofs.Common.{◌≡◌, ℕ, ◌+◌, ◌<◌, ◌≤◌, Bool, true, false, List, [], ◌∷◌, ◌++◌, All, map, length, Option, Some, None, get_or, option_map, refl, sym, ap, subst, ◌∙◌, arith, zero, suc, length-append}
use Rattle.std.specs.Prelude.{if◌then◌else◌}
use Rattle.std.specs.List.{AllByRecursion}
use Rattle.std.specs.List.Sorted.{IsStrictlyIncreasing}
use Rattle.std.proofs.lemmas.List.Elements.{All-push, recursion_from_All}
use Rattle.std.proofs.lemmas.Grind.{common_steps}
use Rattle.er_trace.specs.declared.record.Record.{Record}
use Rattle.er_trace.specs.declared.record.Record.TheVariants.{Access}
use Rattle.er_trace.specs.declared.record.Mode.{Mode}
use Rattle.er_trace.specs.declared.record.Loc.{Loc}
use Rattle.er_history.specs.History.{Action, told, running, actions_after}
use Rattle.er_history.specs.LookUps.{running_action}
use Rattle.er_history.specs.Laws.{IsNumbered}
use Rattle.er_history.proofs.HistoryLemmas.{actions_are_numbered, actions_grow, entries_length}
use Rattle.er_access.specs.Table.{IsRising}
use Rattle.er_access.specs.Kept.{Kept, access_of, repeats_any, with_access, IsFull}
use Rattle.er_run.specs.Laws.{KeptInOrder}
use Rattle.er_run.specs.Races.{kept, access_in, without_repeats}
use Rattle.er_run.specs.Session.{is_access, AreKept}

-- a record that is no access

pub accesses_nothing : (o : Option Action) (x : Record) (place : ℕ) → is_access x ≡ false → access_in (record { read = x; place = place; action = o }) ≡ []
accesses_nothing None x place e = refl
accesses_nothing (Some a) (Access m l) place e = cc
accesses_nothing (Some a) x place e = refl

pub same_kept : (h : List Record) (x : Record) → is_access x ≡ false → kept (x ∷ h) ≡ kept h
same_kept h x e = ap (λ more. without_repeats more (kept h)) (accesses_nothing (running (actions_after (told h) x)) x (length (told h).entries) e)

pub not_access : (x : Record) → ((m : Mode) (l : Loc) → x ≡ Access m l → ⊥) → is_access x ≡ false
not_access (Access m l) other = absurd (other m l refl)
not_access x other = refl

-- what holds of the accesses kept so far, and of the new one, holds of all

all_with : (P : Kept → Type 0) (x : Kept) (old : List Kept) → P x → All P old → All P (with_access x old)
all_with P x old here all = step (repeats_any x old)
  where
    step : (b : Bool) → All P (if b then old else old ++ x ∷ [])
    step true = all
    step false = All-push P old x all here

-- their actions have begun, and they stand in the lines of the records

access_begun : (actions : List Action) (m : Mode) (l : Loc) (place : ℕ) (old : List Kept) → IsNumbered actions → All (λ (y : Kept). y.action < length actions) old
    → All (λ (y : Kept). y.action < length actions) (without_repeats (access_in (record { read = Access m l; place = place; action = running actions })) old)
access_begun [] m l place old n all = all
access_begun (a ∷ older) m l place old n all = all_with (λ (y : Kept). y.action < length (a ∷ older)) (access_of (place + 2) a.number m l) old (omega (arith, n.0)) all

more_begun : (old new : List Kept) (m n : ℕ) → m ≤ n → old ≡ new → All (λ (y : Kept). y.action < m) old → All (λ (y : Kept). y.action < n) new
more_begun old new m n le e all k d below = let under = all k d (omega (arith, ap length e)) in omega (arith, ap (λ l. (get_or l k d).action) e)

pub kept_begun : (h : List Record) → All (λ (y : Kept). y.action < length (told h).actions) (kept h)
kept_begun [] = λ k d below. absurd (omega arith)
kept_begun (Access m l ∷ h) = access_begun (told h).actions m l (length (told h).entries) (kept h) (actions_are_numbered h) (kept_begun h)
kept_begun (x ∷ h) = more_begun (kept h) (kept (x ∷ h)) (length (told h).actions) (length (told (x ∷ h)).actions) (actions_grow (told h) x) (sym (same_kept h x refl)) (kept_begun h)

access_after : (o : Option Action) (x : Record) (place n : ℕ) (old : List Kept) → place + 2 < n → All (λ (y : Kept). y.line < n) old → All (λ (y : Kept). y.line < n) (without_repeats (access_in (record { read = x; place = place; action = o })) old)
access_after None x place n old below all = all
access_after (Some a) (Access m l) place n old below all = all_with (λ (y : Kept). y.line < n) (access_of (place + 2) a.number m l) old below all
access_after (Some a) x place n old below all = all

later_lines : (old : List Kept) (m n : ℕ) → m ≤ n → All (λ (y : Kept). y.line < m) old → All (λ (y : Kept). y.line < n) old
later_lines old m n le all k d below = let under = all k d below in omega arith

pub kept_lines : (h : List Record) → All (λ (y : Kept). y.line < length h + 2) (kept h)
kept_lines [] = λ k d below. absurd (omega arith)
kept_lines (x ∷ h) =
    access_after (running (actions_after (told h) x)) x (length (told h).entries) (length (x ∷ h) + 2) (kept h) (omega (arith, entries_length h))
    (later_lines (kept h) (length h + 2) (length (x ∷ h) + 2) (omega arith) (kept_lines h))

-- they stand in the order of their lines

rising_with : (lines : List ℕ) (n : ℕ) → IsRising lines → AllByRecursion (λ l. l < n) lines → IsRising (lines ++ n ∷ [])
rising_with [] n rising below = (tt, tt)
rising_with (l ∷ lines) n rising below = (all_push (λ m. l < m) lines n rising.0 below.0, rising_with lines n rising.1 below.1)
  where
    all_push : (P : ℕ → Type 0) (ms : List ℕ) (m : ℕ) → AllByRecursion P ms → P m → AllByRecursion P (ms ++ m ∷ [])
    all_push P [] m all here = (here, tt)
    all_push P (x ∷ ms) m all here = (all.0, all_push P ms m all.1 here)

abbrev pub lines_of : List Kept → List ℕ
lines_of accesses = map (λ (x : Kept). x.line) accesses

lines_below : (accesses : List Kept) (n : ℕ) → All (λ (x : Kept). x.line < n) accesses → AllByRecursion (λ l. l < n) (lines_of accesses)
lines_below accesses n all = by accesses (recursion_from_All (λ (x : Kept). x.line < n) accesses all)
  where
    by : (xs : List Kept) → AllByRecursion (λ (x : Kept). x.line < n) xs → AllByRecursion (λ l. l < n) (lines_of xs)
    by [] none = tt
    by (x ∷ xs) each = (each.0, by xs each.1)

lines_with : (old : List Kept) (x : Kept) → lines_of (old ++ x ∷ []) ≡ lines_of old ++ x.line ∷ []
lines_with [] x = refl
lines_with (y ∷ old) x = ap (λ l. y.line ∷ l) (lines_with old x)

rising_one : (x : Kept) (old : List Kept) → IsRising (lines_of old) → All (λ (y : Kept). y.line < x.line) old → IsRising (lines_of (with_access x old))
rising_one x old rising below = by (repeats_any x old)
  where
    by : (b : Bool) → IsRising (lines_of (if b then old else old ++ x ∷ []))
    by true = rising
    by false = subst IsRising (sym (lines_with old x)) (rising_with (lines_of old) x.line rising (lines_below old x.line below))

rising_after : (o : Option Action) (x : Record) (place : ℕ) (old : List Kept) → IsRising (lines_of old) → All (λ (y : Kept). y.line < place + 2) old → IsRising (lines_of (without_repeats (access_in (record { read = x; place = place; action = o })) old))
rising_after None x place old rising below = rising
rising_after (Some a) (Access m l) place old rising below = rising_one (access_of (place + 2) a.number m l) old rising below
rising_after (Some a) x place old rising below = rising

pub kept_rise : (h : List Record) → IsRising (lines_of (kept h))
kept_rise [] = tt
kept_rise (x ∷ h) =
    rising_after (running (actions_after (told h) x)) x (length (told h).entries) (kept h) (kept_rise h)
    (later_lines (kept h) (length h + 2) (length (told h).entries + 2) (omega (arith, entries_length h)) (kept_lines h))

rising_increases : (lines : List ℕ) → IsRising lines → IsStrictlyIncreasing lines
rising_increases [] rising i within = absurd (omega arith)
rising_increases (k ∷ []) rising i within = absurd (omega arith)
rising_increases (k ∷ l ∷ lines) rising zero within = rising.0.0
rising_increases (k ∷ l ∷ lines) rising (suc i) within =
    let next : suc (i + 1) ≡ suc i + 1 = omega arith in
    subst (λ n. get_or (l ∷ lines) i 0 < get_or (k ∷ l ∷ lines) n 0) next (rising_increases (l ∷ lines) rising.1 i (omega arith))

pub kept_in_order : KeptInOrder
kept_in_order h = rising_increases (lines_of (kept h)) (kept_rise h)

-- one record more keeps one access more at most

one_more : (x : Kept) (old : List Kept) → length (with_access x old) ≤ length old + 1
one_more x old = by (repeats_any x old)
  where
    by : (b : Bool) → length (if b then old else old ++ x ∷ []) ≤ length old + 1
    by true = omega arith
    by false = omega (arith, length-append old (x ∷ []))

grow_by : (o : Option Action) (x : Record) (place : ℕ) (old : List Kept) → length (without_repeats (access_in (record { read = x; place = place; action = o })) old) ≤ length old + 1
grow_by None x place old = omega arith
grow_by (Some a) (Access m l) place old = one_more (access_of (place + 2) a.number m l) old
grow_by (Some a) x place old = omega arith

pub kept_grow : (h : List Record) (x : Record) → length (kept (x ∷ h)) ≤ length (kept h) + 1
kept_grow h x = grow_by (running (actions_after (told h) x)) x (length (told h).entries) (kept h)

-- an access of the running action

-- the running action is the newest
newest_is : (actions : List Action) (r : ℕ) → IsNumbered actions → Some r ≡ option_map (λ (a : Action). a.number) (running actions) → r + 1 ≡ length actions
newest_is [] r n e = absurd (cc)
newest_is (a ∷ older) r n e = let same : r ≡ a.number = cc in omega (arith, n.0, same)

pub up_to_running : (h : List Record) (r : ℕ) → Some r ≡ running_action h → All (λ (x : Kept). x.action ≤ r) (kept h)
up_to_running h r runs k d below =
    let long : r + 1 ≡ length (told h).actions = newest_is (told h).actions r (actions_are_numbered h) runs in
    let under = kept_begun h k d below in
    omega arith

with_running_by : (o : Option Action) (line r place : ℕ) (m : Mode) (l : Loc) (old : List Kept) → Some r ≡ option_map (λ (a : Action). a.number) o → line ≡ place + 2
    → without_repeats (access_in (record { read = Access m l; place = place; action = o })) old ≡ with_access (access_of line r m l) old
with_running_by None line r place m l old e at = absurd (cc)
with_running_by (Some a) line r place m l old e at =
    let same : a.number ≡ r = cc in
    ap (λ n. with_access (access_of n a.number m l) old) (sym at) ∙ ap (λ n. with_access (access_of line n m l) old) same

-- what the records keep with it
pub with_running : (h : List Record) (line r : ℕ) (m : Mode) (l : Loc) → Some r ≡ running_action h → line ≡ length h + 2 → kept (Access m l ∷ h) ≡ with_access (access_of line r m l) (kept h)
with_running h line r m l e at = with_running_by (running (told h).actions) line r (length (told h).entries) m l (kept h) e (omega (arith, at, entries_length h))

-- one comes only where it repeats none
came_new : (x : Kept) (old : List Kept) → length old < length (with_access x old) → repeats_any x old ≡ false
came_new x old more = by (repeats_any x old) more
  where
    by : (b : Bool) → length old < length (if b then old else old ++ x ∷ []) → b ≡ false
    by true less = absurd (omega arith)
    by false less = refl

pub one_came : (x : Kept) (old : List Kept) → repeats_any x old ≡ false → length old < length (with_access x old)
one_came x old none = by (repeats_any x old) none
  where
    by : (b : Bool) → b ≡ false → length old < length (if b then old else old ++ x ∷ [])
    by true e = absurd (cc)
    by false e = grind (arith, common_steps)

pub added : (x : Kept) (old new : List Kept) → new ≡ with_access x old → (IsFull x old → ⊥) → AreKept old (with_access x old) new
added x old new is room = record { same = is; room = λ more most. room (came_new x old more, most) }
