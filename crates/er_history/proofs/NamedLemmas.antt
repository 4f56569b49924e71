-- What holds of a record that naming does not refuse, and of lists of such records.
use Rattle.std.proofs.Common.{◌≡◌, ℕ, ◌≤◌, Bool, true, false, List, [], ◌∷◌, length, Option, Some, None, refl, arith}
use Rattle.std.specs.Prelude.{not, ◌&&◌, ◌==◌, nat_lt, if◌then◌else◌}
use Rattle.std.proofs.lemmas.Bool.Decides.{nat_tests}
use Rattle.er_text.specs.declared.causes.Cause.{Cause}
use Rattle.er_text.specs.declared.causes.Cause.TheVariants.{Unknown, Again, NotScript, Misplaced, OutOfOrder, TooManyActions, TooDeep}
use Rattle.er_trace.specs.declared.record.Record.{Record}
use Rattle.er_trace.specs.declared.nesting.Nesting.{Nesting}
use Rattle.er_trace.specs.declared.nesting.Nesting.TheVariants.{Note, Alone}
use Rattle.er_trace.specs.Signature.{nesting}
use Rattle.er_history.specs.History.{told, begins, begins_at, running, action_begun, actions_after, find_open, or_else, Action, Open, Dispatch}
use Rattle.er_history.specs.Rules.{Rule}
use Rattle.er_history.specs.Naming.{naming, unknown, again, not_script, misplaced, misplaced_at, first_cause, has_open, is_top, one_runs, room, too_deep}
use Rattle.er_paths.specs.Limits.{most_actions}
use Rattle.er_history.specs.Sound.{cause, out_of_order, SoundListsAreNamed}

-- none of the four tests of naming holds
pub record NoneHolds (h : List Record) (x : Record) : Type 0 where
  pub known : unknown h x ≡ false
  pub new : again h x ≡ false
  pub script : not_script (told h) x ≡ false
  pub placed : misplaced (told h) x ≡ false

pub none_of_four : (a b c d : Bool) → first_cause ((a, Unknown) ∷ (b, Again) ∷ (c, NotScript) ∷ (d, Misplaced) ∷ []) ≡ None → (a ≡ false) × (b ≡ false) × (c ≡ false) × (d ≡ false)
none_of_four true b c d e = cc
none_of_four false true c d e = cc
none_of_four false false true d e = cc
none_of_four false false false true e = cc
none_of_four false false false false e = (refl, refl, refl, refl)

pub none_holds : (h : List Record) (x : Record) → naming h x ≡ None → NoneHolds h x
none_holds h x e = let p = none_of_four (unknown h x) (again h x) (not_script (told h) x) (misplaced (told h) x) e in record { known = p.0; new = p.1; script = p.2; placed = p.3 }

pub none_named : (a b c d : Bool) → a ≡ false → b ≡ false → c ≡ false → d ≡ false → first_cause ((a, Unknown) ∷ (b, Again) ∷ (c, NotScript) ∷ (d, Misplaced) ∷ []) ≡ None
none_named true b c d e f g i = absurd (cc)
none_named false true c d e f g i = absurd (cc)
none_named false false true d e f g i = absurd (cc)
none_named false false false true e f g i = absurd (cc)
none_named false false false false e f g i = refl

-- neither naming, nor order, nor room is against the record
pub record HasNoCause (table : List (ℕ × Rule)) (h : List Record) (x : Record) : Type 0 where
  pub named : naming h x ≡ None
  pub ordered : out_of_order table h x ≡ false
  pub fits : room h x ≡ None

pub no_cause : (table : List (ℕ × Rule)) (h : List Record) (x : Record) → cause table h x ≡ None → HasNoCause table h x
no_cause table h x e = let p = three (naming h x) (room h x) (out_of_order table h x) e in record { named = p.0; ordered = p.1; fits = p.2 }
  where
    three : (o rest : Option Cause) (b : Bool) → or_else o (if b then Some OutOfOrder else rest) ≡ None → (o ≡ None) × (b ≡ false) × (rest ≡ None)
    three None rest false e = (refl, refl, e)
    three None rest true e = absurd (cc)
    three (Some c) rest b e = absurd (cc)

pub sound_lists_are_named : SoundListsAreNamed
sound_lists_are_named table [] sound = tt
sound_lists_are_named table (x ∷ h) sound = ((no_cause table h x sound.0).named, sound_lists_are_named table h sound.1)

-- what stands at the top of the stack is found there
pub top_found : (p : ℕ) (s : List Open) → not (is_top false p s) ≡ false → (d : Dispatch) × (find_open p s ≡ Some d)
top_found p [] e = cc
top_found p (o ∷ below) e = step (o.dispatch.number == p) (not o.closing) e
  where
    step : (a b : Bool) → not (a && b) ≡ false → (d : Dispatch) × ((if a then Some o.dispatch else find_open p below) ≡ Some d)
    step true b e = (o.dispatch, refl)
    step false b e = cc

-- it may stand where dispatches are open
abbrev pub is_nested : Nesting → Bool
is_nested Note = false
is_nested Alone = false
is_nested _ = true

-- a record that begins no action stands in one
pub note_runs : (h : List Record) (x : Record) → misplaced (told h) x ≡ false → begins x ≡ false → not (one_runs (running (told h).actions)) ≡ false
note_runs h x placed b = by (nesting x) placed b
  where
    by : (n : Nesting) → misplaced_at (told h) n ≡ false → begins_at n ≡ false → not (one_runs (running (told h).actions)) ≡ false
    by Note placed b = placed
    by _ placed b = absurd (cc)

-- a record that begins an action finds no dispatch open, where its place is not among open ones
pub begun_on_none : (h : List Record) (x : Record) → misplaced (told h) x ≡ false → begins x ≡ true → is_nested (nesting x) ≡ false → has_open (told h).stack ≡ false
begun_on_none h x placed b plain = by (nesting x) placed b plain
  where
    by : (n : Nesting) → misplaced_at (told h) n ≡ false → begins_at n ≡ true → is_nested n ≡ false → has_open (told h).stack ≡ false
    by Alone placed b plain = placed
    by Note placed b plain = absurd (cc)
    by _ placed b plain = absurd (cc)

-- some action runs when a record has been read that is not misplaced
pub runs_after : (h : List Record) (x : Record) → misplaced (told h) x ≡ false → (a : Action) × (running (actions_after (told h) x) ≡ Some a)
runs_after h x placed = by (begins x) refl
  where
    note : (o : Option Action) → not (one_runs o) ≡ false → (a : Action) × (o ≡ Some a)
    note None e = cc
    note (Some a) e = (a, refl)

    by : (b : Bool) → begins x ≡ b → (a : Action) × (running (if b then action_begun (told h) x ∷ (told h).actions else (told h).actions) ≡ Some a)
    by true e = (action_begun (told h) x, refl)
    by false e = note (running (told h).actions) (note_runs h x placed e)

-- room is asked for each action that begins
pub few_more : (h : List Record) (x : Record) → room h x ≡ None → length (told h).actions ≤ most_actions → length (told (x ∷ h)).actions ≤ most_actions
few_more h x is few = step (begins x) (nat_lt (length (told h).actions) most_actions) (too_deep (told h) x) refl is
  where
    step : (b c d : Bool) → nat_lt (length (told h).actions) most_actions ≡ c → first_cause ((b && not c, TooManyActions) ∷ (d, TooDeep) ∷ []) ≡ None
        → length (if b then action_begun (told h) x ∷ (told h).actions else (told h).actions) ≤ most_actions
    step true true d e f = grind (arith, nat_tests)
    step true false d e f = absurd (cc)
    step false c d e f = few
