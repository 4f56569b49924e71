-- The rules between events, by what the events are.
use Rattle.std.proofs.Common.{◌≡◌, ℕ, Bool, true, false, Option, Some, None, refl, ap}
use Rattle.std.specs.Prelude.{not, ◌==◌, ◌&&◌, ◌||◌, nat_lt}
use Rattle.std.specs.List.{list_any}
use Rattle.std.proofs.lemmas.Bool.{ne_eqb}
use Rattle.er_history.specs.History.{Element, What, ParseStep, ScriptRun}
use Rattle.er_history.specs.Rules.{Rule, is_some_and, is_blocking, is_deferred, script_rules}
use Rattle.er_history.proofs.EventLemmas.{event_with, IsOther}

-- the rules from an event to another
abbrev pub rules_hold : (ℕ → ℕ → Bool) → ℕ → ℕ → What → What → Bool
rules_hold joined u n w v = list_any (λ (r : ℕ × Rule). r.1 joined (event_with u w) (event_with n v)) script_rules

-- to a parse step

abbrev pub blocking_run : ℕ → ℕ → What → Bool
blocking_run n d (ScriptRun e made) = is_some_and (λ (x : Element). is_blocking x && ((x.doc == d) && nat_lt x.piece n)) made
blocking_run n d _ = false

or_none : (b : Bool) → (b || false) ≡ b
or_none true = refl
or_none false = refl

pub to_step : (joined : ℕ → ℕ → Bool) (u n d : ℕ) (m : Option ℕ) (w : What) → rules_hold joined u n w (ParseStep d m) ≡ blocking_run n d w
to_step joined u n d m (ScriptRun e None) = refl
to_step joined u n d m (ScriptRun e (Some x)) = or_none (is_blocking x && ((x.doc == d) && nat_lt x.piece n))
to_step joined u n d m w = refl

-- to the run of a script

abbrev pub before_run : ℕ → Element → What → Bool
before_run u y (ParseStep d m) = (y.maker == u) || (is_deferred y && (y.doc == d))
before_run u y (ScriptRun e (Some x)) = (y.maker == u) || ((is_blocking x && (is_deferred y && (x.doc == y.doc))) || (is_deferred x && (is_deferred y && ((x.doc == y.doc) && nat_lt x.piece y.piece))))
before_run u y _ = y.maker == u

pub to_run : (joined : ℕ → ℕ → Bool) (u n e : ℕ) (y : Element) (w : What) → rules_hold joined u n w (ScriptRun e (Some y)) ≡ before_run u y w
to_run joined u n e y (ParseStep d m) = ap (λ b. (y.maker == u) || b) (or_none (is_deferred y && (y.doc == d)))
to_run joined u n e y (ScriptRun f None) = or_none (y.maker == u)
to_run joined u n e y (ScriptRun f (Some x)) = ap (λ b. (y.maker == u) || ((is_blocking x && (is_deferred y && (x.doc == y.doc))) || b)) (or_none (is_deferred x && (is_deferred y && ((x.doc == y.doc) && nat_lt x.piece y.piece))))
to_run joined u n e y w = or_none (y.maker == u)

pub to_unmade : (joined : ℕ → ℕ → Bool) (u n e : ℕ) (w : What) → rules_hold joined u n w (ScriptRun e None) ≡ false
to_unmade joined u n e (ParseStep d m) = refl
to_unmade joined u n e (ScriptRun f None) = refl
to_unmade joined u n e (ScriptRun f (Some x)) = refl
to_unmade joined u n e w = refl

-- to another event
pub to_other : (joined : ℕ → ℕ → Bool) (u n : ℕ) (w v : What) → IsOther v → rules_hold joined u n w v ≡ false
to_other joined u n w (ParseStep d m) other = absurd other
to_other joined u n w (ScriptRun e made) other = absurd other
to_other joined u n (ParseStep d m) v other = refl
to_other joined u n (ScriptRun f made) v other = refl
to_other joined u n w v other = refl

-- from an event that is neither

pub other_step : (n d : ℕ) (w : What) → IsOther w → blocking_run n d w ≡ false
other_step n d (ParseStep c m) other = absurd other
other_step n d (ScriptRun e made) other = absurd other
other_step n d w other = refl

pub other_run : (u : ℕ) (y : Element) (w : What) → IsOther w → before_run u y w ≡ (y.maker == u)
other_run u y (ParseStep c m) other = absurd other
other_run u y (ScriptRun e made) other = absurd other
other_run u y w other = refl

pub holds_apart : (u n : ℕ) (b : Bool) → (u ≡ n → ⊥) → (not (u == n) && b) ≡ b
holds_apart u n b apart = rw (ne_eqb u n apart) refl
