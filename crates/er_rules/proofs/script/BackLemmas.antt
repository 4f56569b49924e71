-- The rules from an event that begins now back to one that has begun.
use Rattle.std.proofs.Common.{◌≡◌, ℕ, Bool, false, Option, Some, None, refl, sym, ap, ◌∙◌, arith, inl, inr}
use Rattle.std.specs.Prelude.{◌==◌, ◌&&◌, ◌||◌, nat_lt}
use Rattle.std.proofs.lemmas.Bool.{ne_eqb}
use Rattle.std.proofs.lemmas.Bool.Decides.{eqb_tells}
use Rattle.er_history.specs.History.{Element, What, ParseStep, ScriptRun}
use Rattle.er_history.specs.Rules.{is_some_and, is_blocking, is_deferred}
use Rattle.er_history.proofs.EventLemmas.{event_with, IsOther}
use Rattle.er_history.proofs.MakersLemmas.{ElementBelow}
use Rattle.er_history.proofs.OrderLemmas.{WhatBefore}
use Rattle.er_history.specs.Kinds.{is_step_of, is_run_of}
use Rattle.er_rules.proofs.script.RulesLemmas.{rules_hold, to_step, to_run, to_unmade, to_other, other_step, other_run}

equal_both_ways : (a b : ℕ) → (a == b) ≡ (b == a)
equal_both_ways a b =
    elim (eqb_tells b a) [
      | inl same ↦ ap (λ c. c == b) (sym same.1) ∙ ap (λ c. b == c) same.1
      | inr other ↦ ne_eqb a b (λ e. other.1 (sym e)) ∙ sym other.0
    ]

-- the event that made a script has begun
not_made_now : (n : ℕ) (z : Element) → ElementBelow n z → (z.maker == n) ≡ false
not_made_now n z below = ne_eqb z.maker n (λ e. omega (arith, e, below.0))

-- from a parse step
pub from_step : (joined : ℕ → ℕ → Bool) (n u d : ℕ) (m : Option ℕ) (w : What) → WhatBefore n w → rules_hold joined n u (ParseStep d m) w ≡ is_run_of is_deferred d (event_with u w)
from_step joined n u d m (ParseStep c k) before = to_step joined n u c k (ParseStep d m)
from_step joined n u d m (ScriptRun f None) before = to_unmade joined n u f (ParseStep d m)
from_step joined n u d m (ScriptRun f (Some z)) before =
    to_run joined n u f z (ParseStep d m) ∙ ap (λ b. b || (is_deferred z && (z.doc == d))) (not_made_now n z (before z refl))
from_step joined n u d m w before = to_other joined n u (ParseStep d m) w tt

-- from neither a parse step nor the run of a script
pub from_other : (joined : ℕ → ℕ → Bool) (n u : ℕ) (v w : What) → IsOther v → WhatBefore n w → rules_hold joined n u v w ≡ false
from_other joined n u v (ParseStep c k) other before = to_step joined n u c k v ∙ other_step u c v other
from_other joined n u v (ScriptRun f None) other before = to_unmade joined n u f v
from_other joined n u v (ScriptRun f (Some z)) other before = to_run joined n u f z v ∙ (other_run n z v other ∙ not_made_now n z (before z refl))
from_other joined n u v w other before = to_other joined n u v w tt

-- from the run of a script that no record made
pub from_unmade : (joined : ℕ → ℕ → Bool) (n u e : ℕ) (w : What) → WhatBefore n w → rules_hold joined n u (ScriptRun e None) w ≡ false
from_unmade joined n u e (ParseStep c k) before = to_step joined n u c k (ScriptRun e None)
from_unmade joined n u e (ScriptRun f None) before = to_unmade joined n u f (ScriptRun e None)
from_unmade joined n u e (ScriptRun f (Some z)) before = to_run joined n u f z (ScriptRun e None) ∙ not_made_now n z (before z refl)
from_unmade joined n u e w before = to_other joined n u (ScriptRun e None) w tt

-- the script of the run was parsed after step p
abbrev pub parsed_after : ℕ → What → Bool
parsed_after p (ScriptRun f made) = is_some_and (λ (z : Element). nat_lt p z.piece) made
parsed_after p _ = false

-- the run of script y comes too late behind the event
abbrev pub comes_late : Element → ℕ → What → Bool
comes_late y u w = (is_blocking y && ((is_step_of y.doc (event_with u w) && nat_lt y.piece u) || is_run_of is_deferred y.doc (event_with u w))) || (is_deferred y && (is_run_of is_deferred y.doc (event_with u w) && parsed_after y.piece w))

late_step : (b d s l : Bool) → (b && (s && l)) ≡ ((b && ((s && l) || false)) || (d && (false && false)))
late_step b d s l = grind arith

late_run : (b d s l c : Bool) → ((b && (c && s)) || (d && (c && (s && l)))) ≡ ((b && ((false && l) || (c && s))) || (d && ((c && s) && l)))
late_run b d s l c = grind arith

none_late : (b d : Bool) → false ≡ ((b && ((false && false) || false)) || (d && (false && false)))
none_late b d = grind arith

-- from the run of a script
pub from_run : (joined : ℕ → ℕ → Bool) (n u e : ℕ) (y : Element) (w : What) → WhatBefore n w → rules_hold joined n u (ScriptRun e (Some y)) w ≡ comes_late y u w
from_run joined n u e y (ParseStep c k) before =
    to_step joined n u c k (ScriptRun e (Some y)) ∙ (ap (λ b. is_blocking y && (b && nat_lt y.piece u)) (equal_both_ways y.doc c) ∙ late_step (is_blocking y) (is_deferred y) (c == y.doc) (nat_lt y.piece u))
from_run joined n u e y (ScriptRun f None) before = to_unmade joined n u f (ScriptRun e (Some y)) ∙ none_late (is_blocking y) (is_deferred y)
from_run joined n u e y (ScriptRun f (Some z)) before =
    to_run joined n u f z (ScriptRun e (Some y))
    ∙ ((λ i. not_made_now n z (before z refl) i || ((is_blocking y && (is_deferred z && equal_both_ways y.doc z.doc i)) || (is_deferred y && (is_deferred z && (equal_both_ways y.doc z.doc i && nat_lt y.piece z.piece)))))
    ∙ late_run (is_blocking y) (is_deferred y) (z.doc == y.doc) (nat_lt y.piece z.piece) (is_deferred z))
from_run joined n u e y w before = to_other joined n u (ScriptRun e (Some y)) w tt ∙ none_late (is_blocking y) (is_deferred y)
