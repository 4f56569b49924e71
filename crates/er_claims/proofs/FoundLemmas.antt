-- What stands beside a timeout that has fired is what is found under its number.
use Rattle.std.proofs.Common.{◌≡◌, ℕ, Option, Some, None, option_map, refl, sym, ap, subst, ◌∙◌}
use Rattle.std.specs.Prelude.{IfSome}
use Rattle.std.proofs.lemmas.List.Elements.{All-weaker}
use Rattle.er_trace.specs.declared.record.Record.{Record}
use Rattle.er_trace.specs.declared.record.Record.TheVariants.{Timer}
use Rattle.er_history.specs.Taken.{KeepsEach}
use Rattle.er_claims.specs.declared.fired.Fired.{Fired}
use Rattle.er_claims.specs.declared.claimed.SetTimeout.{SetTimeout}
use Rattle.er_claims.specs.declared.claimed.Timeout.{Timeout}
use Rattle.er_claims.specs.Fired.{AreFound, IsFound, numbered, sets, sets_at, timer_found}

is_still_found : (old new : ℕ → Option Timeout) (x : SetTimeout) → KeepsEach old new → IsFound old x → IsFound new x
is_still_found old new x keeps is = by (old x.timeout) refl is
  where
    by : (o : Option Timeout) → old x.timeout ≡ o → option_map (numbered x.timeout) o ≡ Some x → IsFound new x
    by None e is = absurd (cc)
    by (Some y) e is = ap (option_map (numbered x.timeout)) (keeps x.timeout y e) ∙ is

pub are_still_found : (old new : ℕ → Option Timeout) (fired : Fired) → KeepsEach old new → AreFound old fired → AreFound new fired
are_still_found old new fired keeps are = record {
  all = All-weaker (IsFound old) (IsFound new) (λ x is. is_still_found old new x keeps is) (sets fired.all.timeouts.items) are.all;
  each = λ u. All-weaker (IsFound old) (IsFound new) (λ x is. is_still_found old new x keeps is) (sets_at fired u) (are.each u);
  all_counted = are.all_counted;
  each_counted = are.each_counted;
}

-- the timeout of a timer is found
pub timer_is_found : (found : ℕ → Option Timeout) (x : Record) (timer : Option SetTimeout) → timer ≡ timer_found found x → IfSome timer (IsFound found)
timer_is_found found x timer is = subst (λ o. IfSome o (IsFound found)) (sym is) (by x)
  where
    at : (t : ℕ) (o : Option Timeout) → found t ≡ o → IfSome (option_map (numbered t) o) (IsFound found)
    at t None e = tt
    at t (Some y) e = ap (option_map (numbered t)) e

    by : (x : Record) → IfSome (timer_found found x) (IsFound found)
    by (Timer t) = at t (found t) refl
    by _ = tt
