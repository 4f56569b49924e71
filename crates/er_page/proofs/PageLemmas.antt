-- What a caller of a page knows of it.
use Rattle.std.proofs.Common.{◌≡◌, ℕ, ◌<◌, List, [], ◌∷◌, length, option_map, Option, Some, None, Result, Ok, sym, refl, ap, ◌∙◌, arith}
use Rattle.std.proofs.Math.Logic.{∥∥₁_map}
use Rattle.er_text.specs.declared.causes.Cause.{Cause}
use Rattle.er_trace.specs.declared.record.Record.{Record}
use Rattle.er_history.specs.History.{told, action_at, Action}
use Rattle.er_history.specs.LookUps.{event_of}
use Rattle.er_history.specs.Naming.{naming, room}
use Rattle.er_history.proofs.HistoryLemmas.{action_at_among, event_below, told_before}
use Rattle.er_page.specs.declared.page.Page.{Page}
use Rattle.er_page.specs.Accepted.{result_of}
use Rattle.er_page.specs.Page.{IsPage, IsNext, IsSomePage, HasBegun, HasEvent, Answers}

-- one who asks `check` and `room` first
pub next_of : (page : Page) (x : Record) (a b : Result (Unit {0}) Cause) → ∥ IsSomePage page ∥₁ → a ≡ Ok tt → b ≡ Ok tt
    → Answers page (λ h. result_of (naming h x)) a → Answers page (λ h. result_of (room h x)) b → ∥ IsNext page x ∥₁
next_of page x a b some e f checked fits = ∥∥₁_map some (λ is. record {
  list = is.list;
  stands = is.stands;
  named = none_of (naming is.list x) (sym (checked is.list is.stands) ∙ e);
  fits = none_of (room is.list x) (sym (fits is.list is.stands) ∙ f);
})
  where
    none_of : (o : Option Cause) → result_of o ≡ Ok tt → o ≡ None
    none_of None e = refl
    none_of (Some c) e = cc

pub after_next : (old new : Page) (x : Record) → ∥ IsNext old x ∥₁ → ((h : List Record) → IsPage old h → naming h x ≡ None → room h x ≡ None → IsPage new (x ∷ h)) → ∥ IsSomePage new ∥₁
after_next old new x some taken = ∥∥₁_map some (λ next. record { list = x ∷ next.list; stands = taken next.list next.stands next.named next.fits })

pub kept_page : (old new : Page) → ∥ IsSomePage old ∥₁ → ((h : List Record) → IsPage old h → IsPage new h) → ∥ IsSomePage new ∥₁
kept_page old new some kept = ∥∥₁_map some (λ is. record { list = is.list; stands = kept is.list is.stands })

pub first_page : (page : Page) → IsPage page [] → ∥ IsSomePage page ∥₁
first_page page is = ∣ record { list = []; stands = is } ∣₁

pub begun_of_count : (page : Page) (action count : ℕ) → ∥ IsSomePage page ∥₁ → Answers page (λ h. length (told h).actions) count → action < count → ∥ HasBegun page action ∥₁
begun_of_count page action count some is below = ∥∥₁_map some (λ one. record { list = one.list; stands = one.stands; begun = omega (arith, is one.list one.stands) })

-- the event of an action has begun with it
pub event_has_begun : (page : Page) (action event : ℕ) → ∥ HasBegun page action ∥₁ → Answers page (λ h. event_of h action) (Some event) → ∥ HasBegun page event ∥₁
event_has_begun page action event some is = ∥∥₁_map some (λ one. record { list = one.list; stands = one.stands; begun = below one.list (action_at action (told one.list).actions) refl (is one.list one.stands) })
  where
    below : (h : List Record) (o : Option Action) → action_at action (told h).actions ≡ o → Some event ≡ option_map (λ (a : Action). a.event.number) o → event < length (told h).actions
    below h None at e = absurd (cc)
    below h (Some a) at e =
        let same : event ≡ a.event.number = cc in
        omega (arith, same, event_below (told h).actions a (told_before h) (action_at_among action (told h).actions a at).0)

pub event_of_itself : (page : Page) (event found : ℕ) → ∥ IsSomePage page ∥₁ → Answers page (λ h. event_of h event) (Some found) → found ≡ event → ∥ HasEvent page event ∥₁
event_of_itself page event found some is same = ∥∥₁_map some (λ one. record { list = one.list; stands = one.stands; first = sym (is one.list one.stands) ∙ ap Some same })
