-- How a table comes to stand for one record more.
use Rattle.std.proofs.Common.{◌≡◌, ℕ, Bool, true, false, List, [], ◌∷◌, length, Option, Some, None, option_map, refl, sym, ap, ◌∙◌}
use Rattle.std.specs.Prelude.{◌==◌, if◌then◌else◌, map}
use Rattle.er_trace.specs.declared.record.Record.{Record}
use Rattle.er_trace.specs.declared.record.Record.TheVariants.{Timer}
use Rattle.er_history.specs.History as history
use Rattle.er_history.specs.History.{told, or_else, first_to, makes_element, makes_timeout, running, actions_after, Action, Entry}
use Rattle.er_history.specs.LookUps.{timeout_made, fires, fires_of}
use Rattle.er_history.specs.Noted.{noted_in}
use Rattle.er_history.proofs.FirstLemmas.{map_or_else, known_more, entry_more}
use Rattle.er_claims.specs.declared.claimed.Element.{Element}
use Rattle.er_claims.specs.declared.claimed.SetTimeout.{SetTimeout}
use Rattle.er_claims.specs.declared.claimed.Timeout.{Timeout}
use Rattle.er_claims.specs.Fired.{number_of, numbered, timer_found, timer_listed, timers_of}
use Rattle.er_claims.specs.Claimed.{Setting, ElementsAre, TimeoutsAre, ElementGiven, SettingGiven, element_of, setting_of, setting}

pub elements_more : (old new : ℕ → Option Element) (pair : Option (ℕ × Element)) (h : List Record) (x : Record) (a : Action)
    → ((k : ℕ) → new k ≡ or_else (old k) (noted_in k pair)) → ElementsAre old h → ElementGiven pair x a → running (actions_after (told h) x) ≡ Some a → ElementsAre new (x ∷ h)
elements_more old new pair h x a more stands given runs = record {
  made = λ k. ap (option_map element_of) (more k) ∙ (map_or_else element_of (old k) (noted_in k pair) ∙ entry_more (makes_element k) h x a (option_map element_of (old k)) (option_map element_of (noted_in k pair)) runs (stands.made k) (given.made k (length (told h).entries)));
  known = λ k. known_more (new k) (old k) (noted_in k pair) _ _ (more k) (stands.known k) (given.known k);
}

pub timeouts_more : (old new : ℕ → Option Timeout) (pair : Option (ℕ × Timeout)) (h : List Record) (x : Record) (a : Action)
    → ((k : ℕ) → new k ≡ or_else (old k) (noted_in k pair)) → TimeoutsAre old h → SettingGiven pair x a → running (actions_after (told h) x) ≡ Some a → TimeoutsAre new (x ∷ h)
timeouts_more old new pair h x a more stands given runs = record {
  made = λ k.
      let entries = (told h).entries in
      let entry : Entry = record { read = x; place = length entries; action = Some a } in
      let due : or_else (first_to (makes_timeout k) entries) (makes_timeout k entry) ≡ first_to (makes_timeout k) (told (x ∷ h)).entries = entry_more (makes_timeout k) h x a _ _ runs refl refl in
      ap (option_map setting_of) (more k) ∙ (map_or_else setting_of (old k) (noted_in k pair) ∙ (ap (λ o. or_else o (option_map setting_of (noted_in k pair))) (stands.made k)
      ∙ (ap (or_else (option_map setting (first_to (makes_timeout k) entries))) (given.made k (length entries)) ∙ (sym (map_or_else setting (first_to (makes_timeout k) entries) (makes_timeout k entry)) ∙ ap (option_map setting) due))));
  known = λ k. known_more (new k) (old k) (noted_in k pair) _ _ (more k) (stands.known k) (given.known k);
}

-- what is found of a timer's timeout is what the list says of it
pub timer_fires : (h : List Record) (x : Record) (found : ℕ → Option Timeout) (timer : Option SetTimeout) → TimeoutsAre found h → timer ≡ timer_found found x → (u : ℕ) → map number_of (timers_of u timer) ≡ fires_of h u x
timer_fires h (Timer t) found timer stands e u = ap (λ o. map number_of (timers_of u o)) e ∙ (by_setting (found t) ∙ (ap of (stands.made t) ∙ sym (by_list (timeout_made h t) refl)))
  where
    of : Option Setting → List ℕ
    of None = []
    of (Some s) = if s.maker == u then t ∷ [] else []

    alone : (b : Bool) (y : SetTimeout) → map number_of (if b then y ∷ [] else []) ≡ (if b then y.timeout ∷ [] else [])
    alone true y = refl
    alone false y = refl

    by_setting : (o : Option Timeout) → map number_of (timers_of u (option_map (numbered t) o)) ≡ of (option_map setting_of o)
    by_setting None = refl
    by_setting (Some x) = alone (x.maker == u) (numbered t x)

    by_list : (o : Option history.Timeout) → timeout_made h t ≡ o → fires_of h u (Timer t) ≡ of (option_map setting o)
    by_list None e = rw e refl
    by_list (Some x) e = rw e refl
timer_fires h _ found timer stands e u = ap (λ o. map number_of (timers_of u o)) e

-- and so is the timeout itself
pub timer_listed_fires : (h : List Record) (x : Record) (found : ℕ → Option Timeout) (timer : Option SetTimeout) → TimeoutsAre found h → timer ≡ timer_found found x → timer_listed timer ≡ fires h x
timer_listed_fires h (Timer t) found timer stands e = ap timer_listed e ∙ (by_setting (found t) ∙ (ap of (stands.made t) ∙ sym (by_list (timeout_made h t) refl)))
  where
    of : Option Setting → List ℕ
    of None = []
    of (Some s) = t ∷ []

    by_setting : (o : Option Timeout) → timer_listed (option_map (numbered t) o) ≡ of (option_map setting_of o)
    by_setting None = refl
    by_setting (Some x) = refl

    by_list : (o : Option history.Timeout) → timeout_made h t ≡ o → fires h (Timer t) ≡ of (option_map setting o)
    by_list None e = rw e refl
    by_list (Some x) e = rw e refl
timer_listed_fires h _ found timer stands e = ap timer_listed e
