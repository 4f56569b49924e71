-- How a table comes to answer for one record more.
use Rattle.std.proofs.Common.{◌≡◌, ℕ, Bool, true, false, List, [], ◌∷◌, length, Option, Some, None, option_map, is_some, refl, sym, ap, subst, ◌∙◌}
use Rattle.std.specs.Prelude.{◌||◌}
use Rattle.er_trace.specs.declared.record.Record.{Record}
use Rattle.er_history.specs.History.{told, or_else, first_to, maker_by, running, actions_after, Action, Entry}
use Rattle.er_history.specs.Noted.{noted_in}
use Rattle.er_history.specs.Found.{MakersAre, FirstsAre}
use Rattle.er_history.specs.Taken.{KeepsEach}

pub map_or_else : {A B : Type 0} (f : A → B) (o p : Option A) → option_map f (or_else o p) ≡ or_else (option_map f o) (option_map f p)
map_or_else f None p = refl
map_or_else f (Some x) p = refl

pub known_more : {A : Type 0} (new old given : Option A) (b c : Bool) → new ≡ or_else old given → is_some old ≡ c → is_some given ≡ b → is_some new ≡ (b || c)
known_more new None given b c e f g = ap is_some e ∙ (g ∙ step b c f)
  where
    step : (b c : Bool) → false ≡ c → b ≡ (b || c)
    step true c f = refl
    step false c f = f
known_more new (Some x) given b c e f g = ap is_some e ∙ step b c f
  where
    step : (b c : Bool) → true ≡ c → true ≡ (b || c)
    step true c f = refl
    step false c f = f

-- the entry of a record after which this action runs
pub entry_more : {B : Type 0} (f : Entry → Option B) (h : List Record) (x : Record) (a : Action) (o made : Option B) → running (actions_after (told h) x) ≡ Some a
    → o ≡ first_to f (told h).entries → made ≡ f (record { read = x; place = length (told h).entries; action = Some a })
    → or_else o made ≡ first_to f (told (x ∷ h)).entries
entry_more f h x a o made runs e g =
    let Same : Option Action → Type 0 = λ r. or_else o made ≡ or_else (first_to f (told h).entries) (f (record { read = x; place = length (told h).entries; action = r })) in
    subst Same (sym runs) (ap (λ q. or_else q made) e ∙ ap (or_else (first_to f (told h).entries)) g)

-- a note keeps what stands there
pub note_keeps : {X : Type 0} (old new : ℕ → Option X) (pair : Option (ℕ × X)) → ((k : ℕ) → new k ≡ or_else (old k) (noted_in k pair)) → KeepsEach old new
note_keeps old new pair more k x is = more k ∙ ap (λ o. or_else o (noted_in k pair)) is

-- a record that passes no test leaves the tables as they are

pub or_none : {A : Type 0} (o : Option A) → or_else o None ≡ o
or_none None = refl
or_none (Some x) = refl

pub makers_same : (test : ℕ → Record → Bool) (found : ℕ → Option ℕ) (h : List Record) (x : Record) → ((k : ℕ) → test k x ≡ false) → MakersAre test found h → MakersAre test found (x ∷ h)
makers_same test found h x none stands = record {
  made = λ k. stands.made k ∙ (sym (or_none (maker_by (test k) (told h).entries)) ∙ ap (or_else (maker_by (test k) (told h).entries)) (sym (no_maker k (length (told h).entries) _)));
  known = λ k. rw (none k) (stands.known k);
}
  where
    no_maker : (k place : ℕ) (o : Option Action) → maker_by (test k) (record { read = x; place = place; action = o } ∷ []) ≡ None
    no_maker k place None = refl
    no_maker k place (Some a) = rw (none k) refl

pub firsts_same : (test : ℕ → Record → Bool) (gives : ℕ → Record → Option ℕ) (found : ℕ → Option ℕ) (h : List Record) (x : Record) → ((k : ℕ) → gives k x ≡ None) → ((k : ℕ) → test k x ≡ false) → FirstsAre test gives found h → FirstsAre test gives found (x ∷ h)
firsts_same test gives found h x nothing none stands = record {
  first = λ k. stands.first k ∙ (sym (or_none (first_to (gives k) h)) ∙ ap (or_else (first_to (gives k) h)) (sym (nothing k)));
  known = λ k. rw (none k) (stands.known k);
}

-- nothing is made yet
pub none_made : (test : ℕ → Record → Bool) (found : ℕ → Option ℕ) → ((k : ℕ) → found k ≡ None) → MakersAre test found []
none_made test found none = record { made = none; known = λ k. ap is_some (none k) }

-- nothing is given yet
pub none_given : (test : ℕ → Record → Bool) (gives : ℕ → Record → Option ℕ) (found : ℕ → Option ℕ) → ((k : ℕ) → found k ≡ None) → FirstsAre test gives found []
none_given test gives found none = record { first = none; known = λ k. ap is_some (none k) }
