-- How the newest piece of a kind is found by look-ups: it is the latest piece of its event, and of
-- any event that alone is of the kind. Lists of records stand newest first.
use Rattle.std.proofs.Common.{◌≡◌, ℕ, Bool, true, false, List, [], ◌∷◌, Some, None, refl, sym, ap, ◌∙◌, inl, inr}
use Rattle.std.specs.Prelude.{◌==◌, if◌then◌else◌}
use Rattle.std.proofs.lemmas.Bool.{eqb-true, eq-eqb, ne_eqb}
use Rattle.er_trace.specs.declared.record.Record.{Record}
use Rattle.er_history.specs.History.{What, ParseStep, Event, Action, told}
use Rattle.er_history.specs.Laws.{Among}
use Rattle.er_history.specs.Naming.{IsNamed, may_call}
use Rattle.er_history.specs.Latest.{newest_by, number_of, newest, latest_of_event}
use Rattle.er_history.specs.Kinds.{is_step_of}
use Rattle.er_history.proofs.HistoryLemmas.{same_test}
use Rattle.er_history.proofs.UnfinishedLemmas.{clash}
use Rattle.er_pieces.proofs.CallerLemmas.{one_piece}
use Rattle.er_pieces.proofs.ChainLemmas.{event_with}
use Rattle.er_pieces.proofs.RunLemmas.{same_event}

-- two tests that agree on the actions find the same
pub newest_same : (f g : Event → Bool) (actions : List Action) → ((a : Action) → Among a actions → f a.event ≡ g a.event) → newest_by f actions ≡ newest_by g actions
newest_same f g [] same = refl
newest_same f g (a ∷ older) same =
    ap (λ b. if b then Some a else newest_by f older) (same a (inl refl))
    ∙ ap (λ o. if g a.event then Some a else o) (newest_same f g older (λ b among. same b (inr among)))

-- where no action passes there is none
pub newest_none : (test : Event → Bool) (actions : List Action) → ((a : Action) → Among a actions → test a.event ≡ false) → newest test actions ≡ []
newest_none test actions none = ap number_of (newest_same test (λ e. false) actions none ∙ nothing actions)
  where
    nothing : (actions : List Action) → newest_by (λ e. false) actions ≡ None
    nothing [] = refl
    nothing (a ∷ older) = nothing older

-- where one event alone passes, it is the latest piece of that event
pub newest_of_one : (h : List Record) (test : Event → Bool) (c : Action) → Among c (told h).actions → test c.event ≡ true
    → ((a : Action) → Among a (told h).actions → test a.event ≡ true → a.event.number ≡ c.event.number) → newest test (told h).actions ≡ latest_of_event c.event.number (told h).actions
newest_of_one h test c among passes one = ap number_of (newest_same test (λ (e : Event). e.number == c.event.number) (told h).actions agree)
  where
    agree : (a : Action) → Among a (told h).actions → test a.event ≡ (a.event.number == c.event.number)
    agree a other = same_test (test a.event) (a.event.number == c.event.number)
        (λ e. eq-eqb a.event.number c.event.number (one a other e))
        (λ e. ap test (same_event h a c other among (eqb-true a.event.number c.event.number e)) ∙ passes)

-- in any case it is the latest piece of its own event
pub newest_is_latest : (h : List Record) (test : Event → Bool) (a : Action) → newest_by test (told h).actions ≡ Some a → newest test (told h).actions ≡ latest_of_event a.event.number (told h).actions
newest_is_latest h test a found = ap number_of (go (told h).actions (λ b among. among) found)
  where
    go : (actions : List Action) → ((b : Action) → Among b actions → Among b (told h).actions) → newest_by test actions ≡ Some a → newest_by test actions ≡ newest_by (λ (e : Event). e.number == a.event.number) actions
    go [] within found = refl
    go (b ∷ older) within found = step (test b.event) refl (λ e. go older (λ c among. within c (inr among)) e) found
      where
        some_same : {x y : Action} → Some x ≡ Some y → x ≡ y
        some_same e = cc

        found_in : (actions : List Action) → newest_by test actions ≡ Some a → Among a actions × (test a.event ≡ true)
        found_in [] e = absurd (cc)
        found_in (c ∷ rest) e = pick (test c.event) refl (found_in rest) e
          where
            pick : (k : Bool) → test c.event ≡ k → (newest_by test rest ≡ Some a → Among a rest × (test a.event ≡ true)) → (if k then Some c else newest_by test rest) ≡ Some a → Among a (c ∷ rest) × (test a.event ≡ true)
            pick true t deeper e = let same = some_one e in (inl (sym same), ap (λ (d : Action). test d.event) (sym same) ∙ t)
              where
                some_one : {x y : Action} → Some x ≡ Some y → x ≡ y
                some_one e = cc
            pick false t deeper e = let is = deeper e in (inr is.0, is.1)

        step : (k : Bool) → test b.event ≡ k → (newest_by test older ≡ Some a → newest_by test older ≡ newest_by (λ (e : Event). e.number == a.event.number) older)
            → (if k then Some b else newest_by test older) ≡ Some a → (if test b.event then Some b else newest_by test older) ≡ (if b.event.number == a.event.number then Some b else newest_by (λ (e : Event). e.number == a.event.number) older)
        step true t rest e =
            let same = some_same e in
            let own : (b.event.number == a.event.number) ≡ true = eq-eqb b.event.number a.event.number (ap (λ (c : Action). c.event.number) same) in
            ap (λ k. if k then Some b else newest_by test older) t ∙ ap (λ k. if k then Some b else newest_by (λ (u : Event). u.number == a.event.number) older) (sym own)
        step false t rest e =
            let is = found_in older e in
            let other : (b.event.number == a.event.number) ≡ false = ne_eqb b.event.number a.event.number (λ same.
            clash (test b.event) t (ap test (same_event h b a (within b (inl refl)) (within a (inr is.0)) same) ∙ is.1)) in
            ap (λ k. if k then Some b else newest_by test older) t ∙ (rest e ∙ ap (λ k. if k then Some b else newest_by (λ (u : Event). u.number == a.event.number) older) (sym other))

-- a parse step is one piece, so its number is that of its event
pub step_alone : (h : List Record) → IsNamed h → (d : ℕ) (a : Action) → Among a (told h).actions → is_step_of d a.event ≡ true → a.number ≡ a.event.number
step_alone h named d a among e = one_piece h named a among (by a.event.what e)
  where
    by : (w : What) → is_step_of d (event_with a.event.number w) ≡ true → may_call (Some (record { number = a.number; begin = a.begin; event = event_with a.event.number w })) ≡ false
    by (ParseStep c m) e = refl
    by _ e = absurd (cc)
