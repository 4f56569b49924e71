-- What the event of an action is, by the record that began its first piece and the look-ups of the
-- whole list. Lists stand newest first.
use Rattle.std.proofs.Common.{◌≡◌, ℕ, ◌<◌, Bool, true, false, List, [], ◌∷◌, length, refl, sym, ap, subst, ◌∙◌, arith, inl, inr, ◌⊎◌, Option, Some, None}
use Rattle.std.specs.Prelude.{◌-◌, if◌then◌else◌}
use Rattle.std.proofs.lemmas.Bool.Decides.{eqb_tells}
use Rattle.er_trace.specs.declared.record.Record.{Record}
use Rattle.er_trace.specs.declared.record.Record.TheVariants.{Parse, ParseFrame, Exec, Run, Close, Back}
use Rattle.er_history.specs.History.{Element, Dispatch, What, ParseStep, ScriptRun, HandlerOf, CloseOf, Unnamed, Event, Action, Entry, History, told, begins, first_to, makes_element, maker_by, declares_document, declares_handler, find_open, action_at, what_begun, event_resumed, event_begun, action_begun}
use Rattle.er_history.specs.Laws.{Among, IsNumbered}
use Rattle.er_history.specs.Facts.{WhatIs}
use Rattle.er_history.specs.Naming.{IsNamed}
use Rattle.er_history.proofs.HistoryLemmas.{BeginsBefore, action_at_among, among_below, event_before, told_before, actions_are_numbered, events_have_first_pieces}
use Rattle.er_history.proofs.ExactLemmas.{facts_are_exact}

abbrev pub event_with : ℕ → What → Event
event_with n w = record { number = n; what = w }

-- neither a parse step nor the run of a script
abbrev pub IsOther : What → Type 0
IsOther (ParseStep d m) = ⊥
IsOther (ScriptRun e made) = ⊥
IsOther _ = Unit {0}

-- what the event is that a record began, but for what was declared under its number
abbrev pub HasForm : Record → What → Type 0
HasForm (Parse d e k) w = (m : Option ℕ) × (w ≡ ParseStep d m)
HasForm (ParseFrame d e f) w = (m : Option ℕ) × (w ≡ ParseStep d m)
HasForm (Exec e) w = (made : Option Element) × (w ≡ ScriptRun e made)
HasForm _ w = IsOther w

-- what the event is that a record began, by the look-ups of the list
abbrev pub IsBegunAs : List Entry → Record → What → Type 0
IsBegunAs entries (Parse d e k) w = w ≡ ParseStep d (maker_by (declares_document d) entries)
IsBegunAs entries (ParseFrame d e f) w = w ≡ ParseStep d (maker_by (declares_document d) entries)
IsBegunAs entries (Exec e) w = (made : Element) × (first_to (makes_element e) entries ≡ Some made) × (w ≡ ScriptRun e (Some made))
IsBegunAs entries _ w = IsOther w

-- the form of what begins

pub form_begun : (t : History) (x : Record) → HasForm x (what_begun t x)
form_begun t (Parse d e k) = (maker_by (declares_document d) t.entries, refl)
form_begun t (ParseFrame d e f) = (maker_by (declares_document d) t.entries, refl)
form_begun t (Exec e) = (first_to (makes_element e) t.entries, refl)
form_begun t (Run p g x) = of_run (find_open p t.stack)
  where
    handler : ℕ → ℕ → Option Dispatch → Option ℕ → What
    handler g x (Some d) m = HandlerOf d g x m
    handler g x None m = Unnamed

    of_run : (found : Option Dispatch) → IsOther (handler g x found (maker_by (declares_handler x) t.entries))
    of_run None = tt
    of_run (Some d) = tt
form_begun t (Close p) = of_close (find_open p t.stack)
  where
    close : Option Dispatch → What
    close None = Unnamed
    close (Some d) = CloseOf d

    of_close : (found : Option Dispatch) → IsOther (close found)
    of_close None = tt
    of_close (Some d) = tt
form_begun t _ = tt

-- `back` begins a piece of an event that has begun, or one that naming refuses
abbrev pub GoesOn : List Action → Event → Type 0
GoesOn actions e = (e.what ≡ Unnamed) ⊎ ((a : Action) × Among a actions × (e ≡ a.event))

pub resumed_goes_on : (t : History) (p : ℕ) → GoesOn t.actions (event_resumed t p)
resumed_goes_on t p = of_found (find_open p t.stack)
  where
    event_of : Option Action → Event
    event_of None = record { number = length t.actions; what = Unnamed }
    event_of (Some a) = a.event

    of : Option Dispatch → Event
    of None = event_of None
    of (Some d) = event_of (action_at (d.begin - 1) t.actions)

    at : (k : ℕ) (found : Option Action) → action_at k t.actions ≡ found → GoesOn t.actions (event_of found)
    at k None e = inl refl
    at k (Some a) e = inr (a, (action_at_among k t.actions a e).0, refl)

    of_found : (found : Option Dispatch) → GoesOn t.actions (of found)
    of_found None = inl refl
    of_found (Some d) = at (d.begin - 1) (action_at (d.begin - 1) t.actions) refl

-- an event that begins with its record has the form of it
pub form_new : (t : History) (x : Record) → BeginsBefore t.actions → (event_begun t x).number ≡ length t.actions → HasForm x (event_begun t x).what
form_new t (Back p) n new =
    elim (resumed_goes_on t p) [
      | inl unnamed ↦ subst IsOther (sym unnamed) tt
      | inr found ↦ let older = event_before t.actions found.0 n found.1 in absurd (omega (arith, new, ap (λ (e : Event). e.number) found.2, older.0, older.1))
    ]
form_new t x n new = form_begun t x

-- So has the event of an action that is its first piece.
pub form_first : (h : List Record) (a : Action) → Among a (told h).actions → a.event.number ≡ a.number → HasForm a.begin a.event.what
form_first [] a among first = absurd among
form_first (x ∷ h) a among first = step (told h) (begins x) x (told_before h) (form_first h a) among
  where
    newest : (t : History) (x : Record) (a : Action) → BeginsBefore t.actions → a ≡ action_begun t x → a.event.number ≡ a.number → HasForm a.begin a.event.what
    newest t x a n same first = subst (λ (c : Action). HasForm c.begin c.event.what) (sym same)
        (form_new t x n (sym (ap (λ (c : Action). c.event.number) same) ∙ (first ∙ ap (λ (c : Action). c.number) same)))

    step : (t : History) (b : Bool) (x : Record) → BeginsBefore t.actions → (Among a t.actions → a.event.number ≡ a.number → HasForm a.begin a.event.what)
        → Among a (if b then action_begun t x ∷ t.actions else t.actions) → HasForm a.begin a.event.what
    step t true x n rest (inl same) = newest t x a n same first
    step t true x n rest (inr deeper) = rest deeper first
    step t false x n rest among = rest among first

-- With what a look-up in the whole list gives, it is known.
pub known_by : (entries : List Entry) (x : Record) (w : What) → HasForm x w → WhatIs entries w → IsBegunAs entries x w
known_by entries (Parse d e k) w form is = let kept = subst (WhatIs entries) form.1 is in form.1 ∙ ap (ParseStep d) kept
known_by entries (ParseFrame d e f) w form is = let kept = subst (WhatIs entries) form.1 is in form.1 ∙ ap (ParseStep d) kept
known_by entries (Exec e) w form is = let kept = subst (WhatIs entries) form.1 is in (kept.1, sym kept.0 ∙ kept.2, form.1 ∙ ap (ScriptRun e) kept.2)
known_by entries x w form is = form

-- an action by its number
pub found_by_number : (actions : List Action) (a : Action) → IsNumbered actions → Among a actions → action_at a.number actions ≡ Some a
found_by_number [] a n among = absurd among
found_by_number (x ∷ older) a n (inl same) =
    elim (eqb_tells x.number a.number) [
      | inl is ↦ ap (λ b. if b then Some x else action_at a.number older) is.0 ∙ ap (λ (c : Action). Some c) (sym same)
      | inr other ↦ absurd (other.1 (sym (ap (λ (c : Action). c.number) same)))
    ]
found_by_number (x ∷ older) a n (inr deeper) =
    elim (eqb_tells x.number a.number) [
      | inl is ↦ absurd (omega (arith, is.1, n.0, among_below older a n.1 deeper))
      | inr other ↦ ap (λ b. if b then Some x else action_at a.number older) other.0 ∙ found_by_number older a n.1 deeper
    ]

-- the first piece of the event of an action, and the form of that event
pub record HasFirst (actions : List Action) (a : Action) : Type 0 where
  pub first : Action
  pub among : Among first actions
  pub number : first.number ≡ a.event.number
  pub found : action_at a.event.number actions ≡ Some first
  pub event : first.event ≡ a.event
  pub below : a.event.number < length actions
  pub form : HasForm first.begin a.event.what

pub has_first : (h : List Record) (a : Action) → Among a (told h).actions → HasFirst (told h).actions a
has_first h a among =
    let acts = (told h).actions in
    let n = actions_are_numbered h in
    let piece = events_have_first_pieces h a among in
    let first : Action = piece.0 in
    let event : first.event ≡ a.event = piece.3 in
    record {
      first = first;
      among = piece.1;
      number = piece.2;
      found = subst (λ k. action_at k acts ≡ Some first) piece.2 (found_by_number acts first n piece.1);
      event = event;
      below = omega (arith, among_below acts first n piece.1, piece.2);
      form = subst (λ (e : Event). HasForm first.begin e.what) event (form_first h first piece.1 (ap (λ (e : Event). e.number) event ∙ sym piece.2));
    }

-- Where naming refuses no record, the event of an action is known by the record that began its
-- first piece.
pub begun_as : (h : List Record) (a : Action) → IsNamed h → (among : Among a (told h).actions) → IsBegunAs (told h).entries (has_first h a among).first.begin a.event.what
begun_as h a named among = let piece = has_first h a among in known_by (told h).entries piece.first.begin a.event.what piece.form (facts_are_exact h a named among)
