-- The piece that an inline dispatch suspends, which `back` goes on with, and the events of one
-- piece. Lists of records stand newest first.
use Rattle.std.proofs.Common.{◌≡◌, ℕ, ◌+◌, ◌-◌, Bool, true, false, List, [], ◌∷◌, length, Some, refl, sym, ap, subst, ◌∙◌, arith, inl, inr, ◌⊎◌}
use Rattle.std.specs.Prelude.{not, if◌then◌else◌}
use Rattle.er_trace.specs.declared.record.Record.{Record}
use Rattle.er_trace.specs.declared.record.Record.TheVariants.{Dcl, Load, Eload, Fire, Wfire, Reply, Inline, Back}
use Rattle.er_history.specs.History.{Dispatch, is_inline, Event, Action, Open, told, begins, action_at, dispatch_begun, event_resumed, event_begun, action_begun, running, find_open}
use Rattle.er_history.specs.Laws.{Among, IsNumbered}
use Rattle.er_history.specs.Naming.{IsNamed, misplaced, may_call}
use Rattle.er_history.proofs.HistoryLemmas.{actions_are_numbered, goes_on}
use Rattle.er_history.proofs.NamedLemmas.{none_holds}
use Rattle.er_history.proofs.UnfinishedLemmas.{StackBegun, stack_begun}
use Rattle.er_history.proofs.EventLemmas.{found_by_number}
use Rattle.er_pieces.proofs.StackLemmas.{On, Top, top_is, top_on, some_is, stack_from, dispatch_at}

pub among_more : (h : List Record) (x : Record) (a : Action) → Among a (told h).actions → Among a (told (x ∷ h)).actions
among_more h x a among = step (begins x)
  where
    step : (b : Bool) → Among a (if b then action_begun (told h) x ∷ (told h).actions else (told h).actions)
    step true = inr among
    step false = among

-- the newest, or an older one
pub among_cases : (h : List Record) (x : Record) (a : Action) → Among a (told (x ∷ h)).actions → ((begins x ≡ true) × (a ≡ action_begun (told h) x)) ⊎ Among a (told h).actions
among_cases h x a among = step (begins x) refl among
  where
    step : (b : Bool) → begins x ≡ b → Among a (if b then action_begun (told h) x ∷ (told h).actions else (told h).actions) → ((begins x ≡ true) × (a ≡ action_begun (told h) x)) ⊎ Among a (told h).actions
    step true e (inl same) = inl (e, same)
    step true e (inr deeper) = inr deeper
    step false e among = inr among

-- the piece just before an inline dispatch may call it
pub record Caller (actions : List Action) (d : Dispatch) : Type 0 where
  pub piece : Action
  pub among : Among piece actions
  pub before : piece.number + 1 ≡ d.begin
  pub calls : may_call (Some piece) ≡ true

caller_more : (h : List Record) (x : Record) (d : Dispatch) → Caller (told h).actions d → Caller (told (x ∷ h)).actions d
caller_more h x d is = record { piece = is.piece; among = among_more h x is.piece is.among; before = is.before; calls = is.calls }

plain : (c d : Dispatch) → Some c ≡ Some d → is_inline c ≡ false → is_inline d ≡ true → ⊥
plain c d e f g = let same : is_inline c ≡ is_inline d = ap is_inline (some_is c d e) in cc

-- the caller of one that begins
caller_now : (h : List Record) (x : Record) (d : Dispatch) → misplaced (told h) x ≡ false → dispatch_begun (told h).entries (length (told h).actions) x ≡ Some d → is_inline d ≡ true → Caller (told h).actions d
caller_now h (Inline p y n) d placed e f = of (told h).actions refl (actions_are_numbered h) placed
  where
    of : (actions : List Action) → (told h).actions ≡ actions → IsNumbered actions → not (may_call (running actions)) ≡ false → Caller (told h).actions d
    of [] same number placed = absurd (cc)
    of (a ∷ older) same number placed = record {
      piece = a;
      among = subst (Among a) (sym same) (inl refl);
      before = let at = dispatch_at (told h).entries (length (told h).actions) (Inline p y n) d e in omega (arith, at, ap length same, number.0);
      calls = yes (may_call (Some a)) placed;
    }
      where
        yes : (b : Bool) → not b ≡ false → b ≡ true
        yes true e = refl
        yes false e = absurd (cc)
caller_now h (Dcl p c) d placed e f = absurd (plain _ d e refl f)
caller_now h (Load p c) d placed e f = absurd (plain _ d e refl f)
caller_now h (Eload p y) d placed e f = absurd (plain _ d e refl f)
caller_now h (Fire p y n) d placed e f = absurd (plain _ d e refl f)
caller_now h (Wfire p c n) d placed e f = absurd (plain _ d e refl f)
caller_now h (Reply p r) d placed e f = absurd (plain _ d e refl f)
caller_now h _ d placed e f = absurd (cc)

pub called_by : (h : List Record) → IsNamed h → (o : Open) → On o (told h).stack → is_inline o.dispatch ≡ true → Caller (told h).actions o.dispatch
called_by [] is o on inline = absurd on
called_by (x ∷ h) is o on inline =
    elim (stack_from (told h).stack (dispatch_begun (told h).entries (length (told h).actions) x) x o on) [
      | inl from ↦ subst (Caller (told (x ∷ h)).actions) from.2 (caller_more h x from.0.dispatch (called_by h is.1 from.0 from.1 (ap is_inline from.2 ∙ inline)))
      | inr begun ↦ caller_more h x o.dispatch (caller_now h x o.dispatch (none_holds h x is.0).placed begun inline)
    ]

-- `back` goes on with the event of the piece that called the dispatch on top
pub record Resumed (h : List Record) (p : ℕ) : Type 0 where
  pub on_top : Top true p (told h).stack
  pub inline : is_inline on_top.top.dispatch ≡ true
  pub caller : Caller (told h).actions on_top.top.dispatch
  pub event : event_resumed (told h) p ≡ caller.piece.event

pub resumed : (h : List Record) (p : ℕ) → IsNamed h → misplaced (told h) (Back p) ≡ false → Resumed h p
resumed h p is placed =
    let on_top = top_is true p (told h).stack placed in
    let begun = subst (StackBegun h) on_top.is (stack_begun h is) in
    let inline : is_inline on_top.top.dispatch ≡ true = begun.0.closes on_top.closes in
    let caller = called_by h is on_top.top (top_on on_top) inline in
    let at : on_top.top.dispatch.begin - 1 ≡ caller.piece.number = omega (arith, caller.before) in
    let found : action_at (on_top.top.dispatch.begin - 1) (told h).actions ≡ Some caller.piece = ap (λ k. action_at k (told h).actions) at ∙ found_by_number (told h).actions caller.piece (actions_are_numbered h) caller.among in
    record {
      on_top = on_top;
      inline = inline;
      caller = caller;
      event = of_found on_top.top.dispatch on_top.found caller.piece found;
    }
  where
    of_found : (d : Dispatch) → find_open p (told h).stack ≡ Some d → (a : Action) → action_at (d.begin - 1) (told h).actions ≡ Some a → event_resumed (told h) p ≡ a.event
    of_found d e a f = rw (e, f) refl

-- a record begins a new event, or goes on with one
pub event_is : (h : List Record) (x : Record) → IsNamed h → misplaced (told h) x ≡ false
    → ((goes_on x ≡ false) × ((event_begun (told h) x).number ≡ length (told h).actions)) ⊎ ((p : ℕ) × (x ≡ Back p) × Resumed h p)
event_is h (Back p) is placed = inr (p, refl, resumed h p is placed)
event_is h x is placed = inl (refl, refl)

-- an event that can call no inline dispatch has one piece
pub one_piece : (h : List Record) → IsNamed h → (a : Action) → Among a (told h).actions → may_call (Some a) ≡ false → a.number ≡ a.event.number
one_piece [] is a among calls = absurd among
one_piece (x ∷ h) is a among calls =
    elim (among_cases h x a among) [
      | inl now ↦ subst (λ (c : Action). may_call (Some c) ≡ false → c.number ≡ c.event.number) (sym now.1) (newest x (none_holds h x is.0).placed) calls
      | inr older ↦ one_piece h is.1 a older calls
    ]
  where
    newest : (x : Record) → misplaced (told h) x ≡ false → may_call (Some (action_begun (told h) x)) ≡ false → length (told h).actions ≡ (event_begun (told h) x).number
    newest (Back p) placed calls =
        let is = resumed h p is.1 placed in
        let same : may_call (Some (action_begun (told h) (Back p))) ≡ may_call (Some is.caller.piece) = ap (λ (e : Event). may_call (Some (record { number = length (told h).actions; begin = Back p; event = e }))) is.event in
        absurd (let f = is.caller.calls in cc)
    newest x placed calls = refl
