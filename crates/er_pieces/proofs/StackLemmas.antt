-- How a record that naming accepts changes the stack, and what the events are that it begins. Lists
-- of records stand newest first.
use Rattle.std.proofs.Common.{◌≡◌, ℕ, Bool, true, false, List, [], ◌∷◌, Option, Some, None, refl, sym, ap, subst, inl, inr, ◌⊎◌}
use Rattle.std.specs.Prelude.{not, if◌then◌else◌}
use Rattle.std.proofs.lemmas.Bool.{eq-eqb}
use Rattle.er_trace.specs.declared.record.Record.{Record}
use Rattle.er_trace.specs.declared.record.Record.TheVariants.{Parse, ParseFrame, Exec, Timer, Tick, Dcl, Load, Eload, Fire, Wfire, Reply, Inline, Run, Close, Back}
use Rattle.er_history.specs.History.{Dispatch, is_inline, What, HandlerOf, CloseOf, Entry, Open, told, find_open, dispatch_begun, what_begun, stack_after}
use Rattle.er_history.specs.Naming.{is_top, misplaced}
use Rattle.er_history.proofs.UnfinishedLemmas.{number_on_top}

-- it is one of these
abbrev pub On : Open → List Open → Type 0
On o [] = ⊥
On o (p ∷ below) = (o ≡ p) ⊎ On o below

-- the event is a handler or the close of the dispatch
abbrev pub Serves : What → Dispatch → Type 0
Serves (HandlerOf d g x m) e = d ≡ e
Serves (CloseOf d) e = d ≡ e
Serves _ e = ⊥

-- the top of the stack, whose close has or has not begun
pub record Top (closing : Bool) (p : ℕ) (stack : List Open) : Type 0 where
  pub top : Open
  pub below : List Open
  pub is : stack ≡ top ∷ below
  pub number : top.dispatch.number ≡ p
  pub closes : top.closing ≡ closing
  pub found : find_open p stack ≡ Some top.dispatch

pub top_is : (closing : Bool) (p : ℕ) (stack : List Open) → not (is_top closing p stack) ≡ false → Top closing p stack
top_is true p [] e = absurd (cc)
top_is false p [] e = absurd (cc)
top_is closing p (o ∷ below) e =
    let at = number_on_top closing p o below e in
    record {
      top = o;
      below = below;
      is = refl;
      number = at.0;
      closes = at.1;
      found = ap (λ b. if b then Some o.dispatch else find_open p below) (eq-eqb o.dispatch.number p at.0);
    }

pub top_on : {closing : Bool} {p : ℕ} {stack : List Open} → (is : Top closing p stack) → On is.top stack
top_on is = subst (On is.top) (sym is.is) (inl refl)

-- a dispatch that a record begins has the number of the action

pub some_is : {A : Type 0} → (x y : A) → Some x ≡ Some y → x ≡ y
some_is x y e = cc

begin_same : (c d : Dispatch) → Some c ≡ Some d → d.begin ≡ c.begin
begin_same c d e = ap (λ (q : Dispatch). q.begin) (sym (some_is c d e))

pub dispatch_at : (es : List Entry) (k : ℕ) (x : Record) (d : Dispatch) → dispatch_begun es k x ≡ Some d → d.begin ≡ k
dispatch_at es k (Dcl p c) d e = begin_same _ d e
dispatch_at es k (Load p c) d e = begin_same _ d e
dispatch_at es k (Eload p y) d e = begin_same _ d e
dispatch_at es k (Fire p y n) d e = begin_same _ d e
dispatch_at es k (Inline p y n) d e = begin_same _ d e
dispatch_at es k (Wfire p c n) d e = begin_same _ d e
dispatch_at es k (Reply p r) d e = begin_same _ d e
dispatch_at es k _ d e = absurd (cc)

-- where the dispatches of the stack come from that a record leaves

pub stack_from : (s : List Open) (d : Option Dispatch) (x : Record) (o : Open) → On o (stack_after s d x) → ((q : Open) × On q s × (q.dispatch ≡ o.dispatch)) ⊎ (d ≡ Some o.dispatch)
stack_from [] d (Close p) o on = absurd on
stack_from (q ∷ below) d (Close p) o on = step (is_inline q.dispatch) on
  where
    step : (b : Bool) → On o (if b then record { dispatch = q.dispatch; closing = true } ∷ below else below) → ((r : Open) × On r (q ∷ below) × (r.dispatch ≡ o.dispatch)) ⊎ (d ≡ Some o.dispatch)
    step true (inl same) = inl (q, inl refl, sym (ap (λ (r : Open). r.dispatch) same))
    step true (inr deeper) = inl (o, inr deeper, refl)
    step false deeper = inl (o, inr deeper, refl)
stack_from [] d (Back p) o on = absurd on
stack_from (q ∷ below) d (Back p) o on = inl (o, inr on, refl)
stack_from s (Some d) x o (inl same) = inr (ap (λ (r : Open). Some r.dispatch) (sym same))
stack_from s (Some d) x o (inr deeper) = inl (o, deeper, refl)
stack_from s None x o on = inl (o, on, refl)

-- the events that serve a dispatch are begun while it is on top

pub serves_top : (h : List Record) (x : Record) (d : Dispatch) → misplaced (told h) x ≡ false → Serves (what_begun (told h) x) d → (o : Open) × On o (told h).stack × (o.dispatch ≡ d)
serves_top h (Run p g y) d placed serves =
    let is = top_is false p (told h).stack placed in
    (is.top, top_on is, of_found is.top.dispatch is.found serves)
  where
    of_found : (c : Dispatch) → find_open p (told h).stack ≡ Some c → Serves (what_begun (told h) (Run p g y)) d → c ≡ d
    of_found c e serves = rw e at serves
serves_top h (Close p) d placed serves =
    let is = top_is false p (told h).stack placed in
    (is.top, top_on is, of_found is.top.dispatch is.found serves)
  where
    of_found : (c : Dispatch) → find_open p (told h).stack ≡ Some c → Serves (what_begun (told h) (Close p)) d → c ≡ d
    of_found c e serves = rw e at serves
serves_top h (Parse c y k) d placed serves = absurd serves
serves_top h (ParseFrame c y f) d placed serves = absurd serves
serves_top h (Exec y) d placed serves = absurd serves
serves_top h (Timer t) d placed serves = absurd serves
serves_top h (Tick i) d placed serves = absurd serves
serves_top h (Dcl p c) d placed serves = absurd serves
serves_top h (Load p c) d placed serves = absurd serves
serves_top h (Eload p y) d placed serves = absurd serves
serves_top h (Fire p y n) d placed serves = absurd serves
serves_top h (Inline p y n) d placed serves = absurd serves
serves_top h (Wfire p c n) d placed serves = absurd serves
serves_top h (Reply p r) d placed serves = absurd serves
serves_top h _ d placed serves = absurd serves

-- and a run and a close serve the dispatch on top

pub run_serves : (h : List Record) (p g y : ℕ) → misplaced (told h) (Run p g y) ≡ false → (d : Dispatch) × Serves (what_begun (told h) (Run p g y)) d
run_serves h p g y placed = let is = top_is false p (told h).stack placed in (is.top.dispatch, rw is.found refl)

pub close_serves : (h : List Record) (p : ℕ) → misplaced (told h) (Close p) ≡ false → (d : Dispatch) × Serves (what_begun (told h) (Close p)) d
close_serves h p placed = let is = top_is false p (told h).stack placed in (is.top.dispatch, rw is.found refl)
