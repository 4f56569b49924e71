-- The begin and the close of a dispatch: each that is open or served has begun, and each that has
-- begun is open or closed. Lists of records stand newest first.
use Rattle.std.proofs.Common.{◌≡◌, ℕ, Bool, true, false, List, [], ◌∷◌, length, Option, Some, None, refl, sym, ap, subst, ◌∙◌, inl, inr, ◌⊎◌}
use Rattle.std.specs.Prelude.{if◌then◌else◌}
use Rattle.er_trace.specs.declared.record.Record.{Record}
use Rattle.er_trace.specs.declared.record.Record.TheVariants.{Dcl, Load, Eload, Fire, Wfire, Reply, Inline, Run, Close, Back}
use Rattle.er_history.specs.History.{Dispatch, is_inline, What, BeginOf, CloseOf, Event, Action, Open, told, dispatch_begun, what_begun, event_begun, action_begun, stack_after}
use Rattle.er_history.specs.Laws.{Among}
use Rattle.er_history.specs.Naming.{IsNamed, misplaced, may_call, begins_dispatch}
use Rattle.er_history.proofs.NamedLemmas.{none_holds}
use Rattle.er_pieces.proofs.StackLemmas.{On, Serves, top_is, some_is, stack_from, serves_top}
use Rattle.er_pieces.proofs.CallerLemmas.{among_more, among_cases, resumed, one_piece}
use Rattle.er_pieces.proofs.OnceLemmas.{dispatch_once, BegunBy, first_begun, one_event}

-- its begin is an action
pub record HasBegun (actions : List Action) (d : Dispatch) : Type 0 where
  pub begin : Action
  pub among : Among begin actions
  pub is : begin.event.what ≡ BeginOf d
  pub number : begin.number ≡ d.begin
  pub own : begin.event.number ≡ d.begin

has_more : (h : List Record) (x : Record) (d : Dispatch) → HasBegun (told h).actions d → HasBegun (told (x ∷ h)).actions d
has_more h x d is = record { begin = is.begin; among = among_more h x is.begin is.among; is = is.is; number = is.number; own = is.own }

begins_now : (h : List Record) (x : Record) (d : Dispatch) → dispatch_begun (told h).entries (length (told h).actions) x ≡ Some d → HasBegun (told (x ∷ h)).actions d
begins_now h x d e = by x e
  where
    with : (x : Record) (c : Dispatch) → Some c ≡ Some d → Among (action_begun (told h) x) (told (x ∷ h)).actions → (event_begun (told h) x).what ≡ BeginOf c → (event_begun (told h) x).number ≡ length (told h).actions → c.begin ≡ length (told h).actions
        → HasBegun (told (x ∷ h)).actions d
    with x c e among is number at =
        let same : c ≡ d = some_is c d e in
        let begin : c.begin ≡ d.begin = ap (λ (q : Dispatch). q.begin) same in
        record {
          begin = action_begun (told h) x;
          among = among;
          is = is ∙ ap BeginOf same;
          number = sym at ∙ begin;
          own = number ∙ (sym at ∙ begin);
        }

    by : (x : Record) → dispatch_begun (told h).entries (length (told h).actions) x ≡ Some d → HasBegun (told (x ∷ h)).actions d
    by (Dcl p c) e = with (Dcl p c) _ e (inl refl) refl refl refl
    by (Load p c) e = with (Load p c) _ e (inl refl) refl refl refl
    by (Eload p y) e = with (Eload p y) _ e (inl refl) refl refl refl
    by (Fire p y n) e = with (Fire p y n) _ e (inl refl) refl refl refl
    by (Wfire p c n) e = with (Wfire p c n) _ e (inl refl) refl refl refl
    by (Reply p r) e = with (Reply p r) _ e (inl refl) refl refl refl
    by (Inline p y n) e = with (Inline p y n) _ e (inl refl) refl refl refl
    by _ e = absurd (cc)

pub open_begun : (h : List Record) (o : Open) → On o (told h).stack → HasBegun (told h).actions o.dispatch
open_begun [] o on = absurd on
open_begun (x ∷ h) o on =
    elim (stack_from (told h).stack (dispatch_begun (told h).entries (length (told h).actions) x) x o on) [
      | inl from ↦ subst (HasBegun (told (x ∷ h)).actions) from.2 (has_more h x from.0.dispatch (open_begun h from.0 from.1))
      | inr begun ↦ begins_now h x o.dispatch begun
    ]

pub served_begun : (h : List Record) → IsNamed h → (a : Action) (d : Dispatch) → Among a (told h).actions → Serves a.event.what d → HasBegun (told h).actions d
served_begun [] named a d among serves = absurd among
served_begun (x ∷ h) named a d among serves =
    let placed = (none_holds h x named.0).placed in
    has_more h x d (elim (among_cases h x a among) [
      | inl now ↦ newest x placed (subst (λ (c : Action). Serves c.event.what d) now.1 serves) (served_begun h named.1)
      | inr older ↦ served_begun h named.1 a d older serves
    ])
  where
    newest : (x : Record) → misplaced (told h) x ≡ false → Serves (event_begun (told h) x).what d → ((a : Action) (d : Dispatch) → Among a (told h).actions → Serves a.event.what d → HasBegun (told h).actions d) → HasBegun (told h).actions d
    newest (Back p) placed serves rest =
        let back = resumed h p named.1 placed in
        rest back.caller.piece d back.caller.among (subst (λ (e : Event). Serves e.what d) back.event serves)
    newest x placed serves rest = let top = serves_top h x d placed serves in subst (HasBegun (told h).actions) top.2 (open_begun h top.0 top.1)

-- the begin has the number of its dispatch

begin_new : (h : List Record) (x : Record) (d : Dispatch) → misplaced (told h) x ≡ false → what_begun (told h) x ≡ BeginOf d → d.begin ≡ length (told h).actions
begin_new h x d placed e = by x placed e
  where
    at : (c : Dispatch) → BeginOf c ≡ BeginOf d → c.begin ≡ length (told h).actions → d.begin ≡ length (told h).actions
    at c e is = let same : c ≡ d = cc in ap (λ (q : Dispatch). q.begin) (sym same) ∙ is

    by : (x : Record) → misplaced (told h) x ≡ false → what_begun (told h) x ≡ BeginOf d → d.begin ≡ length (told h).actions
    by (Dcl p c) placed e = at _ e refl
    by (Load p c) placed e = at _ e refl
    by (Eload p y) placed e = at _ e refl
    by (Fire p y n) placed e = at _ e refl
    by (Wfire p c n) placed e = at _ e refl
    by (Reply p r) placed e = at _ e refl
    by (Inline p y n) placed e = at _ e refl
    by (Run p g y) placed e = let is = top_is false p (told h).stack placed in absurd (let f = rw is.found at e in cc)
    by (Close p) placed e = let is = top_is false p (told h).stack placed in absurd (let f = rw is.found at e in cc)
    by _ placed e = absurd (cc)

pub begin_number : (h : List Record) → IsNamed h → (a : Action) (d : Dispatch) → Among a (told h).actions → a.event.what ≡ BeginOf d → a.event.number ≡ d.begin
begin_number [] named a d among is = absurd among
begin_number (x ∷ h) named a d among is =
    let placed = (none_holds h x named.0).placed in
    elim (among_cases h x a among) [
      | inl now ↦ subst (λ (c : Action). c.event.number ≡ d.begin) (sym now.1) (newest x placed (ap (λ (c : Action). c.event.what) (sym now.1) ∙ is) (begin_number h named.1))
      | inr older ↦ begin_number h named.1 a d older is
    ]
  where
    newest : (x : Record) → misplaced (told h) x ≡ false → (event_begun (told h) x).what ≡ BeginOf d → ((a : Action) (d : Dispatch) → Among a (told h).actions → a.event.what ≡ BeginOf d → a.event.number ≡ d.begin)
        → (event_begun (told h) x).number ≡ d.begin
    newest (Back p) placed is rest =
        let back = resumed h p named.1 placed in
        subst (λ (e : Event). e.number ≡ d.begin) (sym back.event) (rest back.caller.piece d back.caller.among (ap (λ (e : Event). e.what) (sym back.event) ∙ is))
    newest x placed is rest = sym (begin_new h x d placed is)

-- and is one piece
pub begin_alone : (h : List Record) → IsNamed h → (a : Action) (d : Dispatch) → Among a (told h).actions → a.event.what ≡ BeginOf d → a.number ≡ a.event.number
begin_alone h named a d among is = one_piece h named a among (ap (λ w. may_call (Some (record { number = a.number; begin = a.begin; event = record { number = a.event.number; what = w } }))) is)

pub begin_begun : (h : List Record) → IsNamed h → (a : Action) (d : Dispatch) → Among a (told h).actions → a.event.what ≡ BeginOf d → HasBegun (told h).actions d
begin_begun h named a d among is =
    let own = begin_number h named a d among is in
    let one = begin_alone h named a d among is in
    record { begin = a; among = among; is = is; number = one ∙ own; own = own }

-- dispatches of one number are one
pub same_dispatch : (h : List Record) → IsNamed h → (d e : Dispatch) → HasBegun (told h).actions d → HasBegun (told h).actions e → d.number ≡ e.number → d ≡ e
same_dispatch h named d e first second same =
    let p = first_begun h named first.begin first.among in
    let q = first_begun h named second.begin second.among in
    let begun = (subst (λ (w : What). BegunBy w p.first.begin) first.is p.begun).0 in
    let also = (subst (λ (w : What). BegunBy w q.first.begin) second.is q.begun).0 in
    let event = one_event (begins_dispatch d.number) (dispatch_once d.number) h named first.begin second.begin p q begun (subst (λ n. begins_dispatch n q.first.begin ≡ true) (sym same) also) in
    let both : BeginOf d ≡ BeginOf e = sym first.is ∙ (ap (λ (u : Event). u.what) event ∙ second.is) in
    cc

-- its close has begun

pub record HasClosed (actions : List Action) (d : Dispatch) : Type 0 where
  pub close : Action
  pub among : Among close actions
  pub is : close.event.what ≡ CloseOf d

closed_more : (h : List Record) (x : Record) (d : Dispatch) → HasClosed (told h).actions d → HasClosed (told (x ∷ h)).actions d
closed_more h x d is = record { close = is.close; among = among_more h x is.close is.among; is = is.is }

closes_now : (h : List Record) (p : ℕ) (o : Open) (below : List Open) → misplaced (told h) (Close p) ≡ false → (told h).stack ≡ o ∷ below → HasClosed (told (Close p ∷ h)).actions o.dispatch
closes_now h p o below placed e =
    let is = top_is false p (told h).stack placed in
    let same : is.top ≡ o = heads (sym is.is ∙ e) in
    record {
      close = action_begun (told h) (Close p);
      among = inl refl;
      is = subst (λ (q : Open). what_begun (told h) (Close p) ≡ CloseOf q.dispatch) same (rw is.found refl);
    }
  where
    heads : {q : Open} {s : List Open} → q ∷ s ≡ o ∷ below → q ≡ o
    heads e = cc

-- an open dispatch whose close has begun

closing_from : (s : List Open) (d : Option Dispatch) (x : Record) (o : Open) → On o (stack_after s d x) → o.closing ≡ true
    → On o s ⊎ ((p : ℕ) × (q : Open) × (below : List Open) × (x ≡ Close p) × (s ≡ q ∷ below) × (q.dispatch ≡ o.dispatch))
closing_from [] d (Close p) o on e = absurd on
closing_from (q ∷ below) d (Close p) o on e = step (is_inline q.dispatch) on
  where
    step : (b : Bool) → On o (if b then record { dispatch = q.dispatch; closing = true } ∷ below else below)
        → On o (q ∷ below) ⊎ ((r : ℕ) × (t : Open) × (under : List Open) × (Close p ≡ Close r) × (q ∷ below ≡ t ∷ under) × (t.dispatch ≡ o.dispatch))
    step true (inl same) = inr (p, q, below, refl, refl, sym (ap (λ (r : Open). r.dispatch) same))
    step true (inr deeper) = inl (inr deeper)
    step false deeper = inl (inr deeper)
closing_from [] d (Back p) o on e = absurd on
closing_from (q ∷ below) d (Back p) o on e = inl (inr on)
closing_from s (Some d) x o (inl same) e = absurd (let f = ap (λ (r : Open). r.closing) same in cc)
closing_from s (Some d) x o (inr deeper) e = inl deeper
closing_from s None x o on e = inl on

pub closing_closed : (h : List Record) → IsNamed h → (o : Open) → On o (told h).stack → o.closing ≡ true → HasClosed (told h).actions o.dispatch
closing_closed [] named o on e = absurd on
closing_closed (x ∷ h) named o on e =
    let placed = (none_holds h x named.0).placed in
    elim (closing_from (told h).stack (dispatch_begun (told h).entries (length (told h).actions) x) x o on e) [
      | inl before ↦ closed_more h x o.dispatch (closing_closed h named.1 o before e)
      | inr now ↦ subst (λ (y : Record). HasClosed (told (y ∷ h)).actions o.dispatch) (sym now.3)
          (subst (HasClosed (told (Close now.0 ∷ h)).actions) now.5 (closes_now h now.0 now.1 now.2 (subst (λ (y : Record). misplaced (told h) y ≡ false) now.3 placed) now.4))
    ]

-- each dispatch that has begun is open or closed

abbrev pub IsOpen : List Open → Dispatch → Type 0
IsOpen stack d = (o : Open) × On o stack × (o.dispatch ≡ d)

-- where it does not stay open, it is the top, and closes or is left
stack_to : (s : List Open) (d : Option Dispatch) (x : Record) (o : Open) → On o s
    → IsOpen (stack_after s d x) o.dispatch ⊎ (((p : ℕ) × (below : List Open) × (x ≡ Close p) × (s ≡ o ∷ below)) ⊎ ((p : ℕ) × (below : List Open) × (x ≡ Back p) × (s ≡ o ∷ below)))
stack_to [] d x o on = absurd on
stack_to (q ∷ below) d (Close p) o (inl same) = inr (inl (p, below, refl, ap (λ (r : Open). r ∷ below) (sym same)))
stack_to (q ∷ below) d (Close p) o (inr deeper) = inl (step (is_inline q.dispatch))
  where
    step : (b : Bool) → IsOpen (if b then record { dispatch = q.dispatch; closing = true } ∷ below else below) o.dispatch
    step true = (o, inr deeper, refl)
    step false = (o, deeper, refl)
stack_to (q ∷ below) d (Back p) o (inl same) = inr (inr (p, below, refl, ap (λ (r : Open). r ∷ below) (sym same)))
stack_to (q ∷ below) d (Back p) o (inr deeper) = inl (o, deeper, refl)
stack_to (q ∷ below) (Some d) x o on = inl (o, inr on, refl)
stack_to (q ∷ below) None x o on = inl (o, on, refl)

opens_now : (h : List Record) (x : Record) (d : Dispatch) → misplaced (told h) x ≡ false → what_begun (told h) x ≡ BeginOf d → IsOpen (told (x ∷ h)).stack d
opens_now h x d placed e = by x placed e
  where
    at : (c : Dispatch) (s : List Open) → BeginOf c ≡ BeginOf d → IsOpen (record { dispatch = c; closing = false } ∷ s) d
    at c s e = let same : c ≡ d = cc in (record { dispatch = c; closing = false }, inl refl, same)

    by : (x : Record) → misplaced (told h) x ≡ false → what_begun (told h) x ≡ BeginOf d → IsOpen (told (x ∷ h)).stack d
    by (Dcl p c) placed e = at _ _ e
    by (Load p c) placed e = at _ _ e
    by (Eload p y) placed e = at _ _ e
    by (Fire p y n) placed e = at _ _ e
    by (Wfire p c n) placed e = at _ _ e
    by (Reply p r) placed e = at _ _ e
    by (Inline p y n) placed e = at _ _ e
    by (Run p g y) placed e = let is = top_is false p (told h).stack placed in absurd (let f = rw is.found at e in cc)
    by (Close p) placed e = let is = top_is false p (told h).stack placed in absurd (let f = rw is.found at e in cc)
    by _ placed e = absurd (cc)

heads : {o q : Open} {r s : List Open} → o ∷ r ≡ q ∷ s → o ≡ q
heads e = cc

pub open_or_closed : (h : List Record) → IsNamed h → (d : Dispatch) → HasBegun (told h).actions d → IsOpen (told h).stack d ⊎ HasClosed (told h).actions d
open_or_closed [] named d begun = absurd begun.among
open_or_closed (x ∷ h) named d begun =
    let placed = (none_holds h x named.0).placed in
    elim (among_cases h x begun.begin begun.among) [
      | inl now ↦ newest x placed (ap (λ (c : Action). c.event.what) (sym now.1) ∙ begun.is) (open_or_closed h named.1 d)
      | inr older ↦ kept x placed (open_or_closed h named.1 d (record { begin = begun.begin; among = older; is = begun.is; number = begun.number; own = begun.own }))
    ]
  where
    kept : (x : Record) → misplaced (told h) x ≡ false → IsOpen (told h).stack d ⊎ HasClosed (told h).actions d → IsOpen (told (x ∷ h)).stack d ⊎ HasClosed (told (x ∷ h)).actions d
    kept x placed (inr closed) = inr (closed_more h x d closed)
    kept x placed (inl is) =
        elim (stack_to (told h).stack (dispatch_begun (told h).entries (length (told h).actions) x) x is.0 is.1) [
          | inl stays ↦ inl (stays.0, stays.1, stays.2 ∙ is.2)
          | inr goes ↦ elim goes [
            | inl closes ↦ inr (subst (HasClosed (told (x ∷ h)).actions) is.2 (subst (λ (y : Record). HasClosed (told (y ∷ h)).actions is.0.dispatch) (sym closes.2)
                (closes_now h closes.0 is.0 closes.1 (subst (λ (y : Record). misplaced (told h) y ≡ false) closes.2 placed) closes.3)))
            | inr leaves ↦
                let back = resumed h leaves.0 named.1 (subst (λ (y : Record). misplaced (told h) y ≡ false) leaves.2 placed) in
                let same : back.on_top.top ≡ is.0 = heads (sym back.on_top.is ∙ leaves.3) in
                inr (closed_more h x d (subst (HasClosed (told h).actions) is.2 (closing_closed h named.1 is.0 is.1 (ap (λ (o : Open). o.closing) (sym same) ∙ back.on_top.closes))))
          ]
        ]

    newest : (x : Record) → misplaced (told h) x ≡ false → (event_begun (told h) x).what ≡ BeginOf d → (HasBegun (told h).actions d → IsOpen (told h).stack d ⊎ HasClosed (told h).actions d)
        → IsOpen (told (x ∷ h)).stack d ⊎ HasClosed (told (x ∷ h)).actions d
    newest (Back p) placed is rest =
        let back = resumed h p named.1 placed in
        kept (Back p) placed (rest (begin_begun h named.1 back.caller.piece d back.caller.among (ap (λ (e : Event). e.what) (sym back.event) ∙ is)))
    newest x placed is rest = inl (opens_now h x d placed is)
