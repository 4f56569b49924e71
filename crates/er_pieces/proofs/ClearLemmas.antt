-- From the first piece of an event on, no earlier event goes on, but for those under its dispatch.
-- Lists of records stand newest first.
use Rattle.std.proofs.Common.{◌≡◌, ℕ, ◌<◌, ◌≤◌, Bool, true, false, List, [], ◌∷◌, length, Option, Some, None, refl, sym, ap, subst, ◌∙◌, arith, inl, inr, ◌⊎◌}
use Rattle.std.specs.Prelude.{if◌then◌else◌}
use Rattle.er_trace.specs.declared.record.Record.{Record}
use Rattle.er_trace.specs.declared.record.Record.TheVariants.{Dcl, Load, Eload, Fire, Wfire, Reply, Inline, Close, Back}
use Rattle.er_history.specs.History.{Dispatch, is_inline, Event, Action, Open, told, begins, dispatch_begun, event_begun, action_begun, stack_after}
use Rattle.er_history.specs.Laws.{Among}
use Rattle.er_history.specs.Naming.{IsNamed, misplaced}
use Rattle.er_history.proofs.HistoryLemmas.{told_before, event_before}
use Rattle.er_pieces.proofs.StackLemmas.{On, Serves, top_on, stack_from, dispatch_at, serves_top}
use Rattle.er_pieces.proofs.CallerLemmas.{among_cases, Resumed, resumed, event_is}

-- all dispatches on the stack have begun
pub opens_below : (h : List Record) → (o : Open) → On o (told h).stack → o.dispatch.begin < length (told h).actions
opens_below [] o on = absurd on
opens_below (x ∷ h) o on =
    elim (stack_from (told h).stack (dispatch_begun (told h).entries (length (told h).actions) x) x o on) [
      | inl from ↦ let before = opens_below h from.0 from.1 in let same = ap (λ (d : Dispatch). d.begin) from.2 in grown x (omega (arith, before, same))
      | inr begun ↦ now x (dispatch_at (told h).entries (length (told h).actions) x o.dispatch begun) begun
    ]
  where
    grown : (x : Record) → o.dispatch.begin < length (told h).actions → o.dispatch.begin < length (told (x ∷ h)).actions
    grown x lt = step (begins x)
      where
        step : (b : Bool) → o.dispatch.begin < length (if b then action_begun (told h) x ∷ (told h).actions else (told h).actions)
        step true = omega arith
        step false = lt

    now : (x : Record) → o.dispatch.begin ≡ length (told h).actions → dispatch_begun (told h).entries (length (told h).actions) x ≡ Some o.dispatch → o.dispatch.begin < length (told (x ∷ h)).actions
    now (Dcl p d) at begun = omega arith
    now (Load p d) at begun = omega arith
    now (Eload p d) at begun = omega arith
    now (Fire p d n) at begun = omega arith
    now (Wfire p d n) at begun = omega arith
    now (Reply p d) at begun = omega arith
    now (Inline p d n) at begun = omega arith
    now x at begun = absurd (cc)

-- the dispatches below another on the stack began before it

abbrev pub IsSorted : List Open → Type 0
IsSorted [] = Unit {0}
IsSorted (o ∷ below) = ((q : Open) → On q below → q.dispatch.begin < o.dispatch.begin) × IsSorted below

pub sorted : (h : List Record) → IsSorted (told h).stack
sorted [] = tt
sorted (x ∷ h) = step (told h).stack x (dispatch_begun (told h).entries (length (told h).actions) x) refl (opens_below h) (sorted h)
  where
    step : (s : List Open) (x : Record) (d : Option Dispatch) → dispatch_begun (told h).entries (length (told h).actions) x ≡ d → ((o : Open) → On o s → o.dispatch.begin < length (told h).actions)
        → IsSorted s → IsSorted (stack_after s d x)
    step [] (Close p) d e lt is = tt
    step (o ∷ below) (Close p) d e lt is = closed (is_inline o.dispatch)
      where
        closed : (b : Bool) → IsSorted (if b then record { dispatch = o.dispatch; closing = true } ∷ below else below)
        closed true = is
        closed false = is.1
    step [] (Back p) d e lt is = tt
    step (o ∷ below) (Back p) d e lt is = is.1
    step s x (Some d) e lt is = (λ q on. let before = lt q on in let at = dispatch_at (told h).entries (length (told h).actions) x d e in omega arith, is)
    step s x None e lt is = is

-- From action n on: each piece is of an event that has begun since, or before action b; and so has
-- each dispatch that is served or open.
pub record Clear (b n : ℕ) (actions : List Action) (stack : List Open) : Type 0 where
  pub pieces : (a : Action) → Among a actions → n ≤ a.number → (a.event.number < b) ⊎ (n ≤ a.event.number)
  pub serves : (a : Action) (d : Dispatch) → Among a actions → n ≤ a.event.number → Serves a.event.what d → (d.begin < b) ⊎ (n ≤ d.begin)
  pub opens : (o : Open) → On o stack → (o.dispatch.begin < b) ⊎ (n ≤ o.dispatch.begin)
  pub inlines : (o : Open) → On o stack → is_inline o.dispatch ≡ true → (o.dispatch.begin < b) ⊎ (n < o.dispatch.begin)

-- it stays so

pub clear_more : (b n : ℕ) (h : List Record) (x : Record) → IsNamed h → misplaced (told h) x ≡ false → n < length (told h).actions → Clear b n (told h).actions (told h).stack → Clear b n (told (x ∷ h)).actions (told (x ∷ h)).stack
clear_more b n h x is placed began clear = record {
  pieces = λ a among le. elim (among_cases h x a among) [
    | inl now ↦ subst (λ (c : Action). (c.event.number < b) ⊎ (n ≤ c.event.number)) (sym now.1) piece
    | inr older ↦ clear.pieces a older le
  ];
  serves = λ a d among le serves. elim (among_cases h x a among) [
    | inl now ↦ served d (subst (λ (c : Action). n ≤ c.event.number) now.1 le) (subst (λ (c : Action). Serves c.event.what d) now.1 serves)
    | inr older ↦ clear.serves a d older le serves
  ];
  opens = λ o on. elim (stack_from (told h).stack (dispatch_begun (told h).entries (length (told h).actions) x) x o on) [
    | inl from ↦ subst (λ (d : Dispatch). (d.begin < b) ⊎ (n ≤ d.begin)) from.2 (clear.opens from.0 from.1)
    | inr begun ↦ let at = dispatch_at (told h).entries (length (told h).actions) x o.dispatch begun in inr (omega arith)
  ];
  inlines = λ o on inline. elim (stack_from (told h).stack (dispatch_begun (told h).entries (length (told h).actions) x) x o on) [
    | inl from ↦ subst (λ (d : Dispatch). (d.begin < b) ⊎ (n < d.begin)) from.2 (clear.inlines from.0 from.1 (ap is_inline from.2 ∙ inline))
    | inr begun ↦ let at = dispatch_at (told h).entries (length (told h).actions) x o.dispatch begun in inr (omega arith)
  ];
}
  where
    -- an event that goes on
    gone_on : (p : ℕ) (is : Resumed h p) → (is.caller.piece.event.number < b) ⊎ (n ≤ is.caller.piece.number)
    gone_on p is =
        let up = event_before (told h).actions is.caller.piece (told_before h) is.caller.among in
        elim (clear.inlines is.on_top.top (top_on is.on_top) is.inline) [
          | inl under ↦ inl (omega (arith, under, up.1, is.caller.before))
          | inr since ↦ inr (omega (arith, since, is.caller.before))
        ]

    piece : ((event_begun (told h) x).number < b) ⊎ (n ≤ (event_begun (told h) x).number)
    piece =
        elim (event_is h x is placed) [
          | inl new ↦ inr (omega (arith, new.1))
          | inr back ↦ subst (λ (y : Record). ((event_begun (told h) y).number < b) ⊎ (n ≤ (event_begun (told h) y).number)) (sym back.1)
              (subst (λ (e : Event). (e.number < b) ⊎ (n ≤ e.number)) (sym back.2.event) (of_back back.0 back.2))
        ]
      where
        of_back : (p : ℕ) (is : Resumed h p) → (is.caller.piece.event.number < b) ⊎ (n ≤ is.caller.piece.event.number)
        of_back p is =
            elim (gone_on p is) [
              | inl under ↦ inl under
              | inr since ↦ clear.pieces is.caller.piece is.caller.among since
            ]

    served : (d : Dispatch) → n ≤ (event_begun (told h) x).number → Serves (event_begun (told h) x).what d → (d.begin < b) ⊎ (n ≤ d.begin)
    served d le serves = by x placed le serves
      where
        by : (x : Record) → misplaced (told h) x ≡ false → n ≤ (event_begun (told h) x).number → Serves (event_begun (told h) x).what d → (d.begin < b) ⊎ (n ≤ d.begin)
        by (Back p) placed le serves =
            let back = resumed h p is placed in
            clear.serves back.caller.piece d back.caller.among (subst (λ (e : Event). n ≤ e.number) back.event le) (subst (λ (e : Event). Serves e.what d) back.event serves)
        by x placed le serves = let top = serves_top h x d placed serves in subst (λ (d : Dispatch). (d.begin < b) ⊎ (n ≤ d.begin)) top.2 (clear.opens top.0 top.1)
