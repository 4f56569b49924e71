-- A dispatch is closed by one event. Lists of records stand newest first.
use Rattle.std.proofs.Common.{◌≡◌, ℕ, Bool, true, false, List, [], ◌∷◌, length, Option, Some, None, refl, sym, ap, subst, ◌∙◌, arith, inl, inr, ◌⊎◌}
use Rattle.std.specs.Prelude.{◌==◌, if◌then◌else◌}
use Rattle.std.specs.List.{list_any}
use Rattle.std.proofs.lemmas.Bool.{eq-eqb}
use Rattle.er_trace.specs.declared.record.Record.{Record}
use Rattle.er_trace.specs.declared.record.Record.TheVariants.{Dcl, Load, Eload, Fire, Wfire, Reply, Inline, Run, Close, Back}
use Rattle.er_history.specs.History.{Dispatch, is_inline, What, CloseOf, Event, Action, Open, told, dispatch_begun, what_begun, event_begun, stack_after}
use Rattle.er_history.specs.Laws.{Among}
use Rattle.er_history.specs.Naming.{IsNamed, misplaced, begins_dispatch}
use Rattle.er_history.proofs.NamedLemmas.{NoneHolds, none_holds}
use Rattle.er_history.proofs.UnfinishedLemmas.{clash}
use Rattle.er_pieces.proofs.StackLemmas.{On, Serves, top_is, top_on, some_is}
use Rattle.er_pieces.proofs.CallerLemmas.{among_cases, resumed}
use Rattle.er_pieces.proofs.ClearLemmas.{IsSorted, sorted}
use Rattle.er_pieces.proofs.OnceLemmas.{begun_in, dispatch_once, BegunBy, first_begun}
use Rattle.er_pieces.proofs.DispatchLemmas.{HasBegun, open_begun, served_begun, same_dispatch}

-- where an open dispatch comes from: it was open, is being closed, or has begun
open_from : (s : List Open) (d : Option Dispatch) (x : Record) (o : Open) → On o (stack_after s d x) → On o s ⊎ ((o.closing ≡ true) ⊎ (d ≡ Some o.dispatch))
open_from [] d (Close p) o on = absurd on
open_from (q ∷ below) d (Close p) o on = step (is_inline q.dispatch) on
  where
    step : (b : Bool) → On o (if b then record { dispatch = q.dispatch; closing = true } ∷ below else below) → On o (q ∷ below) ⊎ ((o.closing ≡ true) ⊎ (d ≡ Some o.dispatch))
    step true (inl same) = inr (inl (ap (λ (r : Open). r.closing) same))
    step true (inr deeper) = inl (inr deeper)
    step false deeper = inl (inr deeper)
open_from [] d (Back p) o on = absurd on
open_from (q ∷ below) d (Back p) o on = inl (inr on)
open_from s (Some d) x o (inl same) = inr (inr (ap (λ (r : Open). Some r.dispatch) (sym same)))
open_from s (Some d) x o (inr deeper) = inl deeper
open_from s None x o on = inl on

-- behind a close, those below the top alone, or the top as it is being closed
closed_from : (s below : List Open) (d : Option Dispatch) (p : ℕ) (t o : Open) → s ≡ t ∷ below → On o (stack_after s d (Close p)) → (o.closing ≡ true) ⊎ On o below
closed_from s below d p t o e on = step (is_inline t.dispatch) (subst (λ r. On o (stack_after r d (Close p))) e on)
  where
    step : (b : Bool) → On o (if b then record { dispatch = t.dispatch; closing = true } ∷ below else below) → (o.closing ≡ true) ⊎ On o below
    step true (inl same) = inl (ap (λ (r : Open). r.closing) same)
    step true (inr deeper) = inr deeper
    step false deeper = inr deeper

-- a record that begins a dispatch begins it under its number
begins_it : (h : List Record) (x : Record) (d : Dispatch) → dispatch_begun (told h).entries (length (told h).actions) x ≡ Some d → begins_dispatch d.number x ≡ true
begins_it h x d e = by x e
  where
    at : (c : Dispatch) → Some c ≡ Some d → (c.number == d.number) ≡ true
    at c e = eq-eqb c.number d.number (ap (λ (q : Dispatch). q.number) (some_is c d e))

    by : (x : Record) → dispatch_begun (told h).entries (length (told h).actions) x ≡ Some d → begins_dispatch d.number x ≡ true
    by (Dcl p c) e = at _ e
    by (Load p c) e = at _ e
    by (Eload p y) e = at _ e
    by (Fire p y n) e = at _ e
    by (Wfire p c n) e = at _ e
    by (Reply p r) e = at _ e
    by (Inline p y n) e = at _ e
    by _ e = absurd (cc)

-- a dispatch that has begun does not begin again
pub not_again : (h : List Record) (x : Record) (d e : Dispatch) → IsNamed h → NoneHolds h x → HasBegun (told h).actions d → dispatch_begun (told h).entries (length (told h).actions) x ≡ Some e → e.number ≡ d.number → ⊥
not_again h x d e named none begun now same =
    let first = first_begun h named begun.begin begun.among in
    let by = (subst (λ (w : What). BegunBy w first.first.begin) begun.is first.begun).0 in
    clash (list_any (begins_dispatch d.number) h)
    (dispatch_once d.number h x none.new (subst (λ n. begins_dispatch n x ≡ true) same (begins_it h x e now)))
    (begun_in (begins_dispatch d.number) h first.first first.among by)

-- what has the number of the top is not below it
not_below : (h : List Record) → IsNamed h → (t o : Open) (below : List Open) → (told h).stack ≡ t ∷ below → On o below → o.dispatch.number ≡ t.dispatch.number → ⊥
not_below h named t o below e on same =
    let whole : On o (told h).stack = subst (On o) (sym e) (inr on) in
    let top : On t (told h).stack = subst (On t) (sym e) (inl refl) in
    let one = same_dispatch h named o.dispatch t.dispatch (open_begun h o whole) (open_begun h t top) same in
    let lt = (subst IsSorted e (sorted h)).0 o on in
    let at = ap (λ (d : Dispatch). d.begin) one in
    omega (arith, lt, at)

-- A dispatch whose close has begun is not open, or is being closed.
pub gone : (h : List Record) → IsNamed h → (c : Action) (d : Dispatch) (o : Open) → Among c (told h).actions → c.event.what ≡ CloseOf d → On o (told h).stack → o.dispatch.number ≡ d.number → o.closing ≡ true
gone [] named c d o among is on same = absurd on
gone (x ∷ h) named c d o among is on same =
    let none = none_holds h x named.0 in
    elim (among_cases h x c among) [
      | inl now ↦ newest x none (ap (λ (a : Action). a.event.what) (sym now.1) ∙ is) on (gone h named.1)
      | inr older ↦ kept x none c older is on (gone h named.1)
    ]
  where
    Rest : Type 0
    Rest = (c : Action) (d : Dispatch) (o : Open) → Among c (told h).actions → c.event.what ≡ CloseOf d → On o (told h).stack → o.dispatch.number ≡ d.number → o.closing ≡ true

    kept : (x : Record) → NoneHolds h x → (c : Action) → Among c (told h).actions → c.event.what ≡ CloseOf d → On o (told (x ∷ h)).stack → Rest → o.closing ≡ true
    kept x none c older is on rest =
        elim (open_from (told h).stack (dispatch_begun (told h).entries (length (told h).actions) x) x o on) [
          | inl before ↦ rest c d o older is before same
          | inr other ↦ elim other [
            | inl closing ↦ closing
            | inr begun ↦ absurd (not_again h x d o.dispatch named.1 none (served_begun h named.1 c d older (subst (λ (w : What). Serves w d) (sym is) refl)) begun same)
          ]
        ]

    newest : (x : Record) → NoneHolds h x → (event_begun (told h) x).what ≡ CloseOf d → On o (told (x ∷ h)).stack → Rest → o.closing ≡ true
    newest (Back p) none is on rest =
        let back = resumed h p named.1 none.placed in
        kept (Back p) none back.caller.piece back.caller.among (ap (λ (e : Event). e.what) (sym back.event) ∙ is) on rest
    newest (Close p) none is on rest =
        let top = top_is false p (told h).stack none.placed in
        let f : CloseOf top.top.dispatch ≡ CloseOf d = rw top.found at is in
        let it : top.top.dispatch ≡ d = cc in
        elim (closed_from (told h).stack top.below (dispatch_begun (told h).entries (length (told h).actions) (Close p)) p top.top o top.is on) [
          | inl closing ↦ closing
          | inr below ↦ absurd (not_below h named.1 top.top o top.below top.is below (same ∙ ap (λ (e : Dispatch). e.number) (sym it)))
        ]
    newest (Run p g y) none is on rest = let top = top_is false p (told h).stack none.placed in absurd (let f = rw top.found at is in cc)
    newest (Dcl p c) none is on rest = absurd (cc)
    newest (Load p c) none is on rest = absurd (cc)
    newest (Eload p y) none is on rest = absurd (cc)
    newest (Fire p y n) none is on rest = absurd (cc)
    newest (Wfire p c n) none is on rest = absurd (cc)
    newest (Reply p r) none is on rest = absurd (cc)
    newest (Inline p y n) none is on rest = absurd (cc)
    newest _ none is on rest = absurd (cc)

-- a close that begins is the first of its dispatch
first_close : (h : List Record) (x : Record) (b : Action) (d e : Dispatch) → IsNamed h → misplaced (told h) x ≡ false → what_begun (told h) x ≡ CloseOf d → Among b (told h).actions → b.event.what ≡ CloseOf e → d.number ≡ e.number → ⊥
first_close h x b d e named placed is among also same = by x placed is
  where
    by : (x : Record) → misplaced (told h) x ≡ false → what_begun (told h) x ≡ CloseOf d → ⊥
    by (Close p) placed is =
        let top = top_is false p (told h).stack placed in
        let f : CloseOf top.top.dispatch ≡ CloseOf d = rw top.found at is in
        let it : top.top.dispatch ≡ d = cc in
        clash top.top.closing top.closes (gone h named b e top.top among also (top_on top) (ap (λ (c : Dispatch). c.number) it ∙ same))
    by (Run p g y) placed is = let top = top_is false p (told h).stack placed in absurd (let f = rw top.found at is in cc)
    by (Dcl p c) placed is = absurd (cc)
    by (Load p c) placed is = absurd (cc)
    by (Eload p y) placed is = absurd (cc)
    by (Fire p y n) placed is = absurd (cc)
    by (Wfire p c n) placed is = absurd (cc)
    by (Reply p r) placed is = absurd (cc)
    by (Inline p y n) placed is = absurd (cc)
    by _ placed is = absurd (cc)

pub one_close : (h : List Record) → IsNamed h → (a b : Action) (d e : Dispatch) → Among a (told h).actions → Among b (told h).actions → a.event.what ≡ CloseOf d → b.event.what ≡ CloseOf e → d.number ≡ e.number → a.event ≡ b.event
one_close [] named a b d e first second is also same = absurd first
one_close (x ∷ h) named a b d e first second is also same =
    let placed = (none_holds h x named.0).placed in
    elim (among_cases h x a first) [
      | inl now ↦ elim (among_cases h x b second) [
        | inl other ↦ ap (λ (c : Action). c.event) (now.1 ∙ sym other.1)
        | inr older ↦ ap (λ (c : Action). c.event) now.1 ∙ newest x b d e placed (ap (λ (c : Action). c.event.what) (sym now.1) ∙ is) older also same (one_close h named.1)
      ]
      | inr earlier ↦ elim (among_cases h x b second) [
        | inl now ↦ sym (ap (λ (c : Action). c.event) now.1 ∙ newest x a e d placed (ap (λ (c : Action). c.event.what) (sym now.1) ∙ also) earlier is (sym same) (one_close h named.1))
        | inr older ↦ one_close h named.1 a b d e earlier older is also same
      ]
    ]
  where
    Rest : Type 0
    Rest = (a b : Action) (d e : Dispatch) → Among a (told h).actions → Among b (told h).actions → a.event.what ≡ CloseOf d → b.event.what ≡ CloseOf e → d.number ≡ e.number → a.event ≡ b.event

    newest : (x : Record) (b : Action) (d e : Dispatch) → misplaced (told h) x ≡ false → (event_begun (told h) x).what ≡ CloseOf d → Among b (told h).actions → b.event.what ≡ CloseOf e → d.number ≡ e.number → Rest → event_begun (told h) x ≡ b.event
    newest (Back p) b d e placed is older also same rest =
        let back = resumed h p named.1 placed in
        back.event ∙ rest back.caller.piece b d e back.caller.among older (ap (λ (u : Event). u.what) (sym back.event) ∙ is) also same
    newest x b d e placed is older also same rest = absurd (first_close h x b d e named.1 placed is older also same)
