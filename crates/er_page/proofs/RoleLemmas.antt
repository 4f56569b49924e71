-- The role of an event is told by the record that began it, and that of a close by the record that
-- began its dispatch.
use Rattle.std.proofs.Common.{◌≡◌, ℕ, true, false, List, [], ◌∷◌, length, option_map, Option, Some, None, inl, inr, refl, sym, ap, subst, ◌∙◌, arith}
use Rattle.std.specs.Prelude.{slice_get}
use Rattle.std.proofs.lemmas.Option.{slice_get_past}
use Rattle.er_trace.specs.declared.record.Record.{Record}
use Rattle.er_trace.specs.declared.record.Record.TheVariants.{Parse, ParseFrame, Exec, Timer, Tick, Dcl, Load, Eload, Fire, Wfire, Reply, Inline, Run, Close, Back, Message, Anim, Job}
use Rattle.er_history.specs.History.{told, begins, maker_by, declares_handler, event_begun, what_begun, Dispatch, Delivery, DclOf, LoadOf, EloadOf, FireAt, InlineAt, WindowFire, ReplyOf, What, ParseStep, ScriptRun, TimeoutRun, TickRun, BeginOf, HandlerOf, CloseOf, MessageRun, AnimRun, JobRun, Element, Task, Event, Action}
use Rattle.er_history.specs.Facts.{DeliveryIs, WhatIs}
use Rattle.er_history.specs.Laws.{Among}
use Rattle.er_history.specs.LookUps.{element_made}
use Rattle.er_history.specs.Naming.{misplaced, IsNamed}
use Rattle.er_history.proofs.ExactLemmas.{facts_are_exact}
use Rattle.er_history.proofs.HistoryLemmas.{told_before, event_before, events_have_first_pieces, goes_on}
use Rattle.er_history.proofs.NamedLemmas.{none_holds}
use Rattle.er_latest.specs.Roles.{HandlerIn, close_role, role_of, script_role, load_role}
use Rattle.er_pieces.proofs.StackLemmas.{Serves, top_is, serves_top}
use Rattle.er_pieces.proofs.CallerLemmas.{Resumed, among_cases, event_is}
use Rattle.er_pieces.proofs.DispatchLemmas.{HasBegun, open_begun, served_begun}
use Rattle.er_page.specs.declared.piece.Piece.{Piece}
use Rattle.er_page.specs.declared.piece.Pieces.{Pieces}
use Rattle.er_page.specs.declared.piece.Start.{Start}
use Rattle.er_page.specs.Pieces.{PiecesAre, About, Seen, about, about_start, serves}
use Rattle.er_page.specs.Roles.{role_by, close_by, closed_by, first_in, begin_in}
use Rattle.er_page.proofs.PiecesLemmas.{pieces_long, kept_there}

-- what a record begins

abbrev pub Begins : Delivery → What → Type 0
Begins v w = (d : Dispatch) × (w ≡ BeginOf d) × (d.delivers ≡ v)

abbrev pub Form : Record → What → Type 0
Form (Parse d e k) w = (m : Option ℕ) × (w ≡ ParseStep d m)
Form (ParseFrame d e f) w = (m : Option ℕ) × (w ≡ ParseStep d m)
Form (Exec e) w = (made : Option Element) × (w ≡ ScriptRun e made)
Form (Timer t) w = (made : Option _) × (w ≡ TimeoutRun t made)
Form (Tick i) w = (m : Option ℕ) × (w ≡ TickRun i m)
Form (Message n) w = (made : Option Task) × (w ≡ MessageRun n made)
Form (Anim a) w = (made : Option Task) × (w ≡ AnimRun a made)
Form (Job j) w = (made : Option Task) × (within : List ℕ) × (w ≡ JobRun j made within)
Form (Dcl p c) w = (m : Option ℕ) × Begins (DclOf c m) w
Form (Load p c) w = (m : Option ℕ) × Begins (LoadOf c m) w
Form (Eload p e) w = (made : Option Element) × Begins (EloadOf e made) w
Form (Fire p e n) w = (m : Option ℕ) × Begins (FireAt e n m) w
Form (Inline p e n) w = (m : Option ℕ) × Begins (InlineAt e n m) w
Form (Wfire p c n) w = (m : Option ℕ) × Begins (WindowFire c n m) w
Form (Reply p r) w = (m : Option ℕ) × Begins (ReplyOf r m) w
Form (Run p g y) w = (d : Dispatch) × (m : Option ℕ) × (w ≡ HandlerOf d g y m) × (d.number ≡ p)
Form (Close p) w = (d : Dispatch) × (w ≡ CloseOf d)
Form _ w = ⊥

pub form_now : (h : List Record) (x : Record) → begins x ≡ true → goes_on x ≡ false → misplaced (told h) x ≡ false → Form x (what_begun (told h) x)
form_now h (Parse d e k) b g placed = (_, refl)
form_now h (ParseFrame d e f) b g placed = (_, refl)
form_now h (Exec e) b g placed = (_, refl)
form_now h (Timer t) b g placed = (_, refl)
form_now h (Tick i) b g placed = (_, refl)
form_now h (Message m) b g placed = (_, refl)
form_now h (Anim a) b g placed = (_, refl)
form_now h (Job j) b g placed = (_, _, refl)
form_now h (Dcl p c) b g placed = (_, (_, refl, refl))
form_now h (Load p c) b g placed = (_, (_, refl, refl))
form_now h (Eload p e) b g placed = (_, (_, refl, refl))
form_now h (Fire p e n) b g placed = (_, (_, refl, refl))
form_now h (Inline p e n) b g placed = (_, (_, refl, refl))
form_now h (Wfire p c n) b g placed = (_, (_, refl, refl))
form_now h (Reply p r) b g placed = (_, (_, refl, refl))
form_now h (Run p k y) b g placed = let top = top_is false p (told h).stack placed in (top.top.dispatch, maker_by (declares_handler y) (told h).entries, rw top.found refl, top.number)
form_now h (Close p) b g placed = let top = top_is false p (told h).stack placed in (top.top.dispatch, rw top.found refl)
form_now h (Back p) b g placed = absurd (cc)
form_now h _ b g placed = absurd (cc)

-- so does the record of a first piece
pub form_first : (h : List Record) → IsNamed h → (a : Action) → Among a (told h).actions → a.event.number ≡ a.number → Form a.begin a.event.what
form_first [] named a among own = absurd among
form_first (x ∷ h) named a among own =
    let placed = (none_holds h x named.0).placed in
    elim (among_cases h x a among) [
      | inl now ↦ subst (λ (c : Action). Form c.begin c.event.what) (sym now.1) (newest x now.0 placed (subst (λ (c : Action). c.event.number ≡ c.number) now.1 own))
      | inr older ↦ form_first h named.1 a older own
    ]
  where
    newest : (x : Record) → begins x ≡ true → misplaced (told h) x ≡ false → (event_begun (told h) x).number ≡ length (told h).actions → Form x (event_begun (told h) x).what
    newest (Back p) b placed own =
        elim (event_is h (Back p) named.1 placed) [
          | inl new ↦ absurd (let f = new.0 in cc)
          | inr back ↦
              let event : (event_begun (told h) (Back p)).number ≡ back.2.caller.piece.event.number = ap (λ (y : Record). (event_begun (told h) y).number) back.1 ∙ ap (λ (e : Event). e.number) back.2.event in
              let up = event_before (told h).actions back.2.caller.piece (told_before h) back.2.caller.among in
              absurd (omega (arith, event, own, up.0, up.1))
        ]
    newest x b placed own = form_now h x b refl placed

-- what was made, as the list says

abbrev pub Exact : List Record → What → Type 0
Exact h (ScriptRun e made) = made ≡ element_made h e
Exact h _ = Unit {0}

exact_now : (h : List Record) (x : Record) → misplaced (told h) x ≡ false → Exact h (what_begun (told h) x)
exact_now h (Exec e) placed = refl
exact_now h (Run p g y) placed = let top = top_is false p (told h).stack placed in rw top.found tt
exact_now h (Close p) placed = let top = top_is false p (told h).stack placed in rw top.found tt
exact_now h _ placed = tt

exact_of : (h : List Record) (w : What) → WhatIs (told h).entries w → Exact h w
exact_of h (ScriptRun e made) is = is.0
exact_of h _ is = tt

-- the close of a dispatch

delivered : (d : Dispatch) (v : Delivery) (c : Dispatch) → BeginOf d ≡ BeginOf c → c.delivers ≡ v → d.delivers ≡ v
delivered d v c e f = let same : d ≡ c = cc in ap (λ (q : Dispatch). q.delivers) same ∙ f

close_told : (h : List Record) (x : Record) (d : Dispatch) → Form x (BeginOf d) → DeliveryIs (told h).entries d.delivers → close_by h x ≡ close_role d.delivers
close_told h (Eload p e) d form is =
    let made : d.delivers ≡ EloadOf e form.0 = delivered d _ form.1.0 form.1.1 form.1.2 in
    let exact : form.0 ≡ element_made h e = subst (DeliveryIs (told h).entries) made is in
    ap load_role (sym exact) ∙ ap close_role (sym made)
close_told h (Fire p e n) d form is = ap close_role (sym (delivered d _ form.1.0 form.1.1 form.1.2))
close_told h (Inline p e n) d form is = ap close_role (sym (delivered d _ form.1.0 form.1.1 form.1.2))
close_told h (Wfire p c n) d form is = ap close_role (sym (delivered d _ form.1.0 form.1.1 form.1.2))
close_told h (Reply p r) d form is = ap close_role (sym (delivered d _ form.1.0 form.1.1 form.1.2))
close_told h (Dcl p c) d form is = ap close_role (sym (delivered d _ form.1.0 form.1.1 form.1.2))
close_told h (Load p c) d form is = ap close_role (sym (delivered d _ form.1.0 form.1.1 form.1.2))
close_told h (Parse c e k) d form is = let f = form.1 in absurd (cc)
close_told h (ParseFrame c e k) d form is = let f = form.1 in absurd (cc)
close_told h (Exec e) d form is = let f = form.1 in absurd (cc)
close_told h (Timer t) d form is = let f = form.1 in absurd (cc)
close_told h (Tick i) d form is = let f = form.1 in absurd (cc)
close_told h (Message m) d form is = let f = form.1 in absurd (cc)
close_told h (Anim a) d form is = let f = form.1 in absurd (cc)
close_told h (Job j) d form is = let f = form.2 in absurd (cc)
close_told h (Run p g y) d form is = let f = form.2 in absurd (cc)
close_told h (Close p) d form is = let f = form.1 in absurd (cc)
close_told h _ d form is = absurd form

-- the begin of a dispatch that has begun tells the role of its close
close_found : (pieces : Pieces) (h : List Record) (d : Dispatch) → PiecesAre pieces h → IsNamed h → HasBegun (told h).actions d → closed_by h (begin_in pieces.list.items (Some d.begin)) ≡ close_role d.delivers
close_found pieces h d are named begun =
    let piece = kept_there pieces h begun.begin are begun.among in
    let record_is : piece.0.begin ≡ begun.begin.begin = ap (λ (s : Seen). s.begin) piece.2 in
    let found : begin_in pieces.list.items (Some d.begin) ≡ Some begun.begin.begin = subst (λ k. begin_in pieces.list.items (Some k) ≡ Some begun.begin.begin) begun.number (ap (option_map (λ (p : Piece). p.begin)) piece.1 ∙ ap Some record_is) in
    let form = subst (Form begun.begin.begin) begun.is (form_first h named begun.begin begun.among (begun.own ∙ sym begun.number)) in
    let exact = subst (WhatIs (told h).entries) begun.is (facts_are_exact h begun.begin named begun.among) in
    ap (closed_by h) found ∙ close_told h begun.begin.begin d form exact

-- the role of an event

role_told : (h : List Record) (x : Record) (w : What) (served : Option Record) → Form x w → Exact h w → ((d : Dispatch) → w ≡ CloseOf d → closed_by h served ≡ close_role d.delivers) → role_by h x served ≡ role_of w
role_told h (Parse d e k) w served form exact closes = ap role_of (sym form.1)
role_told h (ParseFrame d e f) w served form exact closes = ap role_of (sym form.1)
role_told h (Exec e) w served form exact closes = let made = subst (Exact h) form.1 exact in ap (script_role e) (sym made) ∙ ap role_of (sym form.1)
role_told h (Timer t) w served form exact closes = ap role_of (sym form.1)
role_told h (Tick i) w served form exact closes = ap role_of (sym form.1)
role_told h (Message m) w served form exact closes = ap role_of (sym form.1)
role_told h (Anim a) w served form exact closes = ap role_of (sym form.1)
role_told h (Job j) w served form exact closes = ap role_of (sym form.2)
role_told h (Run p g y) w served form exact closes = ap (λ n. HandlerIn n g) (sym form.3) ∙ ap role_of (sym form.2)
role_told h (Close p) w served form exact closes = closes form.0 form.1 ∙ ap role_of (sym form.1)
role_told h (Dcl p c) w served form exact closes = ap role_of (sym form.1.1)
role_told h (Load p c) w served form exact closes = ap role_of (sym form.1.1)
role_told h (Eload p e) w served form exact closes = ap role_of (sym form.1.1)
role_told h (Fire p e n) w served form exact closes = ap role_of (sym form.1.1)
role_told h (Inline p e n) w served form exact closes = ap role_of (sym form.1.1)
role_told h (Wfire p c n) w served form exact closes = ap role_of (sym form.1.1)
role_told h (Reply p r) w served form exact closes = ap role_of (sym form.1.1)
role_told h _ w served form exact closes = absurd form

pub role_is : (pieces : Pieces) (h : List Record) (x : Record) (start : Start) → PiecesAre pieces h → IsNamed (x ∷ h) → begins x ≡ true → about_start start ≡ about (event_begun (told h) x)
    → role_by h (first_in pieces.list.items x start) (begin_in pieces.list.items start.serves) ≡ role_of (event_begun (told h) x).what
role_is pieces h x start are named begin same =
    elim (event_is h x named.1 placed) [
      | inl new ↦ begun new.0 new.1
      | inr back ↦ resumes back.0 back.1 back.2
    ]
  where
    placed : misplaced (told h) x ≡ false
    placed = (none_holds h x named.0).placed

    first : Option Piece → Record
    first None = x
    first (Some p) = p.begin

    closes : ((d : Dispatch) → (event_begun (told h) x).what ≡ CloseOf d → HasBegun (told h).actions d) → (d : Dispatch) → (event_begun (told h) x).what ≡ CloseOf d → closed_by h (begin_in pieces.list.items start.serves) ≡ close_role d.delivers
    closes served d e =
        let is : start.serves ≡ Some d.begin = ap (λ (m : About). m.serves) same ∙ ap serves e in
        ap (λ o. closed_by h (begin_in pieces.list.items o)) is ∙ close_found pieces h d are named.1 (served d e)

    number : start.event ≡ (event_begun (told h) x).number
    number = ap (λ (m : About). m.event) same

    begun : goes_on x ≡ false → (event_begun (told h) x).number ≡ length (told h).actions → role_by h (first_in pieces.list.items x start) (begin_in pieces.list.items start.serves) ≡ role_of (event_begun (told h) x).what
    begun new is =
        let past : slice_get pieces.list.items start.event ≡ None = slice_get_past pieces.list.items start.event (omega (arith, number, is, pieces_long pieces.list.items (told h).actions are.all)) in
        let what : (event_begun (told h) x).what ≡ what_begun (told h) x = new_what x new in
        ap (λ o. role_by h (first o) (begin_in pieces.list.items start.serves)) past
        ∙ (role_told h x (what_begun (told h) x) (begin_in pieces.list.items start.serves) (form_now h x begin new placed) (exact_now h x placed)
        (λ d e. closes (λ c f. let top = serves_top h x c placed (subst (λ w. Serves w c) (sym (sym what ∙ f)) refl) in subst (HasBegun (told h).actions) top.2 (open_begun h top.0 top.1)) d (what ∙ e)) ∙ ap role_of (sym what))
      where
        new_what : (x : Record) → goes_on x ≡ false → (event_begun (told h) x).what ≡ what_begun (told h) x
        new_what (Back p) g = absurd (cc)
        new_what x g = refl

    resumes : (p : ℕ) → x ≡ Back p → Resumed h p → role_by h (first_in pieces.list.items x start) (begin_in pieces.list.items start.serves) ≡ role_of (event_begun (told h) x).what
    resumes p is back =
        let event : event_begun (told h) x ≡ back.caller.piece.event = ap (event_begun (told h)) is ∙ back.event in
        let one = events_have_first_pieces h back.caller.piece back.caller.among in
        let piece = kept_there pieces h one.0 are one.1 in
        let at : start.event ≡ one.0.number = number ∙ (ap (λ (e : Event). e.number) event ∙ sym one.2) in
        let there : slice_get pieces.list.items start.event ≡ Some piece.0 = ap (slice_get pieces.list.items) at ∙ piece.1 in
        let record_is : piece.0.begin ≡ one.0.begin = ap (λ (s : Seen). s.begin) piece.2 in
        let whole : one.0.event ≡ event_begun (told h) x = one.3 ∙ sym event in
        let form = subst (λ (e : Event). Form one.0.begin e.what) whole (form_first h named.1 one.0 one.1 (ap (λ (e : Event). e.number) one.3 ∙ sym one.2)) in
        let exact = subst (λ (e : Event). Exact h e.what) whole (exact_of h one.0.event.what (facts_are_exact h one.0 named.1 one.1)) in
        ap (λ o. role_by h (first o) (begin_in pieces.list.items start.serves)) there ∙ (ap (λ y. role_by h y (begin_in pieces.list.items start.serves)) record_is
        ∙ role_told h one.0.begin (event_begun (told h) x).what (begin_in pieces.list.items start.serves) form exact
        (closes (λ d e. served_begun h named.1 one.0 d one.1 (subst (λ (v : Event). Serves v.what d) (sym whole) (subst (λ w. Serves w d) (sym e) refl)))))
