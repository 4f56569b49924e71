-- DOMContentLoaded and load of a document, and the first load event of an element, as look-ups find
-- them. Lists of records stand newest first.
use Rattle.std.proofs.Common.{◌≡◌, ℕ, Bool, true, false, List, [], ◌∷◌, length, Option, Some, None, refl, sym, ap, subst, ◌∙◌, arith, inl, inr}
use Rattle.std.specs.Prelude.{◌==◌, if◌then◌else◌}
use Rattle.std.specs.List.{list_any}
use Rattle.std.proofs.lemmas.Bool.{eqb-true, eq-eqb}
use Rattle.er_trace.specs.declared.record.Record.{Record}
use Rattle.er_trace.specs.declared.record.Record.TheVariants.{Dcl, Load, Eload, Fire, Wfire, Reply, Inline, Run, Close, Back}
use Rattle.er_history.specs.History.{Dispatch, Delivery, DclOf, LoadOf, EloadOf, BeginOf, CloseOf, Event, Action, Entry, told, begins, or_else, first_to, maker_by, declares_document, makes_element, dispatch_begun, event_begun, action_begun}
use Rattle.er_history.specs.Laws.{Among}
use Rattle.er_history.specs.Naming.{IsNamed, is_dcl, is_load, is_eload}
use Rattle.er_history.specs.Latest.{number_of, newest, latest_of}
use Rattle.er_history.specs.Kinds.{closes, is_load_of}
use Rattle.er_history.specs.Rules.{is_dcl_of}
use Rattle.er_history.specs.LookUps.{close_event, dcl_of, load_of, begins_dcl, begins_load, begins_eload}
use Rattle.er_history.proofs.HistoryLemmas.{goes_on, told_before, event_before, same_test}
use Rattle.er_history.proofs.NamedLemmas.{NoneHolds}
use Rattle.er_history.proofs.DeclaredLemmas.{Found, or_none}
use Rattle.er_pieces.proofs.StackLemmas.{top_is, some_is}
use Rattle.er_pieces.proofs.CallerLemmas.{among_more, among_cases, event_is}
use Rattle.er_pieces.proofs.ChainLemmas.{event_with}
use Rattle.er_pieces.proofs.OnceLemmas.{IsOnce, begun_once, dcl_once, load_once}
use Rattle.er_pieces.proofs.DispatchLemmas.{HasBegun, served_begun, begin_begun, same_dispatch}
use Rattle.er_pieces.proofs.ServeLemmas.{serves_close}
use Rattle.er_pieces.proofs.ClosedLemmas.{close_is}
use Rattle.er_pieces.proofs.NewestLemmas.{newest_same, newest_none}
use Rattle.er_pieces.proofs.BegunLemmas.{BegunAt, begun_at, is_close_of, close_what, newest_close}

-- the first load event of the element
abbrev pub is_eload_of : ℕ → Delivery → Bool
is_eload_of e (EloadOf f made) = f == e
is_eload_of e _ = false

-- what a record begins that begins a dispatch, and back

begin_to : (k : List Record) (x : Record) (q : Dispatch) → dispatch_begun (told k).entries (length (told k).actions) x ≡ Some q → (event_begun (told k) x).what ≡ BeginOf q
begin_to k (Dcl p d) q e = ap BeginOf (some_is _ q e)
begin_to k (Load p d) q e = ap BeginOf (some_is _ q e)
begin_to k (Eload p y) q e = ap BeginOf (some_is _ q e)
begin_to k (Fire p y n) q e = ap BeginOf (some_is _ q e)
begin_to k (Wfire p d n) q e = ap BeginOf (some_is _ q e)
begin_to k (Reply p r) q e = ap BeginOf (some_is _ q e)
begin_to k (Inline p y n) q e = ap BeginOf (some_is _ q e)
begin_to k _ q e = absurd (cc)

begin_from : (k : List Record) (x : Record) (q : Dispatch) → NoneHolds k x → goes_on x ≡ false → (event_begun (told k) x).what ≡ BeginOf q → dispatch_begun (told k).entries (length (told k).actions) x ≡ Some q
begin_from k (Dcl p d) q none new e = let same : _ ≡ q = inside _ q e in ap (λ (c : Dispatch). Some c) same
  where
    inside : (c q : Dispatch) → BeginOf c ≡ BeginOf q → c ≡ q
    inside c q e = cc
begin_from k (Load p d) q none new e = cc
begin_from k (Eload p y) q none new e = cc
begin_from k (Fire p y n) q none new e = cc
begin_from k (Wfire p d n) q none new e = cc
begin_from k (Reply p r) q none new e = cc
begin_from k (Inline p y n) q none new e = cc
begin_from k (Run p g y) q none new e = let is = top_is false p (told k).stack none.placed in absurd (let f = rw is.found at e in cc)
begin_from k (Close p) q none new e = let is = top_is false p (told k).stack none.placed in absurd (let f = rw is.found at e in cc)
begin_from k (Back p) q none new e = absurd (cc)
begin_from k _ q none new e = absurd (cc)

-- the first piece of an event is no `back`
new_piece : (h : List Record) (a : Action) → (at : BegunAt h a) → a.event.number ≡ a.number → goes_on a.begin ≡ false
new_piece h a at own =
    elim (event_is at.earlier a.begin at.named at.next.placed) [
      | inl new ↦ new.0
      | inr back ↦
          let up = event_before (told at.earlier).actions back.2.caller.piece (told_before at.earlier) back.2.caller.among in
          let event : (event_begun (told at.earlier) a.begin).number ≡ back.2.caller.piece.event.number = ap (λ (y : Record). (event_begun (told at.earlier) y).number) back.1 ∙ ap (λ (e : Event). e.number) back.2.event in
          let is : (event_begun (told at.earlier) a.begin).number ≡ length (told at.earlier).actions = sym (ap (λ (c : Action). c.event.number) at.is) ∙ (own ∙ ap (λ (c : Action). c.number) at.is) in
          absurd (omega (arith, event, is, up.0, up.1))
    ]

-- A kind of dispatch that one record at most begins, and the number that the record gives it.
pub record IsKind (is : Delivery → Bool) (test : Record → Bool) (gives : Record → Option ℕ) : Type 0 where
  pub once : IsOnce test
  pub from : (es : List Entry) (k : ℕ) (x : Record) (q : Dispatch) → dispatch_begun es k x ≡ Some q → is q.delivers ≡ true → (test x ≡ true) × (gives x ≡ Some q.number)
  pub to : (es : List Entry) (k : ℕ) (x : Record) (p : ℕ) → gives x ≡ Some p → (begins x ≡ true) × (test x ≡ true) × (q : Dispatch) × (dispatch_begun es k x ≡ Some q) × (is q.delivers ≡ true) × (q.number ≡ p)

-- the dispatch that a look-up finds has begun
pub record KindBegun (is : Delivery → Bool) (test : Record → Bool) (h : List Record) (p : ℕ) : Type 0 where
  pub dispatch : Dispatch
  pub action : Action
  pub among : Among action (told h).actions
  pub begins : action.event.what ≡ BeginOf dispatch
  pub number : dispatch.number ≡ p
  pub passes : is dispatch.delivers ≡ true
  pub by_record : test action.begin ≡ true

found_record : (f : Record → Option ℕ) → ((x : Record) (p : ℕ) → f x ≡ Some p → begins x ≡ true) → (h : List Record) (p : ℕ) → first_to f h ≡ Some p → (a : Action) × Among a (told h).actions × (f a.begin ≡ Some p)
found_record f begin [] p e = absurd (cc)
found_record f begin (x ∷ h) p e = step (first_to f h) (found_record f begin h p) e
  where
    now : (b : Bool) → b ≡ true → Among (action_begun (told h) x) (if b then action_begun (told h) x ∷ (told h).actions else (told h).actions)
    now true e = inl refl
    now false e = absurd (cc)

    step : (o : Option ℕ) → (o ≡ Some p → (a : Action) × Among a (told h).actions × (f a.begin ≡ Some p)) → or_else o (f x) ≡ Some p → (a : Action) × Among a (told (x ∷ h)).actions × (f a.begin ≡ Some p)
    step None rest e = (action_begun (told h) x, now (begins x) (begin x p e), e)
    step (Some c) rest e = let is = rest e in (is.0, among_more h x is.0 is.1, is.2)

pub kind_begun : (is : Delivery → Bool) (test : Record → Bool) (gives : Record → Option ℕ) → IsKind is test gives → (h : List Record) → IsNamed h → (p : ℕ) → first_to gives h ≡ Some p → KindBegun is test h p
kind_begun is test gives kind h named p e =
    let found = found_record gives (λ x n f. (kind.to [] 0 x n f).0) h p e in
    let at = begun_at h named found.0 found.1 in
    let to = kind.to (told at.earlier).entries (length (told at.earlier).actions) found.0.begin p found.2 in
    record {
      dispatch = to.2;
      action = found.0;
      among = found.1;
      begins = ap (λ (c : Action). c.event.what) at.is ∙ begin_to at.earlier found.0.begin to.2 to.3;
      number = to.5;
      passes = to.4;
      by_record = to.1;
    }

listed_found : (f : Record → Option ℕ) (h : List Record) (a : Action) → Among a (told h).actions → Found (f a.begin) → Found (first_to f h)
listed_found f [] a among found = absurd among
listed_found f (x ∷ h) a among found =
    elim (among_cases h x a among) [
      | inl now ↦ last (first_to f h) (subst (λ (c : Action). Found (f c.begin)) now.1 found)
      | inr older ↦ first (first_to f h) (listed_found f h a older found)
    ]
  where
    last : (o : Option ℕ) → Found (f x) → Found (or_else o (f x))
    last None found = found
    last (Some c) found = (c, refl)

    first : (o : Option ℕ) → Found o → Found (or_else o (f x))
    first None found = absurd (cc (found.1))
    first (Some c) found = (c, refl)

-- and is the one of its kind that has
pub kind_known : (is : Delivery → Bool) (test : Record → Bool) (gives : Record → Option ℕ) → IsKind is test gives → (h : List Record) → IsNamed h → (q : Dispatch) → HasBegun (told h).actions q → is q.delivers ≡ true → first_to gives h ≡ Some q.number
kind_known is test gives kind h named q begun passes =
    let a = begun.begin in
    let at = begun_at h named a begun.among in
    let new = new_piece h a at (begun.own ∙ sym begun.number) in
    let began = begin_from at.earlier a.begin q at.next new (sym (ap (λ (c : Action). c.event.what) at.is) ∙ begun.is) in
    let from = kind.from (told at.earlier).entries (length (told at.earlier).actions) a.begin q began passes in
    let found = listed_found gives h a begun.among (q.number, from.1) in
    let first = kind_begun is test gives kind h named found.0 found.1 in
    let one : a ≡ first.action = begun_once test kind.once h named a first.action begun.among first.among from.0 first.by_record in
    let both : BeginOf q ≡ BeginOf first.dispatch = sym begun.is ∙ (ap (λ (c : Action). c.event.what) one ∙ first.begins) in
    let same : q ≡ first.dispatch = cc in
    found.1 ∙ ap (λ n. Some n) (sym first.number ∙ ap (λ (d : Dispatch). d.number) (sym same))

-- the three kinds

eload_once : (e : ℕ) → IsOnce (is_eload e)
eload_once e h (Eload p c) new is = subst (λ n. list_any (is_eload n) h ≡ false) (eqb-true c e is) (or_none _ _ new).1
eload_once e h _ new is = absurd (cc)

given : (b : Bool) (p n : ℕ) → (if b then Some p else None) ≡ Some n → (b ≡ true) × (p ≡ n)
given true p n e = (refl, some_is p n e)
given false p n e = absurd (cc)

gives_it : (b : Bool) (p n : ℕ) → b ≡ true → p ≡ n → (if b then Some p else None) ≡ Some n
gives_it true p n e f = ap (λ k. Some k) f
gives_it false p n e f = absurd (cc)

pub dcl_kind : (d : ℕ) → IsKind (is_dcl_of d) (is_dcl d) (begins_dcl d)
dcl_kind d = record { once = dcl_once d; from = from; to = to }
  where
    is : (c q : Dispatch) → Some c ≡ Some q → is_dcl_of d q.delivers ≡ true → is_dcl_of d c.delivers ≡ true
    is c q e f = ap (λ (x : Dispatch). is_dcl_of d x.delivers) (some_is c q e) ∙ f

    from : (es : List Entry) (k : ℕ) (x : Record) (q : Dispatch) → dispatch_begun es k x ≡ Some q → is_dcl_of d q.delivers ≡ true → (is_dcl d x ≡ true) × (begins_dcl d x ≡ Some q.number)
    from es k (Dcl p c) q e f = let same = is _ q e f in (same, gives_it (c == d) p q.number same (ap (λ (x : Dispatch). x.number) (some_is _ q e)))
    from es k (Load p c) q e f = absurd (let same = is _ q e f in cc)
    from es k (Eload p y) q e f = absurd (let same = is _ q e f in cc)
    from es k (Fire p y n) q e f = absurd (let same = is _ q e f in cc)
    from es k (Wfire p c n) q e f = absurd (let same = is _ q e f in cc)
    from es k (Reply p r) q e f = absurd (let same = is _ q e f in cc)
    from es k (Inline p y n) q e f = absurd (let same = is _ q e f in cc)
    from es k _ q e f = absurd (cc)

    to : (es : List Entry) (k : ℕ) (x : Record) (p : ℕ) → begins_dcl d x ≡ Some p → (begins x ≡ true) × (is_dcl d x ≡ true) × (q : Dispatch) × (dispatch_begun es k x ≡ Some q) × (is_dcl_of d q.delivers ≡ true) × (q.number ≡ p)
    to es k (Dcl n c) p e = let is = given (c == d) n p e in (refl, is.0, record { number = n; begin = k; delivers = DclOf c (maker_by (declares_document c) es) }, refl, is.0, is.1)
    to es k _ p e = absurd (cc)

pub load_kind : (d : ℕ) → IsKind (is_load_of d) (is_load d) (begins_load d)
load_kind d = record { once = load_once d; from = from; to = to }
  where
    is : (c q : Dispatch) → Some c ≡ Some q → is_load_of d q.delivers ≡ true → is_load_of d c.delivers ≡ true
    is c q e f = ap (λ (x : Dispatch). is_load_of d x.delivers) (some_is c q e) ∙ f

    from : (es : List Entry) (k : ℕ) (x : Record) (q : Dispatch) → dispatch_begun es k x ≡ Some q → is_load_of d q.delivers ≡ true → (is_load d x ≡ true) × (begins_load d x ≡ Some q.number)
    from es k (Load p c) q e f = let same = is _ q e f in (same, gives_it (c == d) p q.number same (ap (λ (x : Dispatch). x.number) (some_is _ q e)))
    from es k (Dcl p c) q e f = absurd (let same = is _ q e f in cc)
    from es k (Eload p y) q e f = absurd (let same = is _ q e f in cc)
    from es k (Fire p y n) q e f = absurd (let same = is _ q e f in cc)
    from es k (Wfire p c n) q e f = absurd (let same = is _ q e f in cc)
    from es k (Reply p r) q e f = absurd (let same = is _ q e f in cc)
    from es k (Inline p y n) q e f = absurd (let same = is _ q e f in cc)
    from es k _ q e f = absurd (cc)

    to : (es : List Entry) (k : ℕ) (x : Record) (p : ℕ) → begins_load d x ≡ Some p → (begins x ≡ true) × (is_load d x ≡ true) × (q : Dispatch) × (dispatch_begun es k x ≡ Some q) × (is_load_of d q.delivers ≡ true) × (q.number ≡ p)
    to es k (Load n c) p e = let is = given (c == d) n p e in (refl, is.0, record { number = n; begin = k; delivers = LoadOf c (maker_by (declares_document c) es) }, refl, is.0, is.1)
    to es k _ p e = absurd (cc)

pub eload_kind : (e : ℕ) → IsKind (is_eload_of e) (is_eload e) (begins_eload e)
eload_kind d = record { once = eload_once d; from = from; to = to }
  where
    is : (c q : Dispatch) → Some c ≡ Some q → is_eload_of d q.delivers ≡ true → is_eload_of d c.delivers ≡ true
    is c q e f = ap (λ (x : Dispatch). is_eload_of d x.delivers) (some_is c q e) ∙ f

    from : (es : List Entry) (k : ℕ) (x : Record) (q : Dispatch) → dispatch_begun es k x ≡ Some q → is_eload_of d q.delivers ≡ true → (is_eload d x ≡ true) × (begins_eload d x ≡ Some q.number)
    from es k (Eload p c) q e f = let same = is _ q e f in (same, gives_it (c == d) p q.number same (ap (λ (x : Dispatch). x.number) (some_is _ q e)))
    from es k (Dcl p c) q e f = absurd (let same = is _ q e f in cc)
    from es k (Load p c) q e f = absurd (let same = is _ q e f in cc)
    from es k (Fire p y n) q e f = absurd (let same = is _ q e f in cc)
    from es k (Wfire p c n) q e f = absurd (let same = is _ q e f in cc)
    from es k (Reply p r) q e f = absurd (let same = is _ q e f in cc)
    from es k (Inline p y n) q e f = absurd (let same = is _ q e f in cc)
    from es k _ q e f = absurd (cc)

    to : (es : List Entry) (k : ℕ) (x : Record) (p : ℕ) → begins_eload d x ≡ Some p → (begins x ≡ true) × (is_eload d x ≡ true) × (q : Dispatch) × (dispatch_begun es k x ≡ Some q) × (is_eload_of d q.delivers ≡ true) × (q.number ≡ p)
    to es k (Eload n c) p e = let is = given (c == d) n p e in (refl, is.0, record { number = n; begin = k; delivers = EloadOf c (first_to (makes_element c) es) }, refl, is.0, is.1)
    to es k _ p e = absurd (cc)

-- the close of the one that a look-up finds

abbrev pub close_found : List Record → Option ℕ → Option ℕ
close_found h None = None
close_found h (Some p) = close_event h p

pub newest_of_kind : (is : Delivery → Bool) (test : Record → Bool) (gives : Record → Option ℕ) → IsKind is test gives → (h : List Record) → IsNamed h → latest_of (close_found h (first_to gives h)) (told h).actions ≡ newest (closes is) (told h).actions
newest_of_kind is test gives kind h named = by (first_to gives h) refl
  where
    close_begun : (a : Action) → Among a (told h).actions → (q : Dispatch) → a.event.what ≡ CloseOf q → HasBegun (told h).actions q
    close_begun a among q close = served_begun h named a q among (serves_close _ q close)

    by : (o : Option ℕ) → first_to gives h ≡ o → latest_of (close_found h o) (told h).actions ≡ newest (closes is) (told h).actions
    by None e = sym (newest_none (closes is) (told h).actions (λ a among. no a among (closes is a.event) refl))
      where
        no : (a : Action) → Among a (told h).actions → (b : Bool) → closes is a.event ≡ b → closes is a.event ≡ false
        no a among false f = f
        no a among true f =
            let q = close_is is a f in
            let known = kind_known is test gives kind h named q.dispatch (close_begun a among q.dispatch q.is) q.passes in
            absurd (cc)
    by (Some p) e = newest_close h named p ∙ ap number_of (newest_same (is_close_of p) (closes is) (told h).actions agree)
      where
        agree : (a : Action) → Among a (told h).actions → is_close_of p a.event ≡ closes is a.event
        agree a among = same_test (is_close_of p a.event) (closes is a.event) to from
          where
            to : is_close_of p a.event ≡ true → closes is a.event ≡ true
            to f =
                let q = close_what p a.event f in
                let first = kind_begun is test gives kind h named p e in
                let one = same_dispatch h named first.dispatch q.0 (begin_begun h named first.action first.dispatch first.among first.begins) (close_begun a among q.0 q.1) (first.number ∙ sym q.2) in
                ap (λ w. closes is (event_with a.event.number w)) q.1 ∙ (ap (λ (d : Dispatch). is d.delivers) (sym one) ∙ first.passes)

            from : closes is a.event ≡ true → is_close_of p a.event ≡ true
            from f =
                let q = close_is is a f in
                let known = kind_known is test gives kind h named q.dispatch (close_begun a among q.dispatch q.is) q.passes in
                let same : q.dispatch.number ≡ p = some_is q.dispatch.number p (sym known ∙ e) in
                ap (λ w. is_close_of p (event_with a.event.number w)) q.is ∙ eq-eqb q.dispatch.number p same

pub newest_dcl_close : (h : List Record) → IsNamed h → (d : ℕ) → latest_of (close_found h (dcl_of h d)) (told h).actions ≡ newest (closes (is_dcl_of d)) (told h).actions
newest_dcl_close h named d = newest_of_kind (is_dcl_of d) (is_dcl d) (begins_dcl d) (dcl_kind d) h named

pub newest_load_close : (h : List Record) → IsNamed h → (d : ℕ) → latest_of (close_found h (load_of h d)) (told h).actions ≡ newest (closes (is_load_of d)) (told h).actions
newest_load_close h named d = newest_of_kind (is_load_of d) (is_load d) (begins_load d) (load_kind d) h named
