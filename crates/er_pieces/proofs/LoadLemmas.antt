-- What the proof on loads stands on: one DOMContentLoaded and one load of a document, and the kinds
-- of static scripts that run. Lists of records stand newest first.
use Rattle.std.proofs.Common.{◌≡◌, ℕ, ◌≤◌, Bool, true, false, List, [], ◌∷◌, Option, Some, refl, sym, ap, subst, ◌∙◌, inl, inr, ◌⊎◌}
use Rattle.std.specs.List.{list_any}
use Rattle.std.proofs.lemmas.Bool.{eqb-true, eq-eqb}
use Rattle.er_trace.specs.declared.record.Record.{Record}
use Rattle.er_trace.specs.declared.record.Record.TheVariants.{Exec, Run, Close, Back}
use Rattle.er_trace.specs.declared.record.Kind.TheVariants as kinds
use Rattle.er_paths.proofs.Paths.{or_left}
use Rattle.er_history.specs.History.{Form, Kinded, Framing, Element, Dispatch, Delivery, DclOf, LoadOf, What, ScriptRun, BeginOf, HandlerOf, CloseOf, Event, Action, told, what_begun, event_begun, first_to, makes_element}
use Rattle.er_history.specs.Rules.{Rule, is_blocking, is_deferred, is_dcl_of}
use Rattle.er_history.specs.Edges.{path}
use Rattle.er_history.specs.Laws.{Among, IsNumbered}
use Rattle.er_history.specs.Naming.{IsNamed, is_script, is_dcl, is_load}
use Rattle.er_history.specs.Latest.{number_of, newest}
use Rattle.er_history.specs.Kinds.{is_run_of, is_static_async, closes, is_load_of}
use Rattle.er_pieces.specs.Enough.{IsSteady}
use Rattle.er_history.proofs.HistoryLemmas.{actions_are_numbered}
use Rattle.er_history.proofs.NamedLemmas.{NoneHolds, none_holds}
use Rattle.er_history.proofs.DeclaredLemmas.{is_known}
use Rattle.er_pieces.proofs.StackLemmas.{Serves, run_serves, close_serves}
use Rattle.er_pieces.proofs.CallerLemmas.{among_cases, resumed}
use Rattle.er_pieces.proofs.PathLemmas.{both, piece_path, Reaches, reach_newest, newest_is}
use Rattle.er_pieces.proofs.ChainLemmas.{event_with}
use Rattle.er_pieces.proofs.OnceLemmas.{BegunBy, DeliveredBy, first_begun, one_event, dcl_once, load_once}
use Rattle.er_pieces.proofs.DispatchLemmas.{HasBegun, served_begun}
use Rattle.er_pieces.proofs.CloseLemmas.{one_close}
use Rattle.er_pieces.proofs.ServeLemmas.{serves_close}
use Rattle.er_pieces.proofs.ClosedLemmas.{close_is}

-- one of a document

same_begun : (h : List Record) (d e : Dispatch) (first : HasBegun (told h).actions d) (second : HasBegun (told h).actions e) → first.begin.event ≡ second.begin.event → d ≡ e
same_begun h d e first second same =
    let both : BeginOf d ≡ BeginOf e = sym first.is ∙ (ap (λ (u : Event). u.what) same ∙ second.is) in
    cc

delivers_dcl : (d : ℕ) (x : Record) (y : Delivery) → is_dcl_of d y ≡ true → DeliveredBy y x → is_dcl d x ≡ true
delivers_dcl d x (DclOf c m) e by = subst (λ n. is_dcl n x ≡ true) (eqb-true c d e) by
delivers_dcl d x _ e by = absurd (cc)

delivers_load : (d : ℕ) (x : Record) (y : Delivery) → is_load_of d y ≡ true → DeliveredBy y x → is_load d x ≡ true
delivers_load d x (LoadOf c m) e by = subst (λ n. is_load n x ≡ true) (eqb-true c d e) by
delivers_load d x _ e by = absurd (cc)

pub same_dcl : (h : List Record) → IsNamed h → (c : ℕ) (d e : Dispatch) → HasBegun (told h).actions d → HasBegun (told h).actions e → is_dcl_of c d.delivers ≡ true → is_dcl_of c e.delivers ≡ true → d ≡ e
same_dcl h named c d e first second is also =
    let p = first_begun h named first.begin first.among in
    let q = first_begun h named second.begin second.among in
    same_begun h d e first second (one_event (is_dcl c) (dcl_once c) h named first.begin second.begin p q
    (delivers_dcl c p.first.begin d.delivers is (subst (λ (w : What). BegunBy w p.first.begin) first.is p.begun).1)
    (delivers_dcl c q.first.begin e.delivers also (subst (λ (w : What). BegunBy w q.first.begin) second.is q.begun).1))

pub same_load : (h : List Record) → IsNamed h → (c : ℕ) (d e : Dispatch) → HasBegun (told h).actions d → HasBegun (told h).actions e → is_load_of c d.delivers ≡ true → is_load_of c e.delivers ≡ true → d ≡ e
same_load h named c d e first second is also =
    let p = first_begun h named first.begin first.among in
    let q = first_begun h named second.begin second.among in
    same_begun h d e first second (one_event (is_load c) (load_once c) h named first.begin second.begin p q
    (delivers_load c p.first.begin d.delivers is (subst (λ (w : What). BegunBy w p.first.begin) first.is p.begun).1)
    (delivers_load c q.first.begin e.delivers also (subst (λ (w : What). BegunBy w q.first.begin) second.is q.begun).1))

-- where no two dispatches pass, a piece of the close of one reaches the latest
pub reach_close : (table : List (ℕ × Rule)) (h : List Record) → IsSteady table h → (test : Delivery → Bool)
    → ((d e : Dispatch) → HasBegun (told h).actions d → HasBegun (told h).actions e → test d.delivers ≡ true → test e.delivers ≡ true → d ≡ e)
    → (i : Action) → Among i (told h).actions → closes test i.event ≡ true → Reaches (path table h) i.number (newest (closes test) (told h).actions)
reach_close table h steady test one i among e =
    reach_newest (path table h) (closes test) (told h).actions i (actions_are_numbered h) among e (λ a other f le. to a other f le)
  where
    to : (a : Action) → Among a (told h).actions → closes test a.event ≡ true → i.number ≤ a.number → path table h i.number a.number ≡ true
    to a other f le =
        let p = close_is test i e in
        let q = close_is test a f in
        let same = one p.dispatch q.dispatch (served_begun h steady.named i p.dispatch among (serves_close _ p.dispatch p.is)) (served_begun h steady.named a q.dispatch other (serves_close _ q.dispatch q.is)) p.passes q.passes in
        let event = one_close h steady.named i a p.dispatch q.dispatch among other p.is q.is (ap (λ (d : Dispatch). d.number) same) in
        piece_path table h i a among other (ap (λ (u : Event). u.number) event) le

-- where some action passes, each that has a path to all that pass reaches the newest
pub reach_some : (joined : ℕ → ℕ → Bool) (test : Event → Bool) (actions : List Action) (n : ℕ) (c : Action) → IsNumbered actions → Among c actions → test c.event ≡ true
    → ((a : Action) → Among a actions → test a.event ≡ true → joined n a.number ≡ true) → Reaches joined n (newest test actions)
reach_some joined test actions n c numbered among e to =
    let is = newest_is test actions c numbered among e in
    ap (λ o. list_any (λ k. joined n k) (number_of o)) is.found ∙ or_left (joined n is.action.number) false (to is.action is.among is.passes)

-- what runs is a script

pub ran_script : (h : List Record) → IsNamed h → (a : Action) (e : ℕ) (m : Option Element) → Among a (told h).actions → a.event.what ≡ ScriptRun e m → is_script m ≡ true
ran_script [] named a e m among is = absurd among
ran_script (x ∷ h) named a e m among is =
    let none = none_holds h x named.0 in
    elim (among_cases h x a among) [
      | inl now ↦ newest x none (ap (λ (c : Action). c.event.what) (sym now.1) ∙ is) (ran_script h named.1)
      | inr older ↦ ran_script h named.1 a e m older is
    ]
  where
    Rest : Type 0
    Rest = (a : Action) (e : ℕ) (m : Option Element) → Among a (told h).actions → a.event.what ≡ ScriptRun e m → is_script m ≡ true

    serving : (w : What) (d : Dispatch) → Serves w d → w ≡ ScriptRun e m → ⊥
    serving (HandlerOf p g y l) d serves is = cc
    serving (CloseOf p) d serves is = cc
    serving _ d serves is = serves

    newest : (x : Record) → NoneHolds h x → (event_begun (told h) x).what ≡ ScriptRun e m → Rest → is_script m ≡ true
    newest (Exec y) none is rest =
        let same : first_to (makes_element y) (told h).entries ≡ m = cc in
        subst (λ o. is_script o ≡ true) same (is_known _ none.script)
    newest (Back p) none is rest =
        let back = resumed h p named.1 none.placed in
        rest back.caller.piece e m back.caller.among (ap (λ (u : Event). u.what) (sym back.event) ∙ is)
    newest (Run p g y) none is rest = let serves = run_serves h p g y none.placed in absurd (serving (what_begun (told h) (Run p g y)) serves.0 serves.1 is)
    newest (Close p) none is rest = let serves = close_serves h p none.placed in absurd (serving (what_begun (told h) (Close p)) serves.0 serves.1 is)
    newest _ none is rest = absurd (cc)

-- a static script is blocking, deferred or async
pub static_script : (x : Element) → x.is_static ≡ true → is_script (Some x) ≡ true → (is_blocking x ≡ true) ⊎ ((is_deferred x ≡ true) ⊎ (is_static_async x ≡ true))
static_script x static script = by x.form script
  where
    with : Form → Element
    with f = record { doc = x.doc; form = f; is_static = x.is_static; maker = x.maker; piece = x.piece }

    by : (f : Form) → is_script (Some (with f)) ≡ true → (is_blocking (with f) ≡ true) ⊎ ((is_deferred (with f) ≡ true) ⊎ (is_static_async (with f) ≡ true))
    by (Kinded kinds.Inline) script = inl (both x.is_static true static refl)
    by (Kinded kinds.Sync) script = inl (both x.is_static true static refl)
    by (Kinded kinds.Defer) script = inr (inl (both x.is_static true static refl))
    by (Kinded kinds.Async) script = inr (inr (both x.is_static true static refl))
    by (Kinded kinds.Plain) script = absurd (cc)
    by (Kinded kinds.Image) script = absurd (cc)
    by (Framing f) script = absurd (cc)

pub runs_as : (test : Element → Bool) (d e : ℕ) (x : Element) (u : Event) → u.what ≡ ScriptRun e (Some x) → test x ≡ true → x.doc ≡ d → is_run_of test d u ≡ true
runs_as test d e x u is passes doc = ap (λ w. is_run_of test d (event_with u.number w)) is ∙ both (test x) _ passes (eq-eqb x.doc d doc)
