-- What begins once: the record that began an event, and events that only one record may begin.
-- Lists of records stand newest first.
use Rattle.std.proofs.Common.{◌≡◌, ℕ, Bool, true, false, List, [], ◌∷◌, length, Option, refl, sym, ap, subst, ◌∙◌, arith, inl, inr}
use Rattle.std.specs.List.{list_any}
use Rattle.std.proofs.lemmas.Bool.{eqb-true, eq-eqb}
use Rattle.er_trace.specs.declared.record.Record.{Record}
use Rattle.er_trace.specs.declared.record.Record.TheVariants.{Exec, Dcl, Load, Eload, Fire, Wfire, Reply, Inline, Run, Close, Back}
use Rattle.er_paths.proofs.Paths.{or_left, or_right}
use Rattle.er_history.specs.History.{Delivery, DclOf, LoadOf, InlineAt, What, ScriptRun, BeginOf, CloseOf, Event, Action, told, what_begun, event_begun}
use Rattle.er_history.specs.Laws.{Among}
use Rattle.er_history.specs.Naming.{IsNamed, misplaced, again, runs_script, begins_dispatch, is_dcl, is_load}
use Rattle.er_history.specs.Unfinished.{begins_close}
use Rattle.er_history.proofs.HistoryLemmas.{told_before, event_before, events_have_first_pieces}
use Rattle.er_history.proofs.NamedLemmas.{none_holds}
use Rattle.er_history.proofs.DeclaredLemmas.{or_none}
use Rattle.er_history.proofs.UnfinishedLemmas.{clash}
use Rattle.er_pieces.proofs.StackLemmas.{top_is}
use Rattle.er_pieces.proofs.CallerLemmas.{among_cases, event_is}

-- the record of an action is one of the list
pub begun_in : (test : Record → Bool) (h : List Record) (a : Action) → Among a (told h).actions → test a.begin ≡ true → list_any test h ≡ true
begun_in test [] a among e = absurd among
begun_in test (x ∷ h) a among e =
    elim (among_cases h x a among) [
      | inl now ↦ or_left (test x) (list_any test h) (ap (λ (c : Action). test c.begin) (sym now.1) ∙ e)
      | inr older ↦ or_right (test x) (list_any test h) (begun_in test h a older e)
    ]

-- naming refuses a second record that passes
abbrev pub IsOnce : (Record → Bool) → Type 0
IsOnce test = (h : List Record) (x : Record) → again h x ≡ false → test x ≡ true → list_any test h ≡ false

-- so one action at most is begun by one
pub begun_once : (test : Record → Bool) → IsOnce test → (h : List Record) → IsNamed h → (a b : Action) → Among a (told h).actions → Among b (told h).actions → test a.begin ≡ true → test b.begin ≡ true → a ≡ b
begun_once test once [] named a b first second e f = absurd first
begun_once test once (x ∷ h) named a b first second e f =
    let new = (none_holds h x named.0).new in
    elim (among_cases h x a first) [
      | inl now ↦ elim (among_cases h x b second) [
        | inl other ↦ now.1 ∙ sym other.1
        | inr older ↦ absurd (clash (list_any test h) (once h x new (ap (λ (c : Action). test c.begin) (sym now.1) ∙ e)) (begun_in test h b older f))
      ]
      | inr earlier ↦ elim (among_cases h x b second) [
        | inl now ↦ absurd (clash (list_any test h) (once h x new (ap (λ (c : Action). test c.begin) (sym now.1) ∙ f)) (begun_in test h a earlier e))
        | inr older ↦ begun_once test once h named.1 a b earlier older e f
      ]
    ]

-- the forms that begin once

pub run_once : (e : ℕ) → IsOnce (runs_script e)
run_once e h (Exec y) new is = subst (λ n. list_any (runs_script n) h ≡ false) (eqb-true y e is) new
run_once e h _ new is = absurd (cc)

pub dcl_once : (d : ℕ) → IsOnce (is_dcl d)
dcl_once d h (Dcl p c) new is = subst (λ n. list_any (is_dcl n) h ≡ false) (eqb-true c d is) (or_none _ _ new).1
dcl_once d h _ new is = absurd (cc)

pub load_once : (d : ℕ) → IsOnce (is_load d)
load_once d h (Load p c) new is = subst (λ n. list_any (is_load n) h ≡ false) (eqb-true c d is) (or_none _ _ new).1
load_once d h _ new is = absurd (cc)

pub dispatch_once : (q : ℕ) → IsOnce (begins_dispatch q)
dispatch_once q h (Dcl p c) new is = subst (λ n. list_any (begins_dispatch n) h ≡ false) (eqb-true p q is) (or_none _ _ new).0
dispatch_once q h (Load p c) new is = subst (λ n. list_any (begins_dispatch n) h ≡ false) (eqb-true p q is) (or_none _ _ new).0
dispatch_once q h (Eload p y) new is = subst (λ n. list_any (begins_dispatch n) h ≡ false) (eqb-true p q is) (or_none _ _ new).0
dispatch_once q h (Fire p y n) new is = subst (λ n. list_any (begins_dispatch n) h ≡ false) (eqb-true p q is) new
dispatch_once q h (Wfire p c n) new is = subst (λ n. list_any (begins_dispatch n) h ≡ false) (eqb-true p q is) new
dispatch_once q h (Reply p r) new is = subst (λ n. list_any (begins_dispatch n) h ≡ false) (eqb-true p q is) new
dispatch_once q h (Inline p y n) new is = subst (λ n. list_any (begins_dispatch n) h ≡ false) (eqb-true p q is) new
dispatch_once q h _ new is = absurd (cc)

-- what record began an event

-- it begins an inline dispatch
abbrev pub calls : Record → Bool
calls (Inline p e n) = true
calls _ = false

abbrev pub DeliveredBy : Delivery → Record → Type 0
DeliveredBy (DclOf d m) x = is_dcl d x ≡ true
DeliveredBy (LoadOf d m) x = is_load d x ≡ true
DeliveredBy (InlineAt e n m) x = calls x ≡ true
DeliveredBy _ x = Unit {0}

abbrev pub BegunBy : What → Record → Type 0
BegunBy (ScriptRun e made) x = runs_script e x ≡ true
BegunBy (BeginOf d) x = (begins_dispatch d.number x ≡ true) × DeliveredBy d.delivers x
BegunBy (CloseOf d) x = begins_close d.number x ≡ true
BegunBy _ x = Unit {0}

begun_now : (h : List Record) (x : Record) → misplaced (told h) x ≡ false → BegunBy (what_begun (told h) x) x
begun_now h (Exec e) placed = eq-eqb e e refl
begun_now h (Dcl p d) placed = (eq-eqb p p refl, eq-eqb d d refl)
begun_now h (Load p d) placed = (eq-eqb p p refl, eq-eqb d d refl)
begun_now h (Eload p y) placed = (eq-eqb p p refl, tt)
begun_now h (Fire p y n) placed = (eq-eqb p p refl, tt)
begun_now h (Wfire p d n) placed = (eq-eqb p p refl, tt)
begun_now h (Reply p r) placed = (eq-eqb p p refl, tt)
begun_now h (Inline p y n) placed = (eq-eqb p p refl, refl)
begun_now h (Run p g y) placed = let is = top_is false p (told h).stack placed in rw is.found tt
begun_now h (Close p) placed = let is = top_is false p (told h).stack placed in rw is.found (eq-eqb p is.top.dispatch.number (sym is.number))
begun_now h _ placed = tt

pub begun_by : (h : List Record) → IsNamed h → (a : Action) → Among a (told h).actions → a.event.number ≡ a.number → BegunBy a.event.what a.begin
begun_by [] named a among own = absurd among
begun_by (x ∷ h) named a among own =
    let placed = (none_holds h x named.0).placed in
    elim (among_cases h x a among) [
      | inl now ↦ subst (λ (c : Action). BegunBy c.event.what c.begin) (sym now.1) (newest x placed (subst (λ (c : Action). c.event.number ≡ c.number) now.1 own))
      | inr older ↦ begun_by h named.1 a older own
    ]
  where
    newest : (x : Record) → misplaced (told h) x ≡ false → (event_begun (told h) x).number ≡ length (told h).actions → BegunBy (event_begun (told h) x).what x
    newest (Back p) placed own =
        elim (event_is h (Back p) named.1 placed) [
          | inl new ↦ absurd (let f = new.0 in cc)
          | inr back ↦
              let event : (event_begun (told h) (Back p)).number ≡ back.2.caller.piece.event.number = ap (λ (y : Record). (event_begun (told h) y).number) back.1 ∙ ap (λ (e : Event). e.number) back.2.event in
              let up = event_before (told h).actions back.2.caller.piece (told_before h) back.2.caller.among in
              absurd (omega (arith, event, own, up.0, up.1))
        ]
    newest x placed own = begun_now h x placed

-- the first piece of the event of an action, with the record that began it
pub record FirstBegun (h : List Record) (a : Action) : Type 0 where
  pub first : Action
  pub among : Among first (told h).actions
  pub number : first.number ≡ a.event.number
  pub event : first.event ≡ a.event
  pub begun : BegunBy a.event.what first.begin

pub first_begun : (h : List Record) → IsNamed h → (a : Action) → Among a (told h).actions → FirstBegun h a
first_begun h named a among =
    let is = events_have_first_pieces h a among in
    record {
      first = is.0;
      among = is.1;
      number = is.2;
      event = is.3;
      begun = subst (λ (e : Event). BegunBy e.what is.0.begin) is.3 (begun_by h named is.0 is.1 (ap (λ (e : Event). e.number) is.3 ∙ sym is.2));
    }

-- two actions whose events a record of one form began are pieces of one event
pub one_event : (test : Record → Bool) → IsOnce test → (h : List Record) → IsNamed h → (a b : Action) → (first : FirstBegun h a) → (second : FirstBegun h b) → test first.first.begin ≡ true → test second.first.begin ≡ true
    → a.event ≡ b.event
one_event test once h named a b first second e f =
    let same = begun_once test once h named first.first second.first first.among second.among e f in
    sym first.event ∙ (ap (λ (c : Action). c.event) same ∙ second.event)

-- one event runs a script
pub one_run : (h : List Record) → IsNamed h → (a b : Action) (e : ℕ) (m k : Option _) → Among a (told h).actions → Among b (told h).actions → a.event.what ≡ ScriptRun e m → b.event.what ≡ ScriptRun e k → a.event ≡ b.event
one_run h named a b e m k among other is also =
    let first = first_begun h named a among in
    let second = first_begun h named b other in
    one_event (runs_script e) (run_once e) h named a b first second (subst (λ (w : What). BegunBy w first.first.begin) is first.begun) (subst (λ (w : What). BegunBy w second.first.begin) also second.begun)
