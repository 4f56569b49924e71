-- Proof that latest pieces suffice for the rules of loads. Lists of records stand newest first.
use Rattle.std.proofs.Common.{◌≡◌, ℕ, Bool, true, false, List, ◌++◌, length, Option, Some, None, refl, sym, ap, subst, ◌∙◌, inl, inr, ◌⊎◌, append_assoc}
use Rattle.std.specs.Prelude.{◌==◌}
use Rattle.std.proofs.lemmas.Bool.{eqb-true, eq-eqb}
use Rattle.er_trace.specs.declared.record.Record.{Record}
use Rattle.er_trace.specs.declared.record.Record.TheVariants.{Dcl, Load, Eload, Fire, Wfire, Reply, Inline, Run, Close, Back}
use Rattle.er_history.specs.History.{Form, Kinded, Framing, Element, Dispatch, Delivery, DclOf, LoadOf, EloadOf, FireAt, InlineAt, WindowFire, ReplyOf, What, ScriptRun, HandlerOf, CloseOf, Event, Action, told, what_begun, first_to, makes_element, maker_by, element_maker, declares_document, declares_request}
use Rattle.er_history.specs.Rules.{Rule, is_some_and, declared, is_blocking, is_deferred, is_dcl_of, load_rules}
use Rattle.er_history.specs.Edges.{path, up_to}
use Rattle.er_history.specs.Laws.{Among}
use Rattle.er_history.specs.Naming.{has_open}
use Rattle.er_history.specs.Latest.{newest, latest_of_event, latest_of_each}
use Rattle.er_history.specs.Kinds.{is_run_of, is_static_async, runs_element, closes, is_load_of, is_static_load_of}
use Rattle.er_pieces.specs.HandedPieces.{dcl_handed, inner_close, eload_handed}
use Rattle.er_pieces.specs.Enough.{IsSteady, EnoughLoad}
use Rattle.er_history.proofs.HistoryLemmas.{actions_are_numbered}
use Rattle.er_history.proofs.NamedLemmas.{none_holds}
use Rattle.er_pieces.proofs.StackLemmas.{Serves, run_serves, close_serves}
use Rattle.er_pieces.proofs.StartsLemmas.{none_open}
use Rattle.er_pieces.proofs.PathLemmas.{and_right, piece_path, Reaches, reach_left, reach_right, reach_latest, reach_each, reach_newest}
use Rattle.er_pieces.proofs.ChainLemmas.{event_with, back_enough}
use Rattle.er_pieces.proofs.OnceLemmas.{one_run}
use Rattle.er_pieces.proofs.StaticLemmas.{run_is}
use Rattle.er_pieces.proofs.ParsedLemmas.{reach_parsed}
use Rattle.er_pieces.proofs.DispatchLemmas.{HasBegun, served_begun, begin_begun, open_or_closed}
use Rattle.er_pieces.proofs.ServeLemmas.{begin_path, handler_to_close, serves_close}
use Rattle.er_pieces.proofs.ClosedLemmas.{close_is}
use Rattle.er_pieces.proofs.LoadLemmas.{same_dcl, same_load, reach_close, reach_some, ran_script, static_script, runs_as}
use Rattle.er_pieces.proofs.LoadRules.{IsOfDcl, is_load_in, to_load, IsBegin, only_begin}

-- DOMContentLoaded of the document, where no dispatch is open

reach_dcl : (table : List (ℕ × Rule)) (h : List Record) → IsSteady table h → has_open (told h).stack ≡ false → (d : ℕ) (i : Action) → Among i (told h).actions → IsOfDcl d i.event
    → Reaches (path table h) i.number (newest (closes (is_dcl_of d)) (told h).actions)
reach_dcl table h steady none d i among is =
    elim is.2 [
      | inl begin ↦ of_begun (begin_begun h steady.named i is.0 among begin) (λ a q other same close. begin_path table h steady i a is.0 q among other begin (serves_close _ q close) (ap (λ (c : Dispatch). c.number) same))
      | inr serves ↦ by i.event.what refl serves (served_begun h steady.named i is.0 among serves)
    ]
  where
    To : Type 0
    To = (a : Action) (q : Dispatch) → Among a (told h).actions → is.0 ≡ q → a.event.what ≡ CloseOf q → path table h i.number a.number ≡ true

    of_begun : HasBegun (told h).actions is.0 → To → Reaches (path table h) i.number (newest (closes (is_dcl_of d)) (told h).actions)
    of_begun begun to =
        elim (open_or_closed h steady.named is.0 begun) [
          | inl open_now ↦ absurd (none_open (told h).stack open_now.0 none open_now.1)
          | inr closed ↦ reach_some (path table h) (closes (is_dcl_of d)) (told h).actions i.number closed.close (actions_are_numbered h) closed.among (ap (λ w. closes (is_dcl_of d) (event_with closed.close.event.number w)) closed.is ∙ is.1)
              (λ a other f. let q = close_is (is_dcl_of d) a f in
              to a q.dispatch other (same_dcl h steady.named d is.0 q.dispatch begun (served_begun h steady.named a q.dispatch other (serves_close _ q.dispatch q.is)) is.1 q.passes) q.is)
        ]

    by : (w : What) → i.event.what ≡ w → Serves w is.0 → HasBegun (told h).actions is.0 → Reaches (path table h) i.number (newest (closes (is_dcl_of d)) (told h).actions)
    by (HandlerOf p g x m) what serves begun =
        of_begun begun (λ a q other same close. handler_to_close table h steady i a p q g x m among other what close (ap (λ (c : Dispatch). c.number) (serves ∙ same)))
    by (CloseOf p) what serves begun =
        reach_close table h steady (is_dcl_of d) (same_dcl h steady.named d) i among
        (ap (λ w. closes (is_dcl_of d) (event_with i.event.number w)) what ∙ (ap (λ (c : Dispatch). is_dcl_of d c.delivers) serves ∙ is.1))
    by _ what serves begun = absurd serves

-- a static script

reach_static : (table : List (ℕ × Rule)) (h : List Record) → IsSteady table h → (d : ℕ) (i : Action) → Among i (told h).actions → is_run_of (λ e. e.is_static) d i.event ≡ true
    → Reaches (path table h) i.number (dcl_handed (told h) d ++ latest_of_each (is_run_of is_static_async d) (told h).actions)
reach_static table h steady d i among e =
    let run = run_is h steady.named (λ x. x.is_static) d i among e in
    let parsed : List ℕ = dcl_handed (told h) d in
    let async : List ℕ = latest_of_each (is_run_of is_static_async d) (told h).actions in
    elim (static_script run.made run.passes (ran_script h steady.named i run.element (Some run.made) among run.is)) [
      | inl blocks ↦ reach_left (path table h) i.number parsed async (reach_parsed table h steady d i among (inr (inl (runs_as is_blocking d run.element run.made i.event run.is blocks run.doc))))
      | inr other ↦ elim other [
        | inl defers ↦ reach_left (path table h) i.number parsed async (reach_parsed table h steady d i among (inr (inr (runs_as is_deferred d run.element run.made i.event run.is defers run.doc))))
        | inr is_async ↦ reach_right (path table h) i.number parsed async (reach_each table h (is_run_of is_static_async d) i among (runs_as is_static_async d run.element run.made i.event run.is is_async run.doc))
      ]
    ]

-- the run of the element

run_of_element : (e : ℕ) (u : Event) → runs_element e u ≡ true → (m : Option Element) × (u.what ≡ ScriptRun e m)
run_of_element e u is = by u.what refl is
  where
    by : (w : What) → u.what ≡ w → runs_element e (event_with u.number w) ≡ true → (m : Option Element) × (u.what ≡ ScriptRun e m)
    by (ScriptRun f m) what is = (m, what ∙ ap (λ n. ScriptRun n m) (eqb-true f e is))
    by _ what is = absurd (cc)

reach_element : (table : List (ℕ × Rule)) (h : List Record) → IsSteady table h → (e : ℕ) (i : Action) → Among i (told h).actions → runs_element e i.event ≡ true → Reaches (path table h) i.number (newest (runs_element e) (told h).actions)
reach_element table h steady e i among is =
    reach_newest (path table h) (runs_element e) (told h).actions i (actions_are_numbered h) among is (λ a other f le.
    let p = run_of_element e i.event is in
    let q = run_of_element e a.event f in
    piece_path table h i a among other (ap (λ (u : Event). u.number) (one_run h steady.named i a e p.0 q.0 among other p.1 q.1)) le)

-- load of the inner document

pub closes_more : (f g : Delivery → Bool) (u : Event) → ((y : Delivery) → f y ≡ true → g y ≡ true) → closes f u ≡ true → closes g u ≡ true
closes_more f g u to e = by u.what e
  where
    by : (w : What) → closes f (event_with u.number w) ≡ true → closes g (event_with u.number w) ≡ true
    by (CloseOf p) e = to p.delivers e
    by _ e = absurd (cc)

reach_inner : (table : List (ℕ × Rule)) (h : List Record) → IsSteady table h → (x : Element) (i : Action) → Among i (told h).actions → closes (is_load_in (Some x)) i.event ≡ true → Reaches (path table h) i.number (inner_close (told h) x.form)
reach_inner table h steady x i among e = by x.form refl
  where
    load_in : (f : ℕ) → x.form ≡ Framing f → (y : Delivery) → is_load_in (Some x) y ≡ true → is_load_of f y ≡ true
    load_in f form (LoadOf g m) e = eq-eqb g f (sym (eqb-true f g (ap (λ (k : Form). declared k g) (sym form) ∙ e)))
    load_in f form _ e = absurd (cc)

    no_load : (k : _) → x.form ≡ Kinded k → (y : Delivery) → is_load_in (Some x) y ≡ true → is_load_of 0 y ≡ true
    no_load k form (LoadOf g m) e = absurd (let f = ap (λ (k : Form). declared k g) (sym form) ∙ e in cc)
    no_load k form _ e = absurd (cc)

    no_kind : (k : _) → x.form ≡ Kinded k → (w : What) → closes (is_load_in (Some x)) (event_with i.event.number w) ≡ true → ⊥
    no_kind k form (CloseOf p) e = of p.delivers e
      where
        of : (y : Delivery) → is_load_in (Some x) y ≡ true → ⊥
        of (LoadOf g m) e = absurd (let f = ap (λ (k : Form). declared k g) (sym form) ∙ e in cc)
        of _ e = cc
    no_kind k form _ e = cc

    by : (f : Form) → x.form ≡ f → Reaches (path table h) i.number (inner_close (told h) f)
    by (Framing f) form = reach_close table h steady (is_load_of f) (same_load h steady.named f) i among (closes_more (is_load_in (Some x)) (is_load_of f) i.event (load_in f form) e)
    by (Kinded k) form = absurd (no_kind k form i.event.what e)

-- to the first load event of an element
reach_eload : (table : List (ℕ × Rule)) (h : List Record) → IsSteady table h → (e : ℕ) (o : Option Element) (i : Action) → Among i (told h).actions
    → (is_some_and (λ x. x.maker == i.event.number) o ≡ true) ⊎ ((runs_element e i.event ≡ true) ⊎ (closes (is_load_in o) i.event ≡ true)) → Reaches (path table h) i.number (eload_handed (told h) e o)
reach_eload table h steady e None i among (inl maker) = absurd (cc)
reach_eload table h steady e None i among (inr (inl run)) = reach_element table h steady e i among run
reach_eload table h steady e None i among (inr (inr inner)) = absurd (none i.event.what inner)
  where
    of : (y : Delivery) → is_load_in None y ≡ true → ⊥
    of (LoadOf g m) e = cc
    of _ e = cc

    none : (w : What) → closes (is_load_in None) (event_with i.event.number w) ≡ true → ⊥
    none (CloseOf p) e = of p.delivers e
    none _ e = cc
reach_eload table h steady e (Some x) i among is =
    let acts = (told h).actions in
    let maker : List ℕ = latest_of_event x.maker acts in
    let run : List ℕ = newest (runs_element e) acts in
    let inner : List ℕ = inner_close (told h) x.form in
    elim is [
      | inl made ↦ reach_left (path table h) i.number (maker ++ run) inner (reach_left (path table h) i.number maker run (reach_latest table h i x.maker among (sym (eqb-true x.maker i.event.number made))))
      | inr rest ↦ elim rest [
        | inl runs ↦ reach_left (path table h) i.number (maker ++ run) inner (reach_right (path table h) i.number maker run (reach_element table h steady e i among runs))
        | inr loads ↦ reach_right (path table h) i.number (maker ++ run) inner (reach_inner table h steady x i among loads)
      ]
    ]

no_begin : (w : What) (d : Dispatch) → Serves w d → IsBegin w → ⊥
no_begin (HandlerOf p g x m) d serves is = is
no_begin (CloseOf p) d serves is = is
no_begin _ d serves is = serves

pub enough_load : EnoughLoad
enough_load table facts h (Dcl p d) steady named ordered = λ i among ruled.
    reach_parsed table h steady d i among (to_load (up_to (length (told h).actions) (path table h)) i.event (length (told h).actions) p (length (told h).actions) (DclOf d (maker_by (declares_document d) (told h).entries)) (and_right _ _ ruled))
enough_load table facts h (Load p d) steady named ordered = λ i among ruled.
    let acts = (told h).actions in
    let joined = path table h in
    let dcl : List ℕ = newest (closes (is_dcl_of d)) acts in
    let parsed : List ℕ = dcl_handed (told h) d in
    let async : List ℕ = latest_of_each (is_run_of is_static_async d) acts in
    let loads : List ℕ = latest_of_each (closes (is_static_load_of d)) acts in
    elim (to_load (up_to (length acts) (path table h)) i.event (length acts) p (length acts) (LoadOf d (maker_by (declares_document d) (told h).entries)) (and_right _ _ ruled)) [
      | inl of_dcl ↦ reach_left joined i.number (dcl ++ parsed ++ async) loads (reach_left joined i.number (dcl ++ parsed) async (reach_left joined i.number dcl parsed
          (reach_dcl table h steady (none_holds h (Load p d) named).placed d i among of_dcl)))
      | inr rest ↦ elim rest [
        | inl step ↦ reach_left joined i.number (dcl ++ parsed ++ async) loads (reach_left joined i.number (dcl ++ parsed) async (reach_right joined i.number dcl parsed (reach_parsed table h steady d i among (inl step))))
        | inr rest ↦ elim rest [
          | inl run ↦ reach_left joined i.number (dcl ++ parsed ++ async) loads (moved joined i.number dcl parsed async (reach_right joined i.number dcl (parsed ++ async) (reach_static table h steady d i among run)))
          | inr static ↦ reach_right joined i.number (dcl ++ parsed ++ async) loads (reach_each table h (closes (is_static_load_of d)) i among static)
        ]
      ]
    ]
  where
    moved : (joined : ℕ → ℕ → Bool) (n : ℕ) (ks ms ns : List ℕ) → Reaches joined n (ks ++ (ms ++ ns)) → Reaches joined n (ks ++ ms ++ ns)
    moved joined n ks ms ns e = subst (Reaches joined n) (sym (append_assoc ks ms ns)) e
enough_load table facts h (Eload p e) steady named ordered = λ i among ruled.
    reach_eload table h steady e (first_to (makes_element e) (told h).entries) i among
    (to_load (up_to (length (told h).actions) (path table h)) i.event (length (told h).actions) p (length (told h).actions) (EloadOf e (first_to (makes_element e) (told h).entries)) (and_right _ _ ruled))
enough_load table facts h (Back p) steady named ordered = λ i c among runs ruled. back_enough table load_rules h p facts steady.has.load steady named i c among runs ruled
enough_load table facts h (Run p g y) steady named ordered = λ i among ruled.
    let serves = run_serves h p g y (none_holds h (Run p g y) named).placed in
    absurd (no_begin (what_begun (told h) (Run p g y)) serves.0 serves.1 (only_begin (up_to (length (told h).actions) (path table h)) i.event (length (told h).actions) (what_begun (told h) (Run p g y)) (and_right _ _ ruled)))
enough_load table facts h (Close p) steady named ordered = λ i among ruled.
    let serves = close_serves h p (none_holds h (Close p) named).placed in
    absurd (no_begin (what_begun (told h) (Close p)) serves.0 serves.1 (only_begin (up_to (length (told h).actions) (path table h)) i.event (length (told h).actions) (what_begun (told h) (Close p)) (and_right _ _ ruled)))
enough_load table facts h (Fire p e n) steady named ordered = λ i among ruled. absurd (to_load (up_to (length (told h).actions) (path table h)) i.event (length (told h).actions) p (length (told h).actions) (FireAt e n (element_maker (told h).entries e)) (and_right _ _ ruled))
enough_load table facts h (Inline p e n) steady named ordered = λ i among ruled. absurd (to_load (up_to (length (told h).actions) (path table h)) i.event (length (told h).actions) p (length (told h).actions) (InlineAt e n (element_maker (told h).entries e)) (and_right _ _ ruled))
enough_load table facts h (Wfire p d n) steady named ordered = λ i among ruled. absurd (to_load (up_to (length (told h).actions) (path table h)) i.event (length (told h).actions) p (length (told h).actions) (WindowFire d n (maker_by (declares_document d) (told h).entries)) (and_right _ _ ruled))
enough_load table facts h (Reply p r) steady named ordered = λ i among ruled. absurd (to_load (up_to (length (told h).actions) (path table h)) i.event (length (told h).actions) p (length (told h).actions) (ReplyOf r (maker_by (declares_request r) (told h).entries)) (and_right _ _ ruled))
enough_load table facts h x steady named ordered = λ i among ruled.
    absurd (only_begin (up_to (length (told h).actions) (path table h)) i.event (length (told h).actions) (what_begun (told h) x) (and_right _ _ ruled))
