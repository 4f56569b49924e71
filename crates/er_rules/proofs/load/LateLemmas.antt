-- Which records lead back by the rules of loads, in a sound list.
use Rattle.std.proofs.Common.{◌≡◌, ℕ, ◌+◌, Bool, true, false, List, [], ◌∷◌, length, Option, Some, None, refl, sym, ap, ◌∙◌, arith, inl, inr}
use Rattle.std.specs.Prelude.{is_some, ◌==◌, ◌&&◌, ◌||◌, not, if◌then◌else◌}
use Rattle.std.specs.List.{list_any}
use Rattle.std.proofs.lemmas.Bool.{eqb-true, eq-eqb, ne_eqb}
use Rattle.er_trace.specs.declared.record.Record.{Record}
use Rattle.er_trace.specs.declared.record.Record.TheVariants.{Parse, ParseFrame, Exec, Dcl, Run, Close, Back}
use Rattle.er_paths.proofs.Paths.{or_cases, or_left, or_right}
use Rattle.er_history.specs.History.{Element, Dispatch, Delivery, DclOf, LoadOf, What, ScriptRun, ParseStep, BeginOf, Event, Action, Open, told, begins, first_to, maker_by, declares_document, what_begun, is_inline}
use Rattle.er_history.specs.Rules.{Rule, any_holds, is_dcl_of, load_rules, dcl_before_load}
use Rattle.er_history.specs.Edges.{path}
use Rattle.er_history.specs.Handed.{HasFamily}
use Rattle.er_history.specs.Kinds.{is_load_of}
use Rattle.er_history.specs.Laws.{Among}
use Rattle.er_history.specs.LookUps.{element_made, begins_dcl, begins_load, begins_eload}
use Rattle.er_history.specs.Naming.{IsNamed, is_dcl, is_load, is_eload}
use Rattle.er_history.proofs.HistoryLemmas.{same_test}
use Rattle.er_history.proofs.NamedLemmas.{none_holds, sound_lists_are_named}
use Rattle.er_history.proofs.OrderLemmas.{events_began, static_loads_never_back, inner_load_never_back, none_passes, any_same, any_under, any_either, not_both}
use Rattle.er_pieces.specs.Enough.{AreInOrder}
use Rattle.er_pieces.proofs.StackLemmas.{On, top_is, top_on}
use Rattle.er_pieces.proofs.StartsLemmas.{bound, bound_of, is_clear}
use Rattle.er_history.proofs.VersionLemmas.{load_asks_none}
use Rattle.er_pieces.proofs.InOrderLemmas.{not_late}
use Rattle.er_pieces.proofs.ChainLemmas.{event_with, one_holds}
use Rattle.er_pieces.proofs.RunLemmas.{same_event}
use Rattle.er_pieces.proofs.DispatchLemmas.{begin_begun, open_begun}
use Rattle.er_pieces.proofs.HandsLoad.{at_9}
use Rattle.er_pieces.proofs.ContractLemmas.{in_order}
use Rattle.er_pieces.proofs.DeliveryLemmas.{is_eload_of, IsKind, kind_begun, kind_known, dcl_kind, load_kind, eload_kind}
use Rattle.er_rules.specs.load.Against.{runs_before_dcl, has_dcl, has_load, has_eload, is_step_late, is_run_late, LateLoadsLeadBack}
use Rattle.er_rules.proofs.load.BackLemmas.{begins_a, behind_dcl, late_by, to_four, four_are}

-- where some action passes

any_found : (test : Action → Bool) (actions : List Action) → list_any test actions ≡ true → (a : Action) × Among a actions × (test a ≡ true)
any_found test [] e = absurd (cc)
any_found test (a ∷ older) e =
    elim (or_cases (test a) (list_any test older) e) [
      | inl here ↦ (a, inl refl, here)
      | inr deeper ↦ let found = any_found test older deeper in (found.0, inr found.1, found.2)
    ]

any_one : (test : Action → Bool) (actions : List Action) (a : Action) → Among a actions → test a ≡ true → list_any test actions ≡ true
any_one test [] a among e = absurd among
any_one test (b ∷ older) a (inl same) e = or_left (test b) (list_any test older) (sym (ap test same) ∙ e)
any_one test (b ∷ older) a (inr deeper) e = or_right (test b) (list_any test older) (any_one test older a deeper e)

-- A dispatch of a kind has begun exactly where the look-up finds one.

begins_what : (test : Delivery → Bool) (w : What) → begins_a test w ≡ true → (q : Dispatch) × (w ≡ BeginOf q) × (test q.delivers ≡ true)
begins_what test (BeginOf q) e = (q, refl, e)
begins_what test _ e = absurd (cc)

kind_has : (is : Delivery → Bool) (test : Record → Bool) (gives : Record → Option ℕ) → IsKind is test gives → (h : List Record) → IsNamed h
    → list_any (λ (i : Action). begins_a is i.event.what) (told h).actions ≡ is_some (first_to gives h)
kind_has is test gives kind h named = same_test _ _ to (λ e. from (first_to gives h) refl e)
  where
    to : list_any (λ (i : Action). begins_a is i.event.what) (told h).actions ≡ true → is_some (first_to gives h) ≡ true
    to e =
        let found = any_found (λ (i : Action). begins_a is i.event.what) (told h).actions e in
        let what = begins_what is found.0.event.what found.2 in
        ap is_some (kind_known is test gives kind h named what.0 (begin_begun h named found.0 what.0 found.1 what.1) what.2)

    from : (o : Option ℕ) → first_to gives h ≡ o → is_some (first_to gives h) ≡ true → list_any (λ (i : Action). begins_a is i.event.what) (told h).actions ≡ true
    from None same e = absurd (cc)
    from (Some p) same e =
        let first = kind_begun is test gives kind h named p same in
        any_one (λ (i : Action). begins_a is i.event.what) (told h).actions first.action first.among (ap (begins_a is) first.begins ∙ first.passes)

dcl_has : (h : List Record) → IsNamed h → (d : ℕ) → list_any (λ (i : Action). begins_a (is_dcl_of d) i.event.what) (told h).actions ≡ has_dcl h d
dcl_has h named d = kind_has (is_dcl_of d) (is_dcl d) (begins_dcl d) (dcl_kind d) h named

load_has : (h : List Record) → IsNamed h → (d : ℕ) → list_any (λ (i : Action). begins_a (is_load_of d) i.event.what) (told h).actions ≡ has_load h d
load_has h named d = kind_has (is_load_of d) (is_load d) (begins_load d) (load_kind d) h named

eload_has : (h : List Record) → IsNamed h → (e : ℕ) → list_any (λ (i : Action). begins_a (is_eload_of e) i.event.what) (told h).actions ≡ has_eload h e
eload_has h named e = kind_has (is_eload_of e) (is_eload e) (begins_eload e) (eload_kind e) h named

-- While DOMContentLoaded is open, load of the document has not begun.

not_inline : (d : ℕ) (p : Dispatch) → is_load_of d p.delivers ≡ true → is_inline p ≡ false
not_inline d p e = by p.delivers e
  where
    by : (y : Delivery) → is_load_of d y ≡ true → is_inline (record { number = p.number; begin = p.begin; delivers = y }) ≡ false
    by (LoadOf c m) e = refl
    by _ e = absurd (cc)

dcl_leads : (joined : ℕ → ℕ → Bool) (u v : Event) (p q : Dispatch) (d : ℕ) → u.what ≡ BeginOf p → v.what ≡ BeginOf q → is_dcl_of d p.delivers ≡ true → is_load_of d q.delivers ≡ true → dcl_before_load joined u v ≡ true
dcl_leads joined u v p q d first second is also =
    ap (λ w. dcl_before_load joined u (event_with v.number w)) second
    ∙ (ap (λ w. dcl_before_load joined (event_with u.number w) (event_with v.number (BeginOf q))) first ∙ by q.delivers also)
  where
    by : (y : Delivery) → is_load_of d y ≡ true → dcl_before_load joined (event_with u.number (BeginOf p)) (event_with v.number (BeginOf (record { number = q.number; begin = q.begin; delivers = y }))) ≡ true
    by (LoadOf c m) e = ap (λ n. is_dcl_of n p.delivers) (eqb-true c d e) ∙ is
    by _ e = absurd (cc)

two_kinds : (d : ℕ) (y : Delivery) → is_dcl_of d y ≡ true → is_load_of d y ≡ true → ⊥
two_kinds d (DclOf c m) e f = cc
two_kinds d _ e f = cc

no_load : (table : List (ℕ × Rule)) (h : List Record) → HasFamily table load_rules → IsNamed h → AreInOrder table h → (o : Open) → On o (told h).stack → (d : ℕ) → is_dcl_of d o.dispatch.delivers ≡ true → (i : Action) → Among i (told h).actions
    → begins_a (is_load_of d) i.event.what ≡ true → ⊥
no_load table h has named ordered o on d is i among e =
    let begun = open_begun h o on in
    let load = begins_what (is_load_of d) i.event.what e in
    let p : Dispatch = load.0 in
    let apart : begun.begin.event.number ≡ i.event.number → ⊥ = λ same. two begun.begin.event i.event p (same_event h begun.begin i begun.among among same) begun.is load.1 load.2 in
    let before = not_late table load_rules h has load_asks_none named ordered begun.begin i begun.among among (λ a b. false)
    (one_holds load_rules (λ a b. false) begun.begin.event i.event apart
    (at_9 (λ a b. false) begun.begin.event i.event (dcl_leads (λ a b. false) begun.begin.event i.event o.dispatch p d begun.is load.1 is load.2))) in
    let clear = is_clear h named i among in
    let none : bound i.event ≡ 0 = ap (λ w. bound_of i.event.number w) load.1 ∙ ap (λ b. if b then i.event.number + 1 else 0) (not_inline d p load.2) in
    elim (clear.opens o on) [
      | inl under ↦ omega (arith, under, none)
      | inr since ↦ omega (arith, since, before, begun.own)
    ]
  where
    two : (u v : Event) (p : Dispatch) → u ≡ v → u.what ≡ BeginOf o.dispatch → v.what ≡ BeginOf p → is_load_of d p.delivers ≡ true → ⊥
    two u v p same first second load =
        let both : BeginOf o.dispatch ≡ BeginOf p = sym first ∙ (ap (λ (e : Event). e.what) same ∙ second) in
        let one : o.dispatch ≡ p = cc in
        two_kinds d p.delivers (ap (λ (q : Dispatch). is_dcl_of d q.delivers) (sym one) ∙ is) load

none_behind : (table : List (ℕ × Rule)) (h : List Record) → HasFamily table load_rules → IsNamed h → AreInOrder table h → (o : Open) → On o (told h).stack → list_any (λ (i : Action). behind_dcl o.dispatch.delivers i.event.what) (told h).actions ≡ false
none_behind table h has named ordered o on = by o.dispatch.delivers refl
  where
    by : (y : Delivery) → o.dispatch.delivers ≡ y → list_any (λ (i : Action). behind_dcl y i.event.what) (told h).actions ≡ false
    by (DclOf d m) same = none_passes (λ (i : Action). begins_a (is_load_of d) i.event.what) (told h).actions (λ i among. of i among (begins_a (is_load_of d) i.event.what) refl)
      where
        of : (i : Action) → Among i (told h).actions → (b : Bool) → begins_a (is_load_of d) i.event.what ≡ b → begins_a (is_load_of d) i.event.what ≡ false
        of i among false e = e
        of i among true e = absurd (no_load table h has named ordered o on d (ap (is_dcl_of d) same ∙ eq-eqb d d refl) i among e)
    by _ same = none_passes (λ (i : Action). false) (told h).actions (λ i among. refl)

-- from a record's event

back_is : (h : List Record) (joined : ℕ → ℕ → Bool) (w : What) → list_any (λ (i : Action). any_holds load_rules joined (event_with (length (told h).actions) w) i.event) (told h).actions ≡ list_any (λ (i : Action). late_by w i.event.what) (told h).actions
back_is h joined w =
    let n = length (told h).actions in
    any_same (λ (i : Action). any_holds load_rules joined (event_with n w) i.event) (λ (i : Action). late_by w i.event.what) (told h).actions (λ i among.
    let began = events_began h i among in
    holds_apart n i.event.number (list_any (λ (r : ℕ × Rule). r.1 joined (event_with n w) i.event) load_rules) (λ e. omega (arith, e, began.0))
    ∙ (to_four joined (event_with n w) i.event (static_loads_never_back joined (event_with n w) i.event began) (inner_load_never_back joined (event_with n w) i.event began)
    ∙ four_are joined n i.event.number w i.event.what began.1))
  where
    holds_apart : (u n : ℕ) (b : Bool) → (u ≡ n → ⊥) → (not (u == n) && b) ≡ b
    holds_apart u n b apart = rw (ne_eqb u n apart) refl

step_leads : (h : List Record) → IsNamed h → (joined : ℕ → ℕ → Bool) (d : ℕ) (m : Option ℕ) → list_any (λ (i : Action). any_holds load_rules joined (event_with (length (told h).actions) (ParseStep d m)) i.event) (told h).actions ≡ is_step_late h d
step_leads h named joined d m =
    back_is h joined (ParseStep d m)
    ∙ (any_either (λ (i : Action). begins_a (is_dcl_of d) i.event.what) (λ (i : Action). begins_a (is_load_of d) i.event.what) (told h).actions ∙ (λ k. dcl_has h named d k || load_has h named d k))

run_leads : (h : List Record) → IsNamed h → (joined : ℕ → ℕ → Bool) (e : ℕ) (made : Option Element)
    → list_any (λ (i : Action). any_holds load_rules joined (event_with (length (told h).actions) (ScriptRun e made)) i.event) (told h).actions ≡ is_run_late h e made
run_leads h named joined e None = back_is h joined (ScriptRun e None) ∙ eload_has h named e
run_leads h named joined e (Some x) =
    let acts = (told h).actions in
    let dcl : Action → Bool = λ i. begins_a (is_dcl_of x.doc) i.event.what in
    let load : Action → Bool = λ i. begins_a (is_load_of x.doc) i.event.what in
    let eload : Action → Bool = λ i. begins_a (is_eload_of e) i.event.what in
    let early = runs_before_dcl x in
    back_is h joined (ScriptRun e (Some x))
    ∙ (any_either (λ i. (early && dcl i) || (x.is_static && load i)) eload acts
    ∙ (λ k. (any_either (λ i. early && dcl i) (λ i. x.is_static && load i) acts
    ∙ (λ k. (any_under early dcl acts ∙ ap (λ b. early && b) (dcl_has h named x.doc)) k || (any_under x.is_static load acts ∙ ap (λ b. x.is_static && b) (load_has h named x.doc)) k)) k || eload_has h named e k))

dcl_leads_back : (h : List Record) → IsNamed h → (joined : ℕ → ℕ → Bool) (p d : ℕ) (m : Option ℕ)
    → list_any (λ (i : Action). any_holds load_rules joined (event_with (length (told h).actions) (BeginOf (record { number = p; begin = length (told h).actions; delivers = DclOf d m }))) i.event) (told h).actions ≡ has_load h d
dcl_leads_back h named joined p d m = back_is h joined (BeginOf (record { number = p; begin = length (told h).actions; delivers = DclOf d m })) ∙ load_has h named d

serving_leads : (table : List (ℕ × Rule)) (h : List Record) → HasFamily table load_rules → IsNamed h → AreInOrder table h → (joined : ℕ → ℕ → Bool) (o : Open) → On o (told h).stack → (v : What) → ((z : What) → late_by v z ≡ behind_dcl o.dispatch.delivers z)
    → list_any (λ (i : Action). any_holds load_rules joined (event_with (length (told h).actions) v) i.event) (told h).actions ≡ false
serving_leads table h has named ordered joined o on v same =
    back_is h joined v ∙ (any_same (λ (i : Action). late_by v i.event.what) (λ (i : Action). behind_dcl o.dispatch.delivers i.event.what) (told h).actions (λ i among. same i.event.what) ∙ none_behind table h has named ordered o on)

pub late_loads_lead_back : LateLoadsLeadBack
late_loads_lead_back table h (Parse d e k) group sound is = step_leads h (sound_lists_are_named table h sound) (path table h) d (maker_by (declares_document d) (told h).entries)
late_loads_lead_back table h (ParseFrame d e f) group sound is = step_leads h (sound_lists_are_named table h sound) (path table h) d (maker_by (declares_document d) (told h).entries)
late_loads_lead_back table h (Exec e) group sound is = run_leads h (sound_lists_are_named table h sound) (path table h) e (element_made h e)
late_loads_lead_back table h (Dcl p d) group sound is = dcl_leads_back h (sound_lists_are_named table h sound) (path table h) p d (maker_by (declares_document d) (told h).entries)
late_loads_lead_back table h (Run p g x) group sound is =
    let top = top_is false p (told h).stack (none_holds h (Run p g x) is).placed in
    serving_leads table h group (sound_lists_are_named table h sound) (in_order table h sound) (path table h) top.top (top_on top) (what_begun (told h) (Run p g x)) (λ z. rw top.found refl)
late_loads_lead_back table h (Close p) group sound is =
    let top = top_is false p (told h).stack (none_holds h (Close p) is).placed in
    serving_leads table h group (sound_lists_are_named table h sound) (in_order table h sound) (path table h) top.top (top_on top) (what_begun (told h) (Close p)) (λ z. rw top.found refl)
late_loads_lead_back table h (Back p) group sound is = refl
late_loads_lead_back table h x group sound is =
    not_both (begins x) _ (back_is h (path table h) (what_begun (told h) x) ∙ none_passes (λ (i : Action). late_by (what_begun (told h) x) i.event.what) (told h).actions (λ i among. refl))
