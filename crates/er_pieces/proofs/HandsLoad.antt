-- Proof of what the rules of loads hand. Lists of records stand newest first.
use Rattle.std.proofs.Common.{◌≡◌, ℕ, ◌<◌, Bool, true, false, List, [], ◌++◌, length, Option, Some, None, refl, sym, ap, ◌∙◌, arith}
use Rattle.std.specs.Prelude.{◌==◌, ◌||◌}
use Rattle.std.proofs.lemmas.Bool.{eqb-true, eq-eqb}
use Rattle.er_trace.specs.declared.record.Record.{Record}
use Rattle.er_trace.specs.declared.record.Record.TheVariants.{Dcl, Load, Eload}
use Rattle.er_paths.proofs.Paths.{or_left, or_right}
use Rattle.er_history.specs.History.{Form, Kinded, Framing, Element, Delivery, DclOf, LoadOf, EloadOf, Event, What, ParseStep, ScriptRun, CloseOf, Action, told, begins, action_begun, first_to, makes_element, maker_by, declares_document}
use Rattle.er_history.specs.Rules.{any_holds, recorded, is_some_and, declared, is_blocking, is_deferred, is_dcl_of, load_rules, parsed_before_dcl, dcl_before_load, parsed_before_load, static_loads_before_load, element_before_its_load, inner_load_before_frame_load}
use Rattle.er_history.specs.Edges.{path, is_ruled, up_to}
use Rattle.er_history.specs.Laws.{Among}
use Rattle.er_history.specs.Handed.{AreSources}
use Rattle.er_history.specs.Latest.{newest, latest_of_event, latest_of_each}
use Rattle.er_history.specs.Kinds.{is_step_of, is_run_of, is_static_async, runs_element, closes, is_load_of, is_static_load_of}
use Rattle.er_pieces.specs.HandedPieces.{dcl_handed, inner_close, eload_handed, load_handed}
use Rattle.er_pieces.specs.Hands.{HandsLoad}
use Rattle.er_history.proofs.HistoryLemmas.{and_left, told_before, event_below}
use Rattle.er_pieces.proofs.PathLemmas.{both, and_right, less_is}
use Rattle.er_pieces.proofs.ChainLemmas.{event_with, one_holds}
use Rattle.er_pieces.proofs.RunLemmas.{blocking_static, deferred_static}
use Rattle.er_pieces.proofs.LoadRules.{Holds, begin_with}
use Rattle.er_pieces.proofs.EnoughLoad.{enough_load}
use Rattle.er_pieces.proofs.SourceLemmas.{Each, each_none, each_both, each_newest, each_latest, each_event}

-- the places of the rules

pub at_9 : (joined : ℕ → ℕ → Bool) (u v : Event) → dcl_before_load joined u v ≡ true → Holds joined u v
at_9 joined u v e = or_right (parsed_before_dcl joined u v) _ (or_left (dcl_before_load joined u v) _ e)

pub at_10 : (joined : ℕ → ℕ → Bool) (u v : Event) → parsed_before_load joined u v ≡ true → Holds joined u v
at_10 joined u v e = or_right (parsed_before_dcl joined u v) _ (or_right (dcl_before_load joined u v) _ (or_left (parsed_before_load joined u v) _ e))

pub at_11 : (joined : ℕ → ℕ → Bool) (u v : Event) → static_loads_before_load joined u v ≡ true → Holds joined u v
at_11 joined u v e = or_right (parsed_before_dcl joined u v) _ (or_right (dcl_before_load joined u v) _ (or_right (parsed_before_load joined u v) _ (or_left (static_loads_before_load joined u v) _ e)))

pub at_12 : (joined : ℕ → ℕ → Bool) (u v : Event) → element_before_its_load joined u v ≡ true → Holds joined u v
at_12 joined u v e = or_right (parsed_before_dcl joined u v) _ (or_right (dcl_before_load joined u v) _ (or_right (parsed_before_load joined u v) _ (or_right (static_loads_before_load joined u v) _ (or_left (element_before_its_load joined u v) _ e))))

pub at_13 : (joined : ℕ → ℕ → Bool) (u v : Event) → inner_load_before_frame_load joined u v ≡ true → Holds joined u v
at_13 joined u v e = or_right (parsed_before_dcl joined u v) _ (or_right (dcl_before_load joined u v) _ (or_right (parsed_before_load joined u v) _ (or_right (static_loads_before_load joined u v) _ (or_right (element_before_its_load joined u v) _ (or_left (inner_load_before_frame_load joined u v) false e)))))

-- what leads to DOMContentLoaded and to load

step_to_dcl : (joined : ℕ → ℕ → Bool) (u : Event) (n p b d : ℕ) (m : Option ℕ) → is_step_of d u ≡ true → parsed_before_dcl joined u (begin_with n p b (DclOf d m)) ≡ true
step_to_dcl joined u n p b d m e = by u.what e
  where
    by : (w : What) → is_step_of d (event_with u.number w) ≡ true → parsed_before_dcl joined (event_with u.number w) (begin_with n p b (DclOf d m)) ≡ true
    by (ParseStep c k) e = e
    by _ e = absurd (cc)

run_to_dcl : (test : Element → Bool) → ((x : Element) → test x ≡ true → (is_blocking x || is_deferred x) ≡ true) → (joined : ℕ → ℕ → Bool) (u : Event) (n p b d : ℕ) (m : Option ℕ) → is_run_of test d u ≡ true
    → parsed_before_dcl joined u (begin_with n p b (DclOf d m)) ≡ true
run_to_dcl test counts joined u n p b d m e = by u.what e
  where
    by : (w : What) → is_run_of test d (event_with u.number w) ≡ true → parsed_before_dcl joined (event_with u.number w) (begin_with n p b (DclOf d m)) ≡ true
    by (ScriptRun s (Some x)) e = both (is_blocking x || is_deferred x) _ (counts x (and_left (test x) _ e)) (and_right (test x) _ e)
    by (ScriptRun s None) e = e
    by _ e = absurd (cc)

step_to_load : (joined : ℕ → ℕ → Bool) (u : Event) (n p b d : ℕ) (m : Option ℕ) → is_step_of d u ≡ true → parsed_before_load joined u (begin_with n p b (LoadOf d m)) ≡ true
step_to_load joined u n p b d m e = by u.what e
  where
    by : (w : What) → is_step_of d (event_with u.number w) ≡ true → parsed_before_load joined (event_with u.number w) (begin_with n p b (LoadOf d m)) ≡ true
    by (ParseStep c k) e = e
    by _ e = absurd (cc)

run_to_load : (test : Element → Bool) → ((x : Element) → test x ≡ true → x.is_static ≡ true) → (joined : ℕ → ℕ → Bool) (u : Event) (n p b d : ℕ) (m : Option ℕ) → is_run_of test d u ≡ true
    → parsed_before_load joined u (begin_with n p b (LoadOf d m)) ≡ true
run_to_load test static joined u n p b d m e = by u.what e
  where
    by : (w : What) → is_run_of test d (event_with u.number w) ≡ true → parsed_before_load joined (event_with u.number w) (begin_with n p b (LoadOf d m)) ≡ true
    by (ScriptRun s (Some x)) e = both x.is_static _ (static x (and_left (test x) _ e)) (and_right (test x) _ e)
    by (ScriptRun s None) e = e
    by _ e = absurd (cc)

async_static : (x : Element) → is_static_async x ≡ true → x.is_static ≡ true
async_static x e = and_left x.is_static _ e

dcl_to_load : (joined : ℕ → ℕ → Bool) (u : Event) (n p b d : ℕ) (m : Option ℕ) → closes (is_dcl_of d) u ≡ true → dcl_before_load joined u (begin_with n p b (LoadOf d m)) ≡ true
dcl_to_load joined u n p b d m e = by u.what e
  where
    by : (w : What) → closes (is_dcl_of d) (event_with u.number w) ≡ true → dcl_before_load joined (event_with u.number w) (begin_with n p b (LoadOf d m)) ≡ true
    by (CloseOf q) e = e
    by _ e = absurd (cc)

static_to_load : (joined : ℕ → ℕ → Bool) (u : Event) (n p b d : ℕ) (m : Option ℕ) → u.number < n → closes (is_static_load_of d) u ≡ true → static_loads_before_load joined u (begin_with n p b (LoadOf d m)) ≡ true
static_to_load joined u n p b d m below e = by u.what e
  where
    of : (k c : ℕ) (y : Delivery) → is_static_load_of d y ≡ true → static_loads_before_load joined (event_with u.number (CloseOf (record { number = k; begin = c; delivers = y }))) (begin_with n p b (LoadOf d m)) ≡ true
    of k c (EloadOf s made) e = both (recorded u (begin_with n p b (LoadOf d m))) _ (less_is u.number n below) e
    of k c _ e = absurd (cc)

    by : (w : What) → closes (is_static_load_of d) (event_with u.number w) ≡ true → static_loads_before_load joined (event_with u.number w) (begin_with n p b (LoadOf d m)) ≡ true
    by (CloseOf q) e = of q.number q.begin q.delivers e
    by _ e = absurd (cc)

-- what leads to the first load event of an element

run_to_eload : (joined : ℕ → ℕ → Bool) (u : Event) (n p b s : ℕ) (made : Option Element) → runs_element s u ≡ true → element_before_its_load joined u (begin_with n p b (EloadOf s made)) ≡ true
run_to_eload joined u n p b s made e = or_right (is_some_and (λ (x : Element). x.maker == u.number) made) _ e

inner_to_eload : (joined : ℕ → ℕ → Bool) (u : Event) (n p b s f : ℕ) (x : Element) → u.number < n → x.form ≡ Framing f → closes (is_load_of f) u ≡ true → inner_load_before_frame_load joined u (begin_with n p b (EloadOf s (Some x))) ≡ true
inner_to_eload joined u n p b s f x below form e = by u.what e
  where
    of : (k c : ℕ) (y : Delivery) → is_load_of f y ≡ true → inner_load_before_frame_load joined (event_with u.number (CloseOf (record { number = k; begin = c; delivers = y }))) (begin_with n p b (EloadOf s (Some x))) ≡ true
    of k c (LoadOf g m) e = both (recorded u (begin_with n p b (EloadOf s (Some x)))) _ (less_is u.number n below) (ap (λ (w : Form). declared w g) form ∙ eq-eqb f g (sym (eqb-true g f e)))
    of k c _ e = absurd (cc)

    by : (w : What) → closes (is_load_of f) (event_with u.number w) ≡ true → inner_load_before_frame_load joined (event_with u.number w) (begin_with n p b (EloadOf s (Some x))) ≡ true
    by (CloseOf q) e = of q.number q.begin q.delivers e
    by _ e = absurd (cc)

-- the sources

abbrev pub To : (ℕ → ℕ → Bool) → Event → Action → Type 0
To joined v i = any_holds load_rules joined i.event v ≡ true

holds : (h : List Record) (joined : ℕ → ℕ → Bool) (v : Event) → v.number ≡ length (told h).actions → (i : Action) → Among i (told h).actions → Holds joined i.event v → To joined v i
holds h joined v number i among e = one_holds load_rules joined i.event v (λ same. let below = event_below (told h).actions i (told_before h) among in absurd (omega (arith, same, below, number))) e

parsed_sources : (h : List Record) (joined : ℕ → ℕ → Bool) (v : Event) (d : ℕ) → v.number ≡ length (told h).actions
    → ((u : Event) → is_step_of d u ≡ true → Holds joined u v) → ((u : Event) → is_run_of is_blocking d u ≡ true → Holds joined u v) → ((u : Event) → is_run_of is_deferred d u ≡ true → Holds joined u v)
    → Each (To joined v) (told h).actions (dcl_handed (told h) d)
parsed_sources h joined v d number steps blocking deferred =
    let acts = (told h).actions in
    each_both (To joined v) acts (newest (is_step_of d) acts ++ newest (is_run_of is_blocking d) acts) (newest (is_run_of is_deferred d) acts)
    (each_both (To joined v) acts (newest (is_step_of d) acts) (newest (is_run_of is_blocking d) acts)
    (each_newest (To joined v) (is_step_of d) acts (λ i among e. holds h joined v number i among (steps i.event e)))
    (each_newest (To joined v) (is_run_of is_blocking d) acts (λ i among e. holds h joined v number i among (blocking i.event e))))
    (each_newest (To joined v) (is_run_of is_deferred d) acts (λ i among e. holds h joined v number i among (deferred i.event e)))

dcl_sources : (h : List Record) (joined : ℕ → ℕ → Bool) (p d : ℕ) (m : Option ℕ) → Each (To joined (begin_with (length (told h).actions) p (length (told h).actions) (DclOf d m))) (told h).actions (dcl_handed (told h) d)
dcl_sources h joined p d m =
    let n = length (told h).actions in
    let v : Event = begin_with n p n (DclOf d m) in
    parsed_sources h joined v d refl
    (λ u e. or_left (parsed_before_dcl joined u v) _ (step_to_dcl joined u n p n d m e))
    (λ u e. or_left (parsed_before_dcl joined u v) _ (run_to_dcl is_blocking (λ x is. or_left (is_blocking x) _ is) joined u n p n d m e))
    (λ u e. or_left (parsed_before_dcl joined u v) _ (run_to_dcl is_deferred (λ x is. or_right (is_blocking x) _ is) joined u n p n d m e))

loads_sources : (h : List Record) (joined : ℕ → ℕ → Bool) (p d : ℕ) (m : Option ℕ) → Each (To joined (begin_with (length (told h).actions) p (length (told h).actions) (LoadOf d m))) (told h).actions
    (newest (closes (is_dcl_of d)) (told h).actions ++ dcl_handed (told h) d ++ latest_of_each (is_run_of is_static_async d) (told h).actions ++ latest_of_each (closes (is_static_load_of d)) (told h).actions)
loads_sources h joined p d m =
    let acts = (told h).actions in
    let n = length acts in
    let v : Event = begin_with n p n (LoadOf d m) in
    let S : Action → Type 0 = To joined v in
    let dcl : List ℕ = newest (closes (is_dcl_of d)) acts in
    let parsed : List ℕ = dcl_handed (told h) d in
    let async : List ℕ = latest_of_each (is_run_of is_static_async d) acts in
    let loads : List ℕ = latest_of_each (closes (is_static_load_of d)) acts in
    each_both S acts (dcl ++ parsed ++ async) loads
    (each_both S acts (dcl ++ parsed) async
    (each_both S acts dcl parsed
    (each_newest S (closes (is_dcl_of d)) acts (λ i among e. holds h joined v refl i among (at_9 joined i.event v (dcl_to_load joined i.event n p n d m e))))
    (parsed_sources h joined v d refl
    (λ u e. at_10 joined u v (step_to_load joined u n p n d m e))
    (λ u e. at_10 joined u v (run_to_load is_blocking blocking_static joined u n p n d m e))
    (λ u e. at_10 joined u v (run_to_load is_deferred deferred_static joined u n p n d m e))))
    (each_event S (is_run_of is_static_async d) h (λ i among e. holds h joined v refl i among (at_10 joined i.event v (run_to_load is_static_async async_static joined i.event n p n d m e)))))
    (each_event S (closes (is_static_load_of d)) h (λ i among e. holds h joined v refl i among (at_11 joined i.event v (static_to_load joined i.event n p n d m (event_below acts i (told_before h) among) e))))

eload_sources : (h : List Record) (joined : ℕ → ℕ → Bool) (p s : ℕ) (o : Option Element) → Each (To joined (begin_with (length (told h).actions) p (length (told h).actions) (EloadOf s o))) (told h).actions (eload_handed (told h) s o)
eload_sources h joined p s None =
    let acts = (told h).actions in
    let n = length acts in
    let v : Event = begin_with n p n (EloadOf s None) in
    each_newest (To joined v) (runs_element s) acts (λ i among e. holds h joined v refl i among (at_12 joined i.event v (run_to_eload joined i.event n p n s None e)))
eload_sources h joined p s (Some x) =
    each_both (To joined v) acts (latest_of_event x.maker acts ++ newest (runs_element s) acts) (inner_close (told h) x.form)
    (each_both (To joined v) acts (latest_of_event x.maker acts) (newest (runs_element s) acts)
    (each_latest (To joined v) x.maker acts (λ i among same. holds h joined v refl i among (at_12 joined i.event v (or_left (x.maker == i.event.number) _ (eq-eqb x.maker i.event.number (sym same))))))
    (each_newest (To joined v) (runs_element s) acts (λ i among e. holds h joined v refl i among (at_12 joined i.event v (run_to_eload joined i.event (length (told h).actions) p (length (told h).actions) s (Some x) e)))))
    (by x.form refl)
  where
    acts : List Action
    acts = (told h).actions

    v : Event
    v = begin_with (length (told h).actions) p (length (told h).actions) (EloadOf s (Some x))

    by : (f : Form) → x.form ≡ f → Each (To joined v) acts (inner_close (told h) f)
    by (Kinded k) form = each_none (To joined v) acts
    by (Framing f) form = each_newest (To joined v) (closes (is_load_of f)) acts (λ i among e.
        holds h joined v refl i among (at_13 joined i.event v (inner_to_eload joined i.event (length (told h).actions) p (length (told h).actions) s f x (event_below acts i (told_before h) among) form e)))

load_sources : (h : List Record) (x : Record) (joined : ℕ → ℕ → Bool) → AreSources load_rules joined (told h) x (load_handed (told h) x)
load_sources h (Dcl p d) joined = dcl_sources h (up_to (length (told h).actions) joined) p d (maker_by (declares_document d) (told h).entries)
load_sources h (Load p d) joined = loads_sources h (up_to (length (told h).actions) joined) p d (maker_by (declares_document d) (told h).entries)
load_sources h (Eload p s) joined = eload_sources h (up_to (length (told h).actions) joined) p s (first_to (makes_element s) (told h).entries)
load_sources h x joined = each_none (λ i. is_ruled load_rules joined i (action_begun (told h) x) ≡ true) (told h).actions

load_none : (h : List Record) (x : Record) → begins x ≡ false → load_handed (told h) x ≡ []
load_none h (Dcl p d) b = absurd (cc)
load_none h (Load p d) b = absurd (cc)
load_none h (Eload p e) b = absurd (cc)
load_none h _ b = refl

pub hands_load : HandsLoad
hands_load table facts h x steady named ordered = record {
  sources = load_sources h x (path table h);
  enough = enough_load table facts h x steady named ordered;
  none = load_none h x;
}
