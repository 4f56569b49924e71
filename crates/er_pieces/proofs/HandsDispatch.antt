-- Proof that what the rules of dispatches hand has an edge to the new piece. Lists of records stand
-- newest first.
use Rattle.std.proofs.Common.{◌≡◌, ℕ, ◌+◌, ◌<◌, Bool, true, false, List, [], ◌∷◌, ◌++◌, length, Option, Some, None, refl, sym, ap, subst, ◌∙◌, arith, inl, inr}
use Rattle.std.specs.Prelude.{◌==◌, ◌&&◌, ◌||◌, nat_lt, if◌then◌else◌}
use Rattle.std.proofs.lemmas.Bool.{eqb-true, eq-eqb}
use Rattle.er_trace.specs.declared.record.Record.{Record}
use Rattle.er_trace.specs.declared.record.Record.TheVariants.{Dcl, Load, Fire, Wfire, Inline, Run, Close, Back}
use Rattle.er_paths.proofs.Paths.{or_left, or_right}
use Rattle.er_history.specs.History.{Dispatch, is_inline, Delivery, FireAt, InlineAt, WindowFire, Event, What, BeginOf, HandlerOf, CloseOf, Action, told, action_begun, maker_by, element_maker, declares_document, declares_handler, running}
use Rattle.er_history.specs.Rules.{recorded, made_by, same_target, dispatch_rules, target_before_dispatch, registered_before_run, dispatch_in_order, dispatches_of_one_type_in_order}
use Rattle.er_history.specs.Edges.{around_inline, of_one_event, is_ruled, up_to}
use Rattle.er_history.specs.Laws.{Among, IsNumbered}
use Rattle.er_history.specs.Latest.{number_of, newest, latest_of}
use Rattle.er_history.specs.Kinds.{closes, is_begin_of, is_handler_of}
use Rattle.er_history.specs.Latest.{greater, group_of, greatest_group}
use Rattle.er_pieces.specs.HandedPieces.{runs_or_begin, group_handed}
use Rattle.er_pieces.specs.Hands.{DispatchHandsSources, DispatchHandsNothing}
use Rattle.er_history.proofs.HistoryLemmas.{actions_are_numbered, told_before, event_below}
use Rattle.er_history.proofs.NamedLemmas.{none_holds}
use Rattle.er_pieces.proofs.StackLemmas.{top_is}
use Rattle.er_pieces.proofs.CallerLemmas.{resumed}
use Rattle.er_pieces.proofs.PathLemmas.{both, less_is}
use Rattle.er_pieces.proofs.ChainLemmas.{event_with, one_holds}
use Rattle.er_pieces.proofs.LevelLemmas.{what_of, close_runs}
use Rattle.er_pieces.proofs.DispatchRules.{Holds, Ran}
use Rattle.er_pieces.proofs.GroupLemmas.{handler_is, begin_is}
use Rattle.er_pieces.proofs.SourceLemmas.{Each, each_none, each_both, each_newest, each_made, each_event, each_running}

-- an edge of the group, or between pieces
abbrev pub Edged : (ℕ → ℕ → Bool) → Action → Action → Type 0
Edged joined b i = (is_ruled dispatch_rules joined i b || (around_inline i b || of_one_event i b)) ≡ true

-- a rule of the group makes one
ruled : (h : List Record) (joined : ℕ → ℕ → Bool) (b : Action) → b.event.number ≡ length (told h).actions → (i : Action) → Among i (told h).actions → Holds (up_to b.event.number joined) i.event b.event → Edged joined b i
ruled h joined b new i among e =
    or_left (is_ruled dispatch_rules joined i b) _ (one_holds dispatch_rules (up_to b.event.number joined) i.event b.event (λ same. let below = event_below (told h).actions i (told_before h) among in absurd (omega (arith, same, below, new))) e)

at_14 : (joined : ℕ → ℕ → Bool) (u v : Event) → target_before_dispatch joined u v ≡ true → Holds joined u v
at_14 joined u v e = or_left (target_before_dispatch joined u v) _ e

at_15 : (joined : ℕ → ℕ → Bool) (u v : Event) → registered_before_run joined u v ≡ true → Holds joined u v
at_15 joined u v e = or_right (target_before_dispatch joined u v) _ (or_left (registered_before_run joined u v) _ e)

at_16 : (joined : ℕ → ℕ → Bool) (u v : Event) → dispatch_in_order joined u v ≡ true → Holds joined u v
at_16 joined u v e = or_right (target_before_dispatch joined u v) _ (or_right (registered_before_run joined u v) _ (or_left (dispatch_in_order joined u v) _ e))

at_17 : (joined : ℕ → ℕ → Bool) (u v : Event) → dispatches_of_one_type_in_order joined u v ≡ true → Holds joined u v
at_17 joined u v e = or_right (target_before_dispatch joined u v) _ (or_right (registered_before_run joined u v) _ (or_right (dispatch_in_order joined u v) _ (or_left (dispatches_of_one_type_in_order joined u v) false e)))

-- closes of the same target and type

like_leads : (joined : ℕ → ℕ → Bool) (u : Event) (n : ℕ) (q : Dispatch) (z : Delivery) → u.number < n → ((y : Delivery) → same_target y z ≡ true → same_target y q.delivers ≡ true) → closes (λ y. same_target y z) u ≡ true
    → dispatches_of_one_type_in_order joined u (event_with n (BeginOf q)) ≡ true
like_leads joined u n q z below to e = by u.what e
  where
    by : (w : What) → closes (λ y. same_target y z) (event_with u.number w) ≡ true → dispatches_of_one_type_in_order joined (event_with u.number w) (event_with n (BeginOf q)) ≡ true
    by (CloseOf p) e = both (recorded u (event_with n (BeginOf q))) _ (less_is u.number n below) (to p.delivers e)
    by _ e = absurd (cc)

fire_as : (e : ℕ) (n : List ℕ) (m : Option ℕ) (y : Delivery) → same_target y (FireAt e n None) ≡ true → same_target y (FireAt e n m) ≡ true
fire_as e n m (FireAt f k l) is = is
fire_as e n m (InlineAt f k l) is = is
fire_as e n m _ is = absurd (cc)

inline_as : (e : ℕ) (n : List ℕ) (m : Option ℕ) (y : Delivery) → same_target y (FireAt e n None) ≡ true → same_target y (InlineAt e n m) ≡ true
inline_as e n m (FireAt f k l) is = is
inline_as e n m (InlineAt f k l) is = is
inline_as e n m _ is = absurd (cc)

window_as : (d : ℕ) (n : List ℕ) (m : Option ℕ) (y : Delivery) → same_target y (WindowFire d n None) ≡ true → same_target y (WindowFire d n m) ≡ true
window_as d n m (WindowFire f k l) is = is
window_as d n m _ is = absurd (cc)

-- the greatest group passes

group_passes : (p g : ℕ) (test : ℕ → Bool) (w : What) → group_of p test w ≡ Some g → test g ≡ true
group_passes p g test (HandlerOf q k x m) e = of (q.number == p) (test k) refl e
  where
    of : (b c : Bool) → test k ≡ c → (if b && c then Some k else None) ≡ Some g → test g ≡ true
    of true true t e = let same : k ≡ g = cc in ap test (sym same) ∙ t
    of true false t e = absurd (cc)
    of false c t e = absurd (cc)
group_passes p g test _ e = absurd (cc)

greatest_passes : (p g : ℕ) (test : ℕ → Bool) (actions : List Action) → greatest_group p test actions ≡ Some g → test g ≡ true
greatest_passes p g test [] e = absurd (cc)
greatest_passes p g test (a ∷ older) e = step (group_of p test a.event.what) (greatest_group p test older) refl (λ k f. greatest_passes p k test older f) e
  where
    step : (o r : Option ℕ) → group_of p test a.event.what ≡ o → ((k : ℕ) → r ≡ Some k → test k ≡ true) → greater o r ≡ Some g → test g ≡ true
    step None r is rest e = rest g e
    step (Some k) None is rest e = group_passes p g test a.event.what (is ∙ e)
    step (Some k) (Some j) is rest e = of (nat_lt k j) e
      where
        of : (b : Bool) → (if b then Some j else Some k) ≡ Some g → test g ≡ true
        of true e = rest g e
        of false e = group_passes p g test a.event.what (is ∙ e)

-- so all that a group hands ran in the dispatch
group_ran : (h : List Record) (S : Action → Type 0) (p : ℕ) (test : ℕ → Bool) → ((i : Action) → Among i (told h).actions → Ran p test i.event → S i) → Each S (told h).actions (group_handed p test (told h).actions)
group_ran h S p test from = by (greatest_group p test (told h).actions) refl
  where
    by : (o : Option ℕ) → greatest_group p test (told h).actions ≡ o → Each S (told h).actions (runs_or_begin p (told h).actions o)
    by None found = each_newest S (is_begin_of p) (told h).actions (λ i among e. from i among (inl e))
    by (Some g) found = each_event S (is_handler_of p (λ k. k == g)) h (λ i among e.
        let one = handler_is p (λ k. k == g) i.event e in
        let passes = ap test (eqb-true one.group g one.passes) ∙ greatest_passes p g test (told h).actions found in
        from i among (inr (ap (λ w. is_handler_of p test (event_with i.event.number w)) one.is ∙ both (one.dispatch.number == p) _ (eq-eqb one.dispatch.number p one.number) passes)))

-- what ran leads on

ran_to_run : (joined : ℕ → ℕ → Bool) (u : Event) (n p g x : ℕ) (d : Dispatch) (m : Option ℕ) → d.number ≡ p → Ran p (λ k. nat_lt k g) u → dispatch_in_order joined u (event_with n (HandlerOf d g x m)) ≡ true
ran_to_run joined u n p g x d m same (inl begin) =
    let is = begin_is p u begin in
    ap (λ w. dispatch_in_order joined (event_with u.number w) (event_with n (HandlerOf d g x m))) is.1 ∙ eq-eqb is.0.number d.number (is.2 ∙ sym same)
ran_to_run joined u n p g x d m same (inr run) =
    let is = handler_is p (λ k. nat_lt k g) u run in
    ap (λ w. dispatch_in_order joined (event_with u.number w) (event_with n (HandlerOf d g x m))) is.is ∙ both (is.dispatch.number == d.number) _ (eq-eqb is.dispatch.number d.number (is.number ∙ sym same)) is.passes

ran_to_close : (joined : ℕ → ℕ → Bool) (u : Event) (n p : ℕ) (d : Dispatch) → d.number ≡ p → Ran p (λ k. true) u → dispatch_in_order joined u (event_with n (CloseOf d)) ≡ true
ran_to_close joined u n p d same (inl begin) =
    let is = begin_is p u begin in
    ap (λ w. dispatch_in_order joined (event_with u.number w) (event_with n (CloseOf d))) is.1 ∙ eq-eqb is.0.number d.number (is.2 ∙ sym same)
ran_to_close joined u n p d same (inr run) =
    let is = handler_is p (λ k. true) u run in
    ap (λ w. dispatch_in_order joined (event_with u.number w) (event_with n (CloseOf d))) is.is ∙ eq-eqb is.dispatch.number d.number (is.number ∙ sym same)

-- a begin with its maker and the closes before it
begin_sources : (h : List Record) (joined : ℕ → ℕ → Bool) (b : Action) (q : Dispatch) (z : Delivery) (m : Option ℕ) → b.event ≡ event_with (length (told h).actions) (BeginOf q)
    → ((u : Event) → made_by m u ≡ true → target_before_dispatch (up_to b.event.number joined) u b.event ≡ true) → ((y : Delivery) → same_target y z ≡ true → same_target y q.delivers ≡ true)
    → Each (Edged joined b) (told h).actions (latest_of m (told h).actions ++ newest (closes (λ y. same_target y z)) (told h).actions)
begin_sources h joined b q z m event made like =
    let acts = (told h).actions in
    let j = up_to b.event.number joined in
    let new : b.event.number ≡ length acts = ap (λ (v : Event). v.number) event in
    each_both (Edged joined b) acts (latest_of m acts) (newest (closes (λ y. same_target y z)) acts)
    (each_made (Edged joined b) m acts (λ i among e. ruled h joined b new i among (at_14 j i.event b.event (made i.event e))))
    (each_newest (Edged joined b) (closes (λ y. same_target y z)) acts (λ i among e. ruled h joined b new i among (at_17 j i.event b.event
    (subst (λ (v : Event). dispatches_of_one_type_in_order j i.event v ≡ true) (sym event) (like_leads j i.event (length acts) q z (event_below acts i (told_before h) among) like e)))))

document_sources : (h : List Record) (joined : ℕ → ℕ → Bool) (b : Action) (m : Option ℕ) → b.event.number ≡ length (told h).actions
    → ((u : Event) → made_by m u ≡ true → target_before_dispatch (up_to b.event.number joined) u b.event ≡ true) → Each (Edged joined b) (told h).actions (latest_of m (told h).actions)
document_sources h joined b m new made = each_made (Edged joined b) m (told h).actions (λ i among e. ruled h joined b new i among (at_14 (up_to b.event.number joined) i.event b.event (made i.event e)))

run_last : (actions : List Action) (a : Action) → IsNumbered actions → running actions ≡ Some a → a.number + 1 ≡ length actions
run_last [] a numbered e = absurd (cc)
run_last (b ∷ older) a numbered e = let same : b ≡ a = cc in let at = ap (λ (c : Action). c.number) same in let n = numbered.0 in omega (arith, at, n)

pub dispatch_hands_sources : DispatchHandsSources
dispatch_hands_sources table h (Fire p e n) joined steady named =
    begin_sources h joined (action_begun (told h) (Fire p e n)) _ (FireAt e n None) (element_maker (told h).entries e) refl (λ u made. made) (fire_as e n (element_maker (told h).entries e))
dispatch_hands_sources table h (Wfire p d n) joined steady named =
    begin_sources h joined (action_begun (told h) (Wfire p d n)) _ (WindowFire d n None) (maker_by (declares_document d) (told h).entries) refl (λ u made. made) (window_as d n (maker_by (declares_document d) (told h).entries))
dispatch_hands_sources table h (Inline p e n) joined steady named =
    let acts = (told h).actions in
    let b : Action = action_begun (told h) (Inline p e n) in
    let m = element_maker (told h).entries e in
    each_both (Edged joined b) acts (latest_of m acts ++ newest (closes (λ y. same_target y (FireAt e n None))) acts) (number_of (running acts))
    (begin_sources h joined b _ (FireAt e n None) m refl (λ u made. made) (inline_as e n m))
    (each_running (Edged joined b) acts (λ i runs among. or_right (is_ruled dispatch_rules joined i b) _ (or_left (around_inline i b) _ (eq-eqb (i.number + 1) (length acts) (run_last acts i (actions_are_numbered h) runs)))))
dispatch_hands_sources table h (Dcl p d) joined steady named = document_sources h joined (action_begun (told h) (Dcl p d)) (maker_by (declares_document d) (told h).entries) refl (λ u made. made)
dispatch_hands_sources table h (Load p d) joined steady named = document_sources h joined (action_begun (told h) (Load p d)) (maker_by (declares_document d) (told h).entries) refl (λ u made. made)
dispatch_hands_sources table h (Run p g x) joined steady named =
    let acts = (told h).actions in
    let m = maker_by (declares_handler x) (told h).entries in
    let b : Action = action_begun (told h) (Run p g x) in
    let top = top_is false p (told h).stack (none_holds h (Run p g x) named).placed in
    let event : b.event ≡ event_with (length acts) (HandlerOf top.top.dispatch g x m) = rw top.found refl in
    let j = up_to (length acts) joined in
    each_both (Edged joined b) acts (latest_of m acts) (group_handed p (λ k. nat_lt k g) acts)
    (each_made (Edged joined b) m acts (λ i among e. ruled h joined b refl i among (at_15 j i.event b.event (subst (λ (v : Event). registered_before_run j i.event v ≡ true) (sym event) e))))
    (group_ran h (Edged joined b) p (λ k. nat_lt k g) (λ i among ran. ruled h joined b refl i among (at_16 j i.event b.event
    (subst (λ (v : Event). dispatch_in_order j i.event v ≡ true) (sym event) (ran_to_run j i.event (length acts) p g x top.top.dispatch m top.number ran)))))
dispatch_hands_sources table h (Close p) joined steady named =
    let acts = (told h).actions in
    let b : Action = action_begun (told h) (Close p) in
    let top = top_is false p (told h).stack (none_holds h (Close p) named).placed in
    let event : b.event ≡ event_with (length acts) (CloseOf top.top.dispatch) = rw top.found refl in
    let j = up_to (length acts) joined in
    group_ran h (Edged joined b) p (λ k. true) (λ i among ran. ruled h joined b refl i among (at_16 j i.event b.event
    (subst (λ (v : Event). dispatch_in_order j i.event v ≡ true) (sym event) (ran_to_close j i.event (length acts) p top.top.dispatch top.number ran))))
dispatch_hands_sources table h (Back p) joined steady named =
    let acts = (told h).actions in
    let b : Action = action_begun (told h) (Back p) in
    let back = resumed h p steady.named (none_holds h (Back p) named).placed in
    each_running (Edged joined b) acts (λ i runs among. or_right (is_ruled dispatch_rules joined i b) _ (or_left (around_inline i b) _
    (closes_it i b back.on_top.top.dispatch (ap what_of (sym runs) ∙ close_runs h steady.named p back.on_top) back.inline back.on_top.number)))
  where
    closes_it : (i b : Action) (d : Dispatch) → i.event.what ≡ CloseOf d → is_inline d ≡ true → d.number ≡ p → around_inline i (record { number = b.number; begin = Back p; event = b.event }) ≡ true
    closes_it i b d is inline number =
        ap (λ w. around_inline (record { number = i.number; begin = i.begin; event = record { number = i.event.number; what = w } }) (record { number = b.number; begin = Back p; event = b.event })) is
        ∙ both (is_inline d) _ inline (eq-eqb d.number p number)
dispatch_hands_sources table h x joined steady named = each_none (Edged joined (action_begun (told h) x)) (told h).actions

pub dispatch_hands_nothing : DispatchHandsNothing
dispatch_hands_nothing h (Fire p e n) b = absurd (cc)
dispatch_hands_nothing h (Inline p e n) b = absurd (cc)
dispatch_hands_nothing h (Wfire p d n) b = absurd (cc)
dispatch_hands_nothing h (Dcl p d) b = absurd (cc)
dispatch_hands_nothing h (Load p d) b = absurd (cc)
dispatch_hands_nothing h (Run p g x) b = absurd (cc)
dispatch_hands_nothing h (Close p) b = absurd (cc)
dispatch_hands_nothing h (Back p) b = absurd (cc)
dispatch_hands_nothing h _ b = refl
