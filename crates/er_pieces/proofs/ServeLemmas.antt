-- Paths within a dispatch: from its begin to its handlers and its close, and from a handler to a
-- later group and to the close. Lists of records stand newest first.
use Rattle.std.proofs.Common.{◌≡◌, ℕ, ◌+◌, ◌<◌, ◌≤◌, Bool, true, false, List, Option, refl, sym, ap, subst, ◌∙◌, arith}
use Rattle.std.specs.Prelude.{◌==◌}
use Rattle.std.proofs.lemmas.Bool.{eq-eqb}
use Rattle.er_trace.specs.declared.record.Record.{Record}
use Rattle.er_paths.proofs.Paths.{or_left, or_right}
use Rattle.er_history.specs.History.{Dispatch, What, BeginOf, HandlerOf, CloseOf, Event, Action, told}
use Rattle.er_history.specs.Rules.{Rule, dispatch_rules, target_before_dispatch, registered_before_run, dispatch_in_order}
use Rattle.er_history.specs.Edges.{path}
use Rattle.er_history.specs.Laws.{Among}
use Rattle.er_pieces.specs.Enough.{IsSteady}
use Rattle.er_history.proofs.HistoryLemmas.{told_before, event_before}
use Rattle.er_pieces.proofs.StackLemmas.{Serves}
use Rattle.er_pieces.proofs.StartsLemmas.{bound, bound_of}
use Rattle.er_history.proofs.VersionLemmas.{dispatch_asks_none}
use Rattle.er_pieces.proofs.InOrderLemmas.{Leads, not_late, rule_path}
use Rattle.er_pieces.proofs.PathLemmas.{both, less_is, ruled_path}
use Rattle.er_pieces.proofs.ChainLemmas.{event_with, one_holds}
use Rattle.er_pieces.proofs.RunLemmas.{same_event}
use Rattle.er_pieces.proofs.DispatchLemmas.{served_begun, begin_alone, same_dispatch}

-- actions of events that are not the same have events of two numbers
pub apart_by : (h : List Record) (a b : Action) → Among a (told h).actions → Among b (told h).actions → (a.event.what ≡ b.event.what → ⊥) → a.event.number ≡ b.event.number → ⊥
apart_by h a b first last other same = other (ap (λ (e : Event). e.what) (same_event h a b first last same))

-- rule 16 is one of the group
leads_in : (u v : Event) → (u.number ≡ v.number → ⊥) → ((joined : ℕ → ℕ → Bool) → dispatch_in_order joined u v ≡ true) → Leads dispatch_rules u v
leads_in u v apart holds joined =
    one_holds dispatch_rules joined u v apart (or_right (target_before_dispatch joined u v) _ (or_right (registered_before_run joined u v) _ (or_left (dispatch_in_order joined u v) _ (holds joined))))

-- the begin

begin_leads : (u v : Event) (d e : Dispatch) → (u.number ≡ v.number → ⊥) → u.what ≡ BeginOf d → Serves v.what e → d.number ≡ e.number → Leads dispatch_rules u v
begin_leads u v d e apart is serves same = leads_in u v apart (λ joined. ap (λ w. dispatch_in_order joined (event_with u.number w) v) is ∙ by joined v.what serves)
  where
    by : (joined : ℕ → ℕ → Bool) (z : What) → Serves z e → dispatch_in_order joined (event_with u.number (BeginOf d)) (event_with v.number z) ≡ true
    by joined (HandlerOf q g x m) serves = eq-eqb d.number q.number (same ∙ ap (λ (c : Dispatch). c.number) (sym serves))
    by joined (CloseOf q) serves = eq-eqb d.number q.number (same ∙ ap (λ (c : Dispatch). c.number) (sym serves))
    by joined _ serves = absurd serves

begin_apart : (h : List Record) (a b : Action) (d e : Dispatch) → Among a (told h).actions → Among b (told h).actions → a.event.what ≡ BeginOf d → Serves b.event.what e → a.event.number ≡ b.event.number → ⊥
begin_apart h a b d e first last is serves = apart_by h a b first last (λ same. by b.event.what serves (sym is ∙ same))
  where
    by : (z : What) → Serves z e → BeginOf d ≡ z → ⊥
    by (HandlerOf q g x m) serves same = cc
    by (CloseOf q) serves same = cc
    by _ serves same = absurd serves

-- a dispatch begins before what serves it
pub begin_first : (table : List (ℕ × Rule)) (h : List Record) → IsSteady table h → (b : Action) (e : Dispatch) → Among b (told h).actions → Serves b.event.what e → e.begin < b.event.number
begin_first table h steady b e among serves =
    let has = served_begun h steady.named b e among serves in
    let before = not_late table dispatch_rules h steady.has.dispatch dispatch_asks_none steady.named steady.ordered has.begin b has.among among (λ i j. false)
    (begin_leads has.begin.event b.event e e (begin_apart h has.begin b e e has.among among has.is serves) has.is serves refl (λ i j. false)) in
    omega (arith, before, has.own)

pub begin_path : (table : List (ℕ × Rule)) (h : List Record) → IsSteady table h → (a b : Action) (d e : Dispatch) → Among a (told h).actions → Among b (told h).actions → a.event.what ≡ BeginOf d → Serves b.event.what e → d.number ≡ e.number
    → path table h a.number b.number ≡ true
begin_path table h steady a b d e first last is serves same =
    let leads = begin_leads a.event b.event d e (begin_apart h a b d e first last is serves) is serves same in
    let before = not_late table dispatch_rules h steady.has.dispatch dispatch_asks_none steady.named steady.ordered a b first last (λ i j. false) (leads (λ i j. false)) in
    let alone = begin_alone h steady.named a d first is in
    let up = event_before (told h).actions b (told_before h) last in
    ruled_path table dispatch_rules h a b steady.has.dispatch first last (omega (arith, before, up.1, alone)) leads

-- a handler, before a handler of a greater group and before the close

pub serves_handler : (w : What) (d : Dispatch) (g x : ℕ) (m : Option ℕ) → w ≡ HandlerOf d g x m → Serves w d
serves_handler w d g x m is = subst (λ (z : What). Serves z d) (sym is) refl

pub serves_close : (w : What) (d : Dispatch) → w ≡ CloseOf d → Serves w d
serves_close w d is = subst (λ (z : What). Serves z d) (sym is) refl

-- what serves a dispatch is clear of what served it before
serving_clear : (table : List (ℕ × Rule)) (h : List Record) → IsSteady table h → (a b : Action) (d e : Dispatch) → Among a (told h).actions → Among b (told h).actions → Serves a.event.what d → Serves b.event.what e → d.number ≡ e.number
    → bound b.event ≤ a.event.number
serving_clear table h steady a b d e first last serves also same =
    let one = same_dispatch h steady.named d e (served_begun h steady.named a d first serves) (served_begun h steady.named b e last also) same in
    let at = ap (λ (c : Dispatch). c.begin) one in
    let after = begin_first table h steady a d first serves in
    let is = by b.event.what also in
    omega (arith, at, after, is)
  where
    by : (z : What) → Serves z e → bound_of b.event.number z ≡ e.begin + 1
    by (HandlerOf q g x m) serves = ap (λ (c : Dispatch). c.begin + 1) serves
    by (CloseOf q) serves = ap (λ (c : Dispatch). c.begin + 1) serves
    by _ serves = absurd serves

pub handler_to_close : (table : List (ℕ × Rule)) (h : List Record) → IsSteady table h → (a b : Action) (d e : Dispatch) (g x : ℕ) (m : Option ℕ) → Among a (told h).actions → Among b (told h).actions
    → a.event.what ≡ HandlerOf d g x m → b.event.what ≡ CloseOf e → d.number ≡ e.number → path table h a.number b.number ≡ true
handler_to_close table h steady a b d e g x m first last is also same =
    rule_path table dispatch_rules h steady steady.has.dispatch dispatch_asks_none a b first last
    (serving_clear table h steady a b d e first last (serves_handler _ d g x m is) (serves_close _ e also) same)
    (leads_in a.event b.event (apart_by h a b first last (λ one. two (sym is ∙ (one ∙ also)))) (λ joined.
    ap (λ w. dispatch_in_order joined (event_with a.event.number w) b.event) is
    ∙ (ap (λ w. dispatch_in_order joined (event_with a.event.number (HandlerOf d g x m)) (event_with b.event.number w)) also
    ∙ eq-eqb d.number e.number same)))
  where
    two : HandlerOf d g x m ≡ CloseOf e → ⊥
    two f = cc

pub handler_to_later : (table : List (ℕ × Rule)) (h : List Record) → IsSteady table h → (a b : Action) (d e : Dispatch) (g k x y : ℕ) (m l : Option ℕ) → Among a (told h).actions → Among b (told h).actions
    → a.event.what ≡ HandlerOf d g x m → b.event.what ≡ HandlerOf e k y l → d.number ≡ e.number → g < k → path table h a.number b.number ≡ true
handler_to_later table h steady a b d e g k x y m l first last is also same less =
    rule_path table dispatch_rules h steady steady.has.dispatch dispatch_asks_none a b first last
    (serving_clear table h steady a b d e first last (serves_handler _ d g x m is) (serves_handler _ e k y l also) same)
    (leads_in a.event b.event (apart_by h a b first last (λ one. two (sym is ∙ (one ∙ also)))) (λ joined.
    ap (λ w. dispatch_in_order joined (event_with a.event.number w) b.event) is
    ∙ (ap (λ w. dispatch_in_order joined (event_with a.event.number (HandlerOf d g x m)) (event_with b.event.number w)) also
    ∙ both (d.number == e.number) _ (eq-eqb d.number e.number same) (less_is g k less))))
  where
    two : HandlerOf d g x m ≡ HandlerOf e k y l → ⊥
    two f = let groups : g ≡ k = cc in omega (arith, groups, less)
