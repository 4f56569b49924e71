-- Proof that a handler is late exactly where one of a greater group of its dispatch has run, and no
-- other record is. Lists of records stand newest first.
use Rattle.std.proofs.Common.{◌≡◌, ℕ, Bool, true, false, List, [], ◌∷◌, length, Option, Some, None, refl, sym, ap, ◌∙◌, arith}
use Rattle.std.specs.Prelude.{◌==◌, ◌&&◌, ◌||◌, not, nat_lt, if◌then◌else◌}
use Rattle.std.specs.List.{list_any}
use Rattle.std.proofs.lemmas.Bool.{ne_eqb}
use Rattle.std.proofs.lemmas.Bool.Decides.{nat_tests}
use Rattle.er_trace.specs.declared.record.Record.{Record}
use Rattle.er_trace.specs.declared.record.Record.TheVariants.{Dcl, Load, Eload, Fire, Wfire, Reply, Inline, Run, Close, Back}
use Rattle.er_history.specs.History.{Dispatch, What, BeginOf, HandlerOf, CloseOf, Event, Action, told, begins, maker_by, declares_handler, dispatch_begun, what_begun}
use Rattle.er_history.specs.Rules.{Rule, any_holds, dispatch_rules, target_before_dispatch, registered_before_run, dispatch_in_order, dispatches_of_one_type_in_order}
use Rattle.er_history.specs.Edges.{path}
use Rattle.er_history.specs.Laws.{Among}
use Rattle.er_history.specs.Naming.{naming, IsNamed}
use Rattle.er_history.specs.Latest.{greater, group_of, greatest_group}
use Rattle.er_history.specs.Sound.{leads_back}
use Rattle.er_history.proofs.NamedLemmas.{NoneHolds, none_holds}
use Rattle.er_history.proofs.OrderLemmas.{events_began, target_never_back, registered_never_back, dispatches_never_back, none_passes, any_same, not_both}
use Rattle.er_history.proofs.UnfinishedLemmas.{clash}
use Rattle.er_pieces.proofs.StackLemmas.{Top, top_is, top_on}
use Rattle.er_pieces.proofs.ChainLemmas.{event_with}
use Rattle.er_pieces.proofs.DispatchLemmas.{served_begun}
use Rattle.er_pieces.proofs.CloseLemmas.{gone, not_again}
use Rattle.er_pieces.proofs.ServeLemmas.{serves_handler, serves_close}
use Rattle.er_rules.specs.dispatch.Against.{is_greater, is_late, LateHandlersLeadBack}

-- from an event that begins now, rule 16 alone can lead back

only_order : (joined : ℕ → ℕ → Bool) (h : List Record) (w : What) (a : Action) → Among a (told h).actions
    → any_holds dispatch_rules joined (event_with (length (told h).actions) w) a.event ≡ dispatch_in_order joined (event_with (length (told h).actions) w) a.event
only_order joined h w a among =
    let u : Event = event_with (length (told h).actions) w in
    let before = events_began h a among in
    four (u.number == a.event.number) (target_before_dispatch joined u a.event) (registered_before_run joined u a.event) (dispatch_in_order joined u a.event) (dispatches_of_one_type_in_order joined u a.event)
    (ne_eqb u.number a.event.number (λ same. omega (arith, same, before.0)))
    (target_never_back joined u a.event before) (registered_never_back joined u a.event before) (dispatches_never_back joined u a.event before)
  where
    four : (same p q r s : Bool) → same ≡ false → p ≡ false → q ≡ false → s ≡ false → (not same && (p || (q || (r || (s || false))))) ≡ r
    four false false false true false e f g k = refl
    four false false false false false e f g k = refl
    four true p q r s e f g k = absurd (cc)
    four false true q r s e f g k = absurd (cc)
    four false false true r s e f g k = absurd (cc)
    four false false false r true e f g k = absurd (cc)

leads_by_order : (joined : ℕ → ℕ → Bool) (h : List Record) (w : What) → list_any (λ (i : Action). any_holds dispatch_rules joined (event_with (length (told h).actions) w) i.event) (told h).actions
    ≡ list_any (λ (i : Action). dispatch_in_order joined (event_with (length (told h).actions) w) i.event) (told h).actions
leads_by_order joined h w =
    any_same (λ (i : Action). any_holds dispatch_rules joined (event_with (length (told h).actions) w) i.event) (λ (i : Action). dispatch_in_order joined (event_with (length (told h).actions) w) i.event) (told h).actions
    (λ a among. only_order joined h w a among)

-- and it does not where it leads to no event that has begun
none_back : (joined : ℕ → ℕ → Bool) (h : List Record) (w : What) → ((a : Action) → Among a (told h).actions → dispatch_in_order joined (event_with (length (told h).actions) w) a.event ≡ false)
    → list_any (λ (i : Action). any_holds dispatch_rules joined (event_with (length (told h).actions) w) i.event) (told h).actions ≡ false
none_back joined h w none =
    leads_by_order joined h w ∙ none_passes (λ (i : Action). dispatch_in_order joined (event_with (length (told h).actions) w) i.event) (told h).actions none

-- a dispatch that begins has no event yet
begin_back : (joined : ℕ → ℕ → Bool) (h : List Record) (x : Record) (d : Dispatch) → IsNamed h → NoneHolds h x → dispatch_begun (told h).entries (length (told h).actions) x ≡ Some d
    → list_any (λ (i : Action). any_holds dispatch_rules joined (event_with (length (told h).actions) (BeginOf d)) i.event) (told h).actions ≡ false
begin_back joined h x d named none begun = none_back joined h (BeginOf d) (λ a among. by a among a.event.what refl)
  where
    by : (a : Action) → Among a (told h).actions → (w : What) → a.event.what ≡ w → dispatch_in_order joined (event_with (length (told h).actions) (BeginOf d)) (event_with a.event.number w) ≡ false
    by a among (HandlerOf q g y m) what = ne_eqb d.number q.number (λ same. not_again h x q d named none (served_begun h named a q among (serves_handler a.event.what q g y m what)) begun same)
    by a among (CloseOf q) what = ne_eqb d.number q.number (λ same. not_again h x q d named none (served_begun h named a q among (serves_close a.event.what q what)) begun same)
    by a among _ what = refl

-- a handler

-- one of a greater group of the dispatch
abbrev pub of_greater : ℕ → ℕ → What → Bool
of_greater p g w = is_greater g (group_of p (λ k. true) w)

run_back : (joined : ℕ → ℕ → Bool) (h : List Record) (p g y : ℕ) (m : Option ℕ) → IsNamed h → (top : Top false p (told h).stack) → (a : Action) → Among a (told h).actions
    → dispatch_in_order joined (event_with (length (told h).actions) (HandlerOf top.top.dispatch g y m)) a.event ≡ of_greater p g a.event.what
run_back joined h p g y m named top a among = by a.event.what refl
  where
    d : Dispatch
    d = top.top.dispatch

    same_test : (q : Dispatch) (k : ℕ) → (d.number == q.number) ≡ (q.number == p)
    same_test q k = ap (λ n. n == q.number) top.number ∙ turned p q.number
      where
        turned : (m n : ℕ) → (m == n) ≡ (n == m)
        turned m n = grind (arith, nat_tests)

    of : (b : Bool) (k : ℕ) → (b && nat_lt g k) ≡ is_greater g (if b && true then Some k else None)
    of true k = refl
    of false k = refl

    by : (w : What) → a.event.what ≡ w → dispatch_in_order joined (event_with (length (told h).actions) (HandlerOf d g y m)) (event_with a.event.number w) ≡ of_greater p g w
    by (HandlerOf q k z l) what = ap (λ b. b && nat_lt g k) (same_test q k) ∙ of (q.number == p) k
    by (CloseOf q) what = ne_eqb d.number q.number (λ same.
        clash top.top.closing top.closes (gone h named a q top.top among what (top_on top) same))
    by _ what = refl

-- some handler of a greater group has run exactly where the greatest is greater
greater_of : (g : ℕ) (o r : Option ℕ) → is_greater g (greater o r) ≡ (is_greater g o || is_greater g r)
greater_of g None r = refl
greater_of g (Some k) None = or_none (nat_lt g k)
  where
    or_none : (b : Bool) → b ≡ (b || false)
    or_none true = refl
    or_none false = refl
greater_of g (Some k) (Some j) = step (nat_lt k j) refl
  where
    step : (b : Bool) → nat_lt k j ≡ b → is_greater g (if b then Some j else Some k) ≡ (nat_lt g k || nat_lt g j)
    step true e = grind (arith, nat_tests)
    step false e = grind (arith, nat_tests)

any_greater : (p g : ℕ) (actions : List Action) → list_any (λ (a : Action). of_greater p g a.event.what) actions ≡ is_greater g (greatest_group p (λ k. true) actions)
any_greater p g [] = refl
any_greater p g (a ∷ older) = ap (λ b. of_greater p g a.event.what || b) (any_greater p g older) ∙ sym (greater_of g (group_of p (λ k. true) a.event.what) (greatest_group p (λ k. true) older))

-- what a record comes to

pub late_is : (table : List (ℕ × Rule)) (h : List Record) (x : Record) → IsNamed h → naming h x ≡ None → leads_back dispatch_rules (path table h) (told h) x ≡ is_late h x
late_is table h (Back p) named is = refl
late_is table h (Run p g y) named is =
    let joined = path table h in
    let acts = (told h).actions in
    let n = length acts in
    let m = maker_by (declares_handler y) (told h).entries in
    let top = top_is false p (told h).stack (none_holds h (Run p g y) is).placed in
    let w : What = HandlerOf top.top.dispatch g y m in
    let what : what_begun (told h) (Run p g y) ≡ w = rw top.found refl in
    ap (λ z. list_any (λ (i : Action). any_holds dispatch_rules joined (event_with n z) i.event) acts) what
    ∙ (leads_by_order joined h w
    ∙ (any_same (λ (i : Action). dispatch_in_order joined (event_with n w) i.event) (λ (i : Action). of_greater p g i.event.what) acts (λ a among. run_back joined h p g y m named top a among)
    ∙ any_greater p g acts))
late_is table h (Close p) named is =
    let joined = path table h in
    let acts = (told h).actions in
    let n = length acts in
    let top = top_is false p (told h).stack (none_holds h (Close p) is).placed in
    let what : what_begun (told h) (Close p) ≡ CloseOf top.top.dispatch = rw top.found refl in
    ap (λ z. list_any (λ (i : Action). any_holds dispatch_rules joined (event_with n z) i.event) acts) what
    ∙ none_back joined h (CloseOf top.top.dispatch) (λ a among. refl)
late_is table h (Dcl p c) named is = begin_back (path table h) h (Dcl p c) _ named (none_holds h (Dcl p c) is) refl
late_is table h (Load p c) named is = begin_back (path table h) h (Load p c) _ named (none_holds h (Load p c) is) refl
late_is table h (Eload p e) named is = begin_back (path table h) h (Eload p e) _ named (none_holds h (Eload p e) is) refl
late_is table h (Fire p e n) named is = begin_back (path table h) h (Fire p e n) _ named (none_holds h (Fire p e n) is) refl
late_is table h (Wfire p c n) named is = begin_back (path table h) h (Wfire p c n) _ named (none_holds h (Wfire p c n) is) refl
late_is table h (Reply p r) named is = begin_back (path table h) h (Reply p r) _ named (none_holds h (Reply p r) is) refl
late_is table h (Inline p e n) named is = begin_back (path table h) h (Inline p e n) _ named (none_holds h (Inline p e n) is) refl
late_is table h x named is = not_both (begins x) _ (none_back (path table h) h (what_begun (told h) x) (λ a among. refl))

pub late_handlers_lead_back : LateHandlersLeadBack
late_handlers_lead_back table h x named is = late_is table h x named is
