-- Proof that latest pieces suffice for the rules of dispatches between events. Lists of records
-- stand newest first.
use Rattle.std.proofs.Common.{◌≡◌, ℕ, true, false, List, ◌++◌, length, Option, None, refl, subst, inl, inr}
use Rattle.std.specs.Prelude.{nat_lt}
use Rattle.er_trace.specs.declared.record.Record.{Record}
use Rattle.er_trace.specs.declared.record.Record.TheVariants.{Dcl, Load, Eload, Fire, Wfire, Reply, Inline, Run, Close, Back}
use Rattle.er_history.specs.History.{Delivery, DclOf, LoadOf, EloadOf, FireAt, InlineAt, WindowFire, ReplyOf, BeginOf, HandlerOf, CloseOf, Action, told, what_begun, first_to, makes_element, maker_by, element_maker, declares_document, declares_handler, declares_request, running}
use Rattle.er_history.specs.Rules.{Rule, same_target, dispatch_rules}
use Rattle.er_history.specs.Edges.{path, up_to}
use Rattle.er_history.specs.Laws.{Among}
use Rattle.er_history.specs.Latest.{number_of, newest, latest_of}
use Rattle.er_history.specs.Kinds.{closes}
use Rattle.er_pieces.specs.HandedPieces.{group_handed}
use Rattle.er_pieces.specs.Enough.{IsSteady, NestedFacts, EnoughDispatch}
use Rattle.er_history.proofs.HistoryLemmas.{actions_are_numbered}
use Rattle.er_history.proofs.NamedLemmas.{none_holds}
use Rattle.er_pieces.proofs.StackLemmas.{top_is}
use Rattle.er_pieces.proofs.PathLemmas.{never, and_right, Reaches, reach_left, reach_right, reach_newest}
use Rattle.er_pieces.proofs.ChainLemmas.{event_with, reach_maker, back_enough}
use Rattle.er_pieces.proofs.ClosedLemmas.{close_is}
use Rattle.er_pieces.proofs.EnoughLoad.{closes_more}
use Rattle.er_pieces.proofs.DispatchRules.{Holds, Ran, leads_to, targets_meet}
use Rattle.er_pieces.proofs.GroupLemmas.{reach_group}

-- closes of the same target and type

reach_like : (table : List (ℕ × Rule)) (h : List Record) → IsSteady table h → NestedFacts table → (z : Delivery) (i : Action) → Among i (told h).actions → closes (λ y. same_target y z) i.event ≡ true
    → Reaches (path table h) i.number (newest (closes (λ y. same_target y z)) (told h).actions)
reach_like table h steady facts z i among e =
    reach_newest (path table h) (closes (λ y. same_target y z)) (told h).actions i (actions_are_numbered h) among e (λ a other f le.
    let p = close_is (λ y. same_target y z) i e in
    let q = close_is (λ y. same_target y z) a f in
    facts.closes h i a p.dispatch q.dispatch steady among other p.is q.is (targets_meet p.dispatch.delivers q.dispatch.delivers z p.passes q.passes) le)

-- the maker plays no part
fire_like : (e : ℕ) (n : List ℕ) (m : Option ℕ) (y : Delivery) → same_target y (FireAt e n m) ≡ true → same_target y (FireAt e n None) ≡ true
fire_like e n m (FireAt f k l) is = is
fire_like e n m (InlineAt f k l) is = is
fire_like e n m _ is = absurd (never is)

inline_like : (e : ℕ) (n : List ℕ) (m : Option ℕ) (y : Delivery) → same_target y (InlineAt e n m) ≡ true → same_target y (FireAt e n None) ≡ true
inline_like e n m (FireAt f k l) is = is
inline_like e n m (InlineAt f k l) is = is
inline_like e n m _ is = absurd (never is)

window_like : (d : ℕ) (n : List ℕ) (m : Option ℕ) (y : Delivery) → same_target y (WindowFire d n m) ≡ true → same_target y (WindowFire d n None) ≡ true
window_like d n m (WindowFire f k l) is = is
window_like d n m _ is = absurd (never is)

-- of DOMContentLoaded, load, the first load event and a reply there are none

abbrev pub HasTarget : Delivery → Type 0
HasTarget (FireAt e n m) = Unit {0}
HasTarget (InlineAt e n m) = Unit {0}
HasTarget (WindowFire d n m) = Unit {0}
HasTarget _ = ⊥

has_target : (y z : Delivery) → same_target y z ≡ true → HasTarget z
has_target y (FireAt e n m) is = tt
has_target y (InlineAt e n m) is = tt
has_target y (WindowFire e n m) is = tt
has_target (FireAt f k l) _ is = absurd (never is)
has_target (InlineAt f k l) _ is = absurd (never is)
has_target (WindowFire f k l) _ is = absurd (never is)
has_target _ z is = absurd (never is)

like_target : (z : Delivery) (i : Action) → closes (λ y. same_target y z) i.event ≡ true → HasTarget z
like_target z i e = let is = close_is (λ y. same_target y z) i e in has_target is.dispatch.delivers z is.passes

pub enough_dispatch : EnoughDispatch
enough_dispatch table facts h (Fire p e n) steady named ordered = λ i among ruled.
    let acts = (told h).actions in
    let m = element_maker (told h).entries e in
    let like : List ℕ = newest (closes (λ y. same_target y (FireAt e n None))) acts in
    elim (leads_to (up_to (length acts) (path table h)) i.event (length acts) (BeginOf (record { number = p; begin = length acts; delivers = FireAt e n m })) (and_right _ _ ruled)) [
      | inl made ↦ reach_left (path table h) i.number (latest_of m acts) like (reach_maker table h i m among made)
      | inr closed ↦ reach_right (path table h) i.number (latest_of m acts) like
          (reach_like table h steady facts (FireAt e n None) i among (closes_more (λ y. same_target y (FireAt e n m)) (λ y. same_target y (FireAt e n None)) i.event (fire_like e n m) closed))
    ]
enough_dispatch table facts h (Inline p e n) steady named ordered = λ i among ruled.
    let acts = (told h).actions in
    let m = element_maker (told h).entries e in
    let like : List ℕ = newest (closes (λ y. same_target y (FireAt e n None))) acts in
    reach_left (path table h) i.number (latest_of m acts ++ like) (number_of (running acts))
    (elim (leads_to (up_to (length acts) (path table h)) i.event (length acts) (BeginOf (record { number = p; begin = length acts; delivers = InlineAt e n m })) (and_right _ _ ruled)) [
      | inl made ↦ reach_left (path table h) i.number (latest_of m acts) like (reach_maker table h i m among made)
      | inr closed ↦ reach_right (path table h) i.number (latest_of m acts) like
          (reach_like table h steady facts (FireAt e n None) i among (closes_more (λ y. same_target y (InlineAt e n m)) (λ y. same_target y (FireAt e n None)) i.event (inline_like e n m) closed))
    ])
enough_dispatch table facts h (Wfire p d n) steady named ordered = λ i among ruled.
    let acts = (told h).actions in
    let m = maker_by (declares_document d) (told h).entries in
    let like : List ℕ = newest (closes (λ y. same_target y (WindowFire d n None))) acts in
    elim (leads_to (up_to (length acts) (path table h)) i.event (length acts) (BeginOf (record { number = p; begin = length acts; delivers = WindowFire d n m })) (and_right _ _ ruled)) [
      | inl made ↦ reach_left (path table h) i.number (latest_of m acts) like (reach_maker table h i m among made)
      | inr closed ↦ reach_right (path table h) i.number (latest_of m acts) like
          (reach_like table h steady facts (WindowFire d n None) i among (closes_more (λ y. same_target y (WindowFire d n m)) (λ y. same_target y (WindowFire d n None)) i.event (window_like d n m) closed))
    ]
enough_dispatch table facts h (Dcl p d) steady named ordered = λ i among ruled.
    let acts = (told h).actions in
    let m = maker_by (declares_document d) (told h).entries in
    elim (leads_to (up_to (length acts) (path table h)) i.event (length acts) (BeginOf (record { number = p; begin = length acts; delivers = DclOf d m })) (and_right _ _ ruled)) [
      | inl made ↦ reach_maker table h i m among made
      | inr closed ↦ absurd (like_target (DclOf d m) i closed)
    ]
enough_dispatch table facts h (Load p d) steady named ordered = λ i among ruled.
    let acts = (told h).actions in
    let m = maker_by (declares_document d) (told h).entries in
    elim (leads_to (up_to (length acts) (path table h)) i.event (length acts) (BeginOf (record { number = p; begin = length acts; delivers = LoadOf d m })) (and_right _ _ ruled)) [
      | inl made ↦ reach_maker table h i m among made
      | inr closed ↦ absurd (like_target (LoadOf d m) i closed)
    ]
enough_dispatch table facts h (Eload p e) steady named ordered = λ i among ruled.
    let acts = (told h).actions in
    let made = first_to (makes_element e) (told h).entries in
    elim (leads_to (up_to (length acts) (path table h)) i.event (length acts) (BeginOf (record { number = p; begin = length acts; delivers = EloadOf e made })) (and_right _ _ ruled)) [
      | inl none ↦ absurd none
      | inr closed ↦ absurd (like_target (EloadOf e made) i closed)
    ]
enough_dispatch table facts h (Reply p r) steady named ordered = λ i among ruled.
    let acts = (told h).actions in
    let m = maker_by (declares_request r) (told h).entries in
    elim (leads_to (up_to (length acts) (path table h)) i.event (length acts) (BeginOf (record { number = p; begin = length acts; delivers = ReplyOf r m })) (and_right _ _ ruled)) [
      | inl none ↦ absurd none
      | inr closed ↦ absurd (like_target (ReplyOf r m) i closed)
    ]
enough_dispatch table facts h (Run p g x) steady named ordered = λ i among ruled.
    let acts = (told h).actions in
    let m = maker_by (declares_handler x) (told h).entries in
    let top = top_is false p (told h).stack (none_holds h (Run p g x) named).placed in
    let what : what_begun (told h) (Run p g x) ≡ HandlerOf top.top.dispatch g x m = rw top.found refl in
    let group : List ℕ = group_handed p (λ k. nat_lt k g) acts in
    elim (leads_to (up_to (length acts) (path table h)) i.event (length acts) (HandlerOf top.top.dispatch g x m)
    (subst (λ z. Holds (up_to (length acts) (path table h)) i.event (event_with (length acts) z)) what (and_right _ _ ruled))) [
      | inl made ↦ reach_left (path table h) i.number (latest_of m acts) group (reach_maker table h i m among made)
      | inr ran ↦ reach_right (path table h) i.number (latest_of m acts) group (reach_group table h steady p (λ k. nat_lt k g) i among (subst (λ q. Ran q (λ k. nat_lt k g) i.event) top.number ran))
    ]
enough_dispatch table facts h (Close p) steady named ordered = λ i among ruled.
    let acts = (told h).actions in
    let top = top_is false p (told h).stack (none_holds h (Close p) named).placed in
    let what : what_begun (told h) (Close p) ≡ CloseOf top.top.dispatch = rw top.found refl in
    let ran = leads_to (up_to (length acts) (path table h)) i.event (length acts) (CloseOf top.top.dispatch)
    (subst (λ z. Holds (up_to (length acts) (path table h)) i.event (event_with (length acts) z)) what (and_right _ _ ruled)) in
    reach_group table h steady p (λ k. true) i among (subst (λ q. Ran q (λ k. true) i.event) top.number ran)
enough_dispatch table facts h (Back p) steady named ordered = λ i c among runs ruled. back_enough table dispatch_rules h p facts steady.has.dispatch steady named i c among runs ruled
enough_dispatch table facts h x steady named ordered = λ i among ruled.
    absurd (leads_to (up_to (length (told h).actions) (path table h)) i.event (length (told h).actions) (what_begun (told h) x) (and_right _ _ ruled))
