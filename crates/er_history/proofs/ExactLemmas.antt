-- Proof that each fact that an event kept is the one that the whole list gives, where naming
-- refuses no record.
use Rattle.std.proofs.Common.{◌≡◌, ℕ, ◌-◌, ◌<◌, ◌≤◌, Bool, true, false, List, [], ◌∷◌, length, Option, Some, None, refl, sym, subst, ◌∙◌, arith, inl, inr, ◌⊎◌}
use Rattle.std.specs.Prelude.{◌==◌, ◌&&◌, not, if◌then◌else◌}
use Rattle.std.proofs.lemmas.Bool.{eqb-false}
use Rattle.er_trace.specs.declared.record.Record.{Record}
use Rattle.er_trace.specs.declared.record.Record.TheVariants.{Parse, ParseFrame, Exec, Timer, Tick, Dcl, Load, Eload, Fire, Wfire, Reply, Inline, Run, Close, Back, Message, Anim, Job}
use Rattle.er_history.specs.History.{Delivery, DclOf, LoadOf, EloadOf, FireAt, InlineAt, WindowFire, ReplyOf, Dispatch, is_inline, What, ParseStep, ScriptRun, TimeoutRun, TickRun, BeginOf, HandlerOf, CloseOf, MessageRun, AnimRun, JobRun, posts_message, asks_for_anim, queues_job, Unnamed, Action, Open, told, begins, maker_by, declares_document, find_open, action_at, dispatch_begun, event_begun, action_begun, stack_after, running}
use Rattle.er_history.specs.Laws.{Among, IsNumbered}
use Rattle.er_history.specs.Naming.{IsNamed, is_top, may_call}
use Rattle.er_history.specs.Facts.{Stays, DeliveryStays, WhatStays, DeliveryIs, WhatIs, FactsAreExact}
use Rattle.er_history.proofs.HistoryLemmas.{actions_are_numbered}
use Rattle.er_history.proofs.FactsLemmas.{facts_stay}
use Rattle.er_history.proofs.NamedLemmas.{NoneHolds, none_holds, top_found}
use Rattle.er_history.proofs.DeclaredLemmas.{Found, declared_element, declared_element_maker, declared_timeout, declared_task, declared_handler, declared_interval, declared_request, known_document, first_document, is_known, or_none}

-- What an event kept was there to be found; no record declares document 0.

abbrev pub DocumentKnown : ℕ → Option ℕ → Type 0
DocumentKnown d m = (d ≡ 0) ⊎ Found m

abbrev pub DeliveryKnown : Delivery → Type 0
DeliveryKnown (DclOf d m) = DocumentKnown d m
DeliveryKnown (LoadOf d m) = DocumentKnown d m
DeliveryKnown (EloadOf e made) = Found made
DeliveryKnown (FireAt e n m) = Found m
DeliveryKnown (InlineAt e n m) = Found m
DeliveryKnown (WindowFire d n m) = DocumentKnown d m
DeliveryKnown (ReplyOf r m) = Found m

abbrev pub WhatKnown : What → Type 0
WhatKnown (ParseStep d m) = DocumentKnown d m
WhatKnown (ScriptRun e made) = Found made
WhatKnown (TimeoutRun t made) = Found made
WhatKnown (TickRun i m) = Found m
WhatKnown (BeginOf d) = DeliveryKnown d.delivers
WhatKnown (HandlerOf d g x m) = DeliveryKnown d.delivers × Found m
WhatKnown (CloseOf d) = DeliveryKnown d.delivers
WhatKnown (MessageRun m made) = Found made
WhatKnown (AnimRun a made) = Found made
WhatKnown (JobRun j made within) = Found made
WhatKnown Unnamed = ⊥

-- the same of all actions
abbrev pub ActionsKnown : List Action → Type 0
ActionsKnown [] = Unit {0}
ActionsKnown (a ∷ older) = WhatKnown a.event.what × ActionsKnown older

-- an action stands just before the begin of the dispatch
abbrev pub Follows : ℕ → Dispatch → Type 0
Follows n d = (0 < d.begin) × (d.begin ≤ n)

-- and of a dispatch that is not finished: before an inline one stands an action, and only the close
-- of an inline one has begun
pub record OpenKnown (n : ℕ) (o : Open) : Type 0 where
  pub delivery : DeliveryKnown o.dispatch.delivers
  pub follows : is_inline o.dispatch ≡ true → Follows n o.dispatch
  pub closes : o.closing ≡ true → is_inline o.dispatch ≡ true

abbrev pub StackKnown : ℕ → List Open → Type 0
StackKnown n [] = Unit {0}
StackKnown n (o ∷ below) = OpenKnown n o × StackKnown n below

pub stack_grows : (n m : ℕ) (s : List Open) → n ≤ m → StackKnown n s → StackKnown m s
stack_grows n m [] le known = tt
stack_grows n m (o ∷ below) le known = (
  record {
    delivery = known.0.delivery;
    follows = λ e. let f = known.0.follows e in (f.0, omega (arith, f.1, le));
    closes = known.0.closes;
  },
  stack_grows n m below le known.1,
)

-- what is on top is known

pub top_known : (n p : ℕ) (s : List Open) (d : Dispatch) → StackKnown n s → find_open p s ≡ Some d → DeliveryKnown d.delivers
top_known n p [] d known e = absurd (cc)
top_known n p (o ∷ below) d known e = step (o.dispatch.number == p) (top_known n p below d known.1) e
  where
    step : (b : Bool) → (find_open p below ≡ Some d → DeliveryKnown d.delivers) → (if b then Some o.dispatch else find_open p below) ≡ Some d → DeliveryKnown d.delivers
    step true rest e = let same : o.dispatch ≡ d = cc in subst (λ (c : Dispatch). DeliveryKnown c.delivers) same known.0.delivery
    step false rest e = rest e

-- before the begin of one whose close has begun stands an action
pub closing_found : (n p : ℕ) (s : List Open) → StackKnown n s → not (is_top true p s) ≡ false → (d : Dispatch) × (find_open p s ≡ Some d) × Follows n d
closing_found n p [] known e = absurd (cc)
closing_found n p (o ∷ below) known e = step (o.dispatch.number == p) o.closing refl e
  where
    step : (a b : Bool) → o.closing ≡ b → not (a && b) ≡ false → (d : Dispatch) × ((if a then Some o.dispatch else find_open p below) ≡ Some d) × Follows n d
    step true true closing e = (o.dispatch, refl, known.0.follows (known.0.closes closing))
    step true false closing e = absurd (cc)
    step false b closing e = absurd (cc)

pub at_known : (actions : List Action) (k : ℕ) → IsNumbered actions → ActionsKnown actions → k < length actions → (a : Action) × (action_at k actions ≡ Some a) × WhatKnown a.event.what
at_known [] k n known below = absurd (omega arith)
at_known (a ∷ older) k n known below = step (a.number == k) refl (at_known older k n.1 known.1)
  where
    step : (b : Bool) → (a.number == k) ≡ b → (k < length older → (c : Action) × (action_at k older ≡ Some c) × WhatKnown c.event.what)
        → (c : Action) × ((if b then Some a else action_at k older) ≡ Some c) × WhatKnown c.event.what
    step true e rest = (a, refl, known.0)
    step false e rest = let apart = eqb-false a.number k e in rest (omega (arith, n.0, below, apart))

-- what begins is known

abbrev pub DispatchKnown : Option Dispatch → Type 0
DispatchKnown None = Unit {0}
DispatchKnown (Some d) = DeliveryKnown d.delivers

pub dispatch_known : (h : List Record) (x : Record) → IsNamed h → NoneHolds h x → DispatchKnown (dispatch_begun (told h).entries (length (told h).actions) x)
dispatch_known h (Dcl p d) is none = known_document h d is (is_known _ none.known)
dispatch_known h (Load p d) is none = known_document h d is (is_known _ none.known)
dispatch_known h (Eload p y) is none = declared_element h y is (is_known _ none.known)
dispatch_known h (Fire p y n) is none = declared_element_maker h y is (is_known _ none.known)
dispatch_known h (Inline p y n) is none = declared_element_maker h y is (is_known _ none.known)
dispatch_known h (Wfire p d n) is none = known_document h d is (is_known _ none.known)
dispatch_known h (Reply p r) is none = declared_request h r is (is_known _ none.known)
dispatch_known h _ is none = tt

pub event_known : (h : List Record) (x : Record) → IsNamed h → NoneHolds h x → ActionsKnown (told h).actions → StackKnown (length (told h).actions) (told h).stack → begins x ≡ true
    → WhatKnown (event_begun (told h) x).what
event_known h (Parse d y k) is none actions stack b = known_document h d is (is_known _ none.known)
event_known h (ParseFrame d y f) is none actions stack b = known_document h d is (is_known _ none.known)
event_known h (Exec y) is none actions stack b = declared_element h y is (is_known _ none.known)
event_known h (Timer t) is none actions stack b = declared_timeout h t is (is_known _ none.known)
event_known h (Message m) is none actions stack b = declared_task h (posts_message m) is (is_known _ none.known)
event_known h (Anim a) is none actions stack b = declared_task h (asks_for_anim a) is (is_known _ none.known)
event_known h (Job j) is none actions stack b = declared_task h (queues_job j) is (is_known _ none.known)
event_known h (Tick i) is none actions stack b = declared_interval h i is (is_known _ none.known)
event_known h (Run p g x) is none actions stack b =
    let found = top_found p (told h).stack none.placed in
    let handler = declared_handler h x is (is_known _ (or_none _ _ none.known).1) in
    rw found.1 (top_known (length (told h).actions) p (told h).stack found.0 stack found.1, handler)
event_known h (Close p) is none actions stack b =
    let found = top_found p (told h).stack none.placed in
    rw found.1 (top_known (length (told h).actions) p (told h).stack found.0 stack found.1)
event_known h (Back p) is none actions stack b =
    let found = closing_found (length (told h).actions) p (told h).stack stack none.placed in
    let below : found.0.begin - 1 < length (told h).actions = omega (arith, found.2) in
    let before = at_known (told h).actions (found.0.begin - 1) (actions_are_numbered h) actions below in
    rw (found.1, before.1) before.2
event_known h (Dcl p d) is none actions stack b = dispatch_known h (Dcl p d) is none
event_known h (Load p d) is none actions stack b = dispatch_known h (Load p d) is none
event_known h (Eload p y) is none actions stack b = dispatch_known h (Eload p y) is none
event_known h (Fire p y n) is none actions stack b = dispatch_known h (Fire p y n) is none
event_known h (Inline p y n) is none actions stack b = dispatch_known h (Inline p y n) is none
event_known h (Wfire p d n) is none actions stack b = dispatch_known h (Wfire p d n) is none
event_known h (Reply p r) is none actions stack b = dispatch_known h (Reply p r) is none
event_known h _ is none actions stack b = absurd (cc)

-- the stack after one record more

pub caller_runs : (actions : List Action) → not (may_call (running actions)) ≡ false → 0 < length actions
caller_runs [] e = absurd (cc)
caller_runs (a ∷ older) e = omega arith

pub closed_known : (n p : ℕ) (d : Option Dispatch) (s : List Open) → StackKnown n s → StackKnown n (stack_after s d (Close p))
closed_known n p d [] known = tt
closed_known n p d (o ∷ below) known = step (is_inline o.dispatch) refl
  where
    step : (b : Bool) → is_inline o.dispatch ≡ b → StackKnown n (if b then record { dispatch = o.dispatch; closing = true } ∷ below else below)
    step true e = (record { delivery = known.0.delivery; follows = known.0.follows; closes = λ c. e }, known.1)
    step false e = known.1

pub left_known : (n p : ℕ) (d : Option Dispatch) (s : List Open) → StackKnown n s → StackKnown n (stack_after s d (Back p))
left_known n p d [] known = tt
left_known n p d (o ∷ below) known = known.1

-- no close of a dispatch that begins has begun
pub begun_known : (n : ℕ) (d : Dispatch) → DeliveryKnown d.delivers → (is_inline d ≡ true → Follows n d) → OpenKnown n (record { dispatch = d; closing = false })
begun_known n d known follows = record { delivery = known; follows = follows; closes = λ e. absurd (cc) }

pub stack_known : (h : List Record) (x : Record) → IsNamed h → NoneHolds h x → StackKnown (length (told h).actions) (told h).stack → StackKnown (length (told (x ∷ h)).actions) (told (x ∷ h)).stack
stack_known h (Dcl p d) is none stack = (begun_known _ _ (dispatch_known h (Dcl p d) is none) (λ e. absurd (cc)), stack_grows _ _ (told h).stack (omega arith) stack)
stack_known h (Load p d) is none stack = (begun_known _ _ (dispatch_known h (Load p d) is none) (λ e. absurd (cc)), stack_grows _ _ (told h).stack (omega arith) stack)
stack_known h (Eload p y) is none stack = (begun_known _ _ (dispatch_known h (Eload p y) is none) (λ e. absurd (cc)), stack_grows _ _ (told h).stack (omega arith) stack)
stack_known h (Fire p y n) is none stack = (begun_known _ _ (dispatch_known h (Fire p y n) is none) (λ e. absurd (cc)), stack_grows _ _ (told h).stack (omega arith) stack)
stack_known h (Wfire p d n) is none stack = (begun_known _ _ (dispatch_known h (Wfire p d n) is none) (λ e. absurd (cc)), stack_grows _ _ (told h).stack (omega arith) stack)
stack_known h (Reply p r) is none stack = (begun_known _ _ (dispatch_known h (Reply p r) is none) (λ e. absurd (cc)), stack_grows _ _ (told h).stack (omega arith) stack)
stack_known h (Inline p y n) is none stack =
    let some = caller_runs (told h).actions none.placed in
    (begun_known _ _ (dispatch_known h (Inline p y n) is none) (λ e. (some, omega arith)), stack_grows _ _ (told h).stack (omega arith) stack)
stack_known h (Close p) is none stack = closed_known _ p None _ (stack_grows _ (length (told (Close p ∷ h)).actions) (told h).stack (omega arith) stack)
stack_known h (Back p) is none stack = left_known _ p None _ (stack_grows _ (length (told (Back p ∷ h)).actions) (told h).stack (omega arith) stack)
stack_known h _ is none stack = stack_grows _ _ (told h).stack (omega arith) stack

pub all_known : (h : List Record) → IsNamed h → ActionsKnown (told h).actions × StackKnown (length (told h).actions) (told h).stack
all_known [] is = (tt, tt)
all_known (x ∷ h) is =
    let none = none_holds h x is.0 in
    let before = all_known h is.1 in
    (step (begins x) refl (event_known h x is.1 none before.0 before.1) before.0, stack_known h x is.1 none before.1)
  where
    step : (b : Bool) → begins x ≡ b → (begins x ≡ true → WhatKnown (event_begun (told h) x).what) → ActionsKnown (told h).actions
        → ActionsKnown (if b then action_begun (told h) x ∷ (told h).actions else (told h).actions)
    step true e event actions = (event e, actions)
    step false e event actions = actions

pub among_known : (actions : List Action) (a : Action) → ActionsKnown actions → Among a actions → WhatKnown a.event.what
among_known [] a known among = absurd among
among_known (x ∷ older) a known (inl same) = subst (λ (c : Action). WhatKnown c.event.what) (sym same) known.0
among_known (x ∷ older) a known (inr deeper) = among_known older a known.1 deeper

-- what was known and stays is what the list gives

pub found_is : {B : Type 0} → (m look : Option B) → Stays m look → Found m → m ≡ look
found_is m look stays found = found.1 ∙ sym (stays found.0 found.1)

pub document_is : (h : List Record) (d : ℕ) (m : Option ℕ) → IsNamed h → Stays m (maker_by (declares_document d) (told h).entries) → DocumentKnown d m → m ≡ maker_by (declares_document d) (told h).entries
document_is h d m is stays (inr found) = found_is m _ stays found
document_is h d None is stays (inl zero) = sym (subst (λ c. maker_by (declares_document c) (told h).entries ≡ None) (sym zero) (first_document h is))
document_is h d (Some k) is stays (inl zero) = sym (stays k refl)

pub delivery_is : (h : List Record) (d : Delivery) → IsNamed h → DeliveryStays (told h).entries d → DeliveryKnown d → DeliveryIs (told h).entries d
delivery_is h (DclOf d m) is stays known = document_is h d m is stays known
delivery_is h (LoadOf d m) is stays known = document_is h d m is stays known
delivery_is h (EloadOf y made) is stays known = found_is made _ stays known
delivery_is h (FireAt y n m) is stays known = found_is m _ stays known
delivery_is h (InlineAt y n m) is stays known = found_is m _ stays known
delivery_is h (WindowFire d n m) is stays known = document_is h d m is stays known
delivery_is h (ReplyOf r m) is stays known = found_is m _ stays known

pub what_is : (h : List Record) (w : What) → IsNamed h → WhatStays (told h).entries w → WhatKnown w → WhatIs (told h).entries w
what_is h (ParseStep d m) is stays known = document_is h d m is stays known
what_is h (ScriptRun y made) is stays known = (found_is made _ stays known, known.0, known.1)
what_is h (TimeoutRun t made) is stays known = (found_is made _ stays known, known.0, known.1)
what_is h (MessageRun m made) is stays known = (found_is made _ stays known, known.0, known.1)
what_is h (AnimRun a made) is stays known = (found_is made _ stays known, known.0, known.1)
what_is h (JobRun j made within) is stays known = (found_is made _ stays known, known.0, known.1)
what_is h (TickRun i m) is stays known = found_is m _ stays known
what_is h (BeginOf d) is stays known = delivery_is h d.delivers is stays known
what_is h (HandlerOf d g x m) is stays known = (delivery_is h d.delivers is stays.0 known.0, found_is m _ stays.1 known.1)
what_is h (CloseOf d) is stays known = delivery_is h d.delivers is stays known
what_is h Unnamed is stays known = known

pub facts_are_exact : FactsAreExact
facts_are_exact h a is among = what_is h a.event.what is (facts_stay h a among) (among_known (told h).actions a (all_known h is).0 among)
