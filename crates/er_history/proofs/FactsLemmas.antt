-- Proofs that what an event keeps is what the list says.
use Rattle.std.proofs.Common.{◌≡◌, ℕ, Bool, true, false, List, [], ◌∷◌, length, sym, ap, subst, inl, inr, Option, Some, None}
use Rattle.std.specs.Prelude.{◌-◌, ◌==◌, if◌then◌else◌}
use Rattle.er_trace.specs.declared.record.Record.{Record}
use Rattle.er_trace.specs.declared.record.Record.TheVariants.{Parse, ParseFrame, Exec, Timer, Tick, Dcl, Load, Eload, Fire, Wfire, Reply, Inline, Run, Close, Back, Message, Anim, Job}
use Rattle.er_history.specs.History.{Element, Delivery, DclOf, LoadOf, EloadOf, FireAt, InlineAt, WindowFire, ReplyOf, Dispatch, is_inline, What, ParseStep, ScriptRun, TimeoutRun, TickRun, BeginOf, HandlerOf, CloseOf, MessageRun, AnimRun, JobRun, Unnamed, Event, Action, Entry, Open, History, told, begins, or_else, first_to, makes_element, maker_by, element_maker, declares_handler, find_open, action_at, dispatch_begun, what_begun, event_resumed, event_begun, action_begun, stack_after, running}
use Rattle.er_history.specs.Laws.{Among}
use Rattle.er_history.specs.Facts.{Stays, DeliveryStays, WhatStays, FactsStay}

-- a longer list gives what the shorter gave

pub first_more : {B : Type 0} → (f : Entry → Option B) (m : Option B) (entry : Entry) (es : List Entry) → Stays m (first_to f es) → Stays m (first_to f (entry ∷ es))
first_more f m entry es stays = λ x e. ap (λ o. or_else o (f entry)) (stays x e)

pub maker_more : (m : Option ℕ) (number : ℕ) (entry : Entry) (es : List Entry) → Stays m (element_maker es number) → Stays m (element_maker (entry ∷ es) number)
maker_more m number entry es stays = λ x e. grows (first_to (makes_element number) es) (makes_element number entry) x (stays x e)
  where
    maker_of : Option Element → Option ℕ
    maker_of None = None
    maker_of (Some x) = Some x.maker

    grows : (found made : Option Element) (x : ℕ) → maker_of found ≡ Some x → maker_of (or_else found made) ≡ Some x
    grows None made x e = absurd (cc)
    grows (Some y) made x e = e

pub delivery_more : (entry : Entry) (es : List Entry) (d : Delivery) → DeliveryStays es d → DeliveryStays (entry ∷ es) d
delivery_more entry es (DclOf d m) stays = first_more _ m entry es stays
delivery_more entry es (LoadOf d m) stays = first_more _ m entry es stays
delivery_more entry es (EloadOf e made) stays = first_more _ made entry es stays
delivery_more entry es (FireAt e n m) stays = maker_more m e entry es stays
delivery_more entry es (InlineAt e n m) stays = maker_more m e entry es stays
delivery_more entry es (WindowFire d n m) stays = first_more _ m entry es stays
delivery_more entry es (ReplyOf r m) stays = first_more _ m entry es stays

pub what_more : (entry : Entry) (es : List Entry) (w : What) → WhatStays es w → WhatStays (entry ∷ es) w
what_more entry es (ParseStep d m) stays = first_more _ m entry es stays
what_more entry es (ScriptRun e made) stays = first_more _ made entry es stays
what_more entry es (TimeoutRun t made) stays = first_more _ made entry es stays
what_more entry es (TickRun i m) stays = first_more _ m entry es stays
what_more entry es (BeginOf d) stays = delivery_more entry es d.delivers stays
what_more entry es (HandlerOf d g x m) stays = (delivery_more entry es d.delivers stays.0, first_more _ m entry es stays.1)
what_more entry es (CloseOf d) stays = delivery_more entry es d.delivers stays
what_more entry es (MessageRun m made) stays = first_more _ made entry es stays
what_more entry es (AnimRun a made) stays = first_more _ made entry es stays
what_more entry es (JobRun j made within) stays = first_more _ made entry es stays
what_more entry es Unnamed stays = tt

-- the same of all actions, and of all dispatches that are not finished

abbrev pub ActionsKeep : List Entry → List Action → Type 0
ActionsKeep es [] = Unit {0}
ActionsKeep es (a ∷ older) = WhatStays es a.event.what × ActionsKeep es older

abbrev pub OpenKeep : List Entry → List Open → Type 0
OpenKeep es [] = Unit {0}
OpenKeep es (o ∷ below) = DeliveryStays es o.dispatch.delivers × OpenKeep es below

abbrev pub DispatchKeeps : List Entry → Option Dispatch → Type 0
DispatchKeeps es None = Unit {0}
DispatchKeeps es (Some d) = DeliveryStays es d.delivers

pub actions_more : (entry : Entry) (es : List Entry) (actions : List Action) → ActionsKeep es actions → ActionsKeep (entry ∷ es) actions
actions_more entry es [] keep = tt
actions_more entry es (a ∷ older) keep = (what_more entry es a.event.what keep.0, actions_more entry es older keep.1)

pub open_more : (entry : Entry) (es : List Entry) (stack : List Open) → OpenKeep es stack → OpenKeep (entry ∷ es) stack
open_more entry es [] keep = tt
open_more entry es (o ∷ below) keep = (delivery_more entry es o.dispatch.delivers keep.0, open_more entry es below keep.1)

pub find_keeps : (es : List Entry) (p : ℕ) (stack : List Open) → OpenKeep es stack → DispatchKeeps es (find_open p stack)
find_keeps es p [] keep = tt
find_keeps es p (o ∷ below) keep = step (o.dispatch.number == p) (find_keeps es p below keep.1)
  where
    step : (b : Bool) → DispatchKeeps es (find_open p below) → DispatchKeeps es (if b then Some o.dispatch else find_open p below)
    step true rest = keep.0
    step false rest = rest

abbrev pub ActionKeeps : List Entry → Option Action → Type 0
ActionKeeps es None = Unit {0}
ActionKeeps es (Some a) = WhatStays es a.event.what

pub at_keeps : (es : List Entry) (k : ℕ) (actions : List Action) → ActionsKeep es actions → ActionKeeps es (action_at k actions)
at_keeps es k [] keep = tt
at_keeps es k (a ∷ older) keep = step (a.number == k) (at_keeps es k older keep.1)
  where
    step : (b : Bool) → ActionKeeps es (action_at k older) → ActionKeeps es (if b then Some a else action_at k older)
    step true rest = keep.0
    step false rest = rest

-- what begins is looked up in the list

pub dispatch_keeps : (es : List Entry) (k : ℕ) (x : Record) → DispatchKeeps es (dispatch_begun es k x)
dispatch_keeps es k (Dcl p d) = λ m e. e
dispatch_keeps es k (Load p d) = λ m e. e
dispatch_keeps es k (Eload p e) = λ made f. f
dispatch_keeps es k (Fire p e n) = λ m f. f
dispatch_keeps es k (Inline p e n) = λ m f. f
dispatch_keeps es k (Wfire p d n) = λ m e. e
dispatch_keeps es k (Reply p r) = λ m e. e
dispatch_keeps es k _ = tt

pub begun_keeps : (t : History) (x : Record) → OpenKeep t.entries t.stack → WhatStays t.entries (what_begun t x)
begun_keeps t (Parse d e k) keep = λ m f. f
begun_keeps t (ParseFrame d e f) keep = λ m g. g
begun_keeps t (Exec e) keep = λ made f. f
begun_keeps t (Timer i) keep = λ made f. f
begun_keeps t (Tick i) keep = λ m f. f
begun_keeps t (Message m) keep = λ made f. f
begun_keeps t (Anim a) keep = λ made f. f
begun_keeps t (Job j) keep = λ made f. f
begun_keeps t (Run p g x) keep = of_run (find_open p t.stack) (find_keeps t.entries p t.stack keep)
  where
    handler : ℕ → ℕ → Option Dispatch → Option ℕ → What
    handler g x (Some d) m = HandlerOf d g x m
    handler g x None m = Unnamed

    of_run : (found : Option Dispatch) → DispatchKeeps t.entries found → WhatStays t.entries (handler g x found (maker_by (declares_handler x) t.entries))
    of_run None keeps = tt
    of_run (Some d) keeps = (keeps, λ m f. f)
begun_keeps t (Close p) keep = of_close (find_open p t.stack) (find_keeps t.entries p t.stack keep)
  where
    close : Option Dispatch → What
    close None = Unnamed
    close (Some d) = CloseOf d

    of_close : (found : Option Dispatch) → DispatchKeeps t.entries found → WhatStays t.entries (close found)
    of_close None keeps = tt
    of_close (Some d) keeps = keeps
begun_keeps t x keep = of_begin (dispatch_begun t.entries (length t.actions) x) (dispatch_keeps t.entries (length t.actions) x)
  where
    begin : Option Dispatch → What
    begin None = Unnamed
    begin (Some d) = BeginOf d

    of_begin : (found : Option Dispatch) → DispatchKeeps t.entries found → WhatStays t.entries (begin found)
    of_begin None keeps = tt
    of_begin (Some d) keeps = keeps

pub resumed_keeps : (t : History) (p : ℕ) → ActionsKeep t.entries t.actions → WhatStays t.entries (event_resumed t p).what
resumed_keeps t p keep = of_found (find_open p t.stack)
  where
    event_of : Option Action → Event
    event_of None = record { number = length t.actions; what = Unnamed }
    event_of (Some a) = a.event

    of : Option Dispatch → Event
    of None = event_of None
    of (Some d) = event_of (action_at (d.begin - 1) t.actions)

    at : (found : Option Action) → ActionKeeps t.entries found → WhatStays t.entries (event_of found).what
    at None keeps = tt
    at (Some a) keeps = keeps

    of_found : (found : Option Dispatch) → WhatStays t.entries (of found).what
    of_found None = tt
    of_found (Some d) = at (action_at (d.begin - 1) t.actions) (at_keeps t.entries (d.begin - 1) t.actions keep)

pub event_keeps : (t : History) (x : Record) → ActionsKeep t.entries t.actions → OpenKeep t.entries t.stack → WhatStays t.entries (event_begun t x).what
event_keeps t (Back p) keep stack = resumed_keeps t p keep
event_keeps t x keep stack = begun_keeps t x stack

pub stack_keeps : (es : List Entry) (stack : List Open) (d : Option Dispatch) (x : Record) → OpenKeep es stack → DispatchKeeps es d → OpenKeep es (stack_after stack d x)
stack_keeps es [] d (Close p) keep begun = tt
stack_keeps es (o ∷ below) d (Close p) keep begun = step (is_inline o.dispatch)
  where
    step : (b : Bool) → OpenKeep es (if b then record { dispatch = o.dispatch; closing = true } ∷ below else below)
    step true = keep
    step false = keep.1
stack_keeps es [] d (Back p) keep begun = tt
stack_keeps es (o ∷ below) d (Back p) keep begun = keep.1
stack_keeps es stack (Some d) x keep begun = (begun, keep)
stack_keeps es stack None x keep begun = keep

-- the whole list

pub all_keep : (h : List Record) → ActionsKeep (told h).entries (told h).actions × OpenKeep (told h).entries (told h).stack
all_keep [] = (tt, tt)
all_keep (x ∷ h) = after_keeps (told h) x (begins x) (all_keep h)
  where
    after_keeps : (t : History) (x : Record) (b : Bool) → ActionsKeep t.entries t.actions × OpenKeep t.entries t.stack
        → ActionsKeep (record { read = x; place = length t.entries; action = running (if b then action_begun t x ∷ t.actions else t.actions) } ∷ t.entries) (if b then action_begun t x ∷ t.actions else t.actions)
        × OpenKeep (record { read = x; place = length t.entries; action = running (if b then action_begun t x ∷ t.actions else t.actions) } ∷ t.entries) (stack_after t.stack (dispatch_begun t.entries (length t.actions) x) x)
    after_keeps t x true keep =
        let entry : Entry = record { read = x; place = length t.entries; action = Some (action_begun t x) } in (
          actions_more entry t.entries (action_begun t x ∷ t.actions) (event_keeps t x keep.0 keep.1, keep.0),
          open_more entry t.entries (stack_after t.stack (dispatch_begun t.entries (length t.actions) x) x) (stack_keeps t.entries t.stack (dispatch_begun t.entries (length t.actions) x) x keep.1 (dispatch_keeps t.entries (length t.actions) x)),
        )
    after_keeps t x false keep =
        let entry : Entry = record { read = x; place = length t.entries; action = running t.actions } in (
          actions_more entry t.entries t.actions keep.0,
          open_more entry t.entries (stack_after t.stack (dispatch_begun t.entries (length t.actions) x) x) (stack_keeps t.entries t.stack (dispatch_begun t.entries (length t.actions) x) x keep.1 (dispatch_keeps t.entries (length t.actions) x)),
        )

pub among_keeps : (es : List Entry) (actions : List Action) (a : Action) → ActionsKeep es actions → Among a actions → WhatStays es a.event.what
among_keeps es [] a keep among = absurd among
among_keeps es (x ∷ older) a keep (inl same) = subst (λ (c : Action). WhatStays es c.event.what) (sym same) keep.0
among_keeps es (x ∷ older) a keep (inr deeper) = among_keeps es older a keep.1 deeper

pub facts_stay : FactsStay
facts_stay h a among = among_keeps (told h).entries (told h).actions a (all_keep h).0 among
