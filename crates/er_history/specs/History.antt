-- What a list of records says: which actions have begun, of which events they are pieces, and which
-- dispatches are not finished. Lists stand newest first.
use Rattle.std.specs.Prelude.{ℕ, ◌-◌, Bool, true, false, ◌==◌, if◌then◌else◌, List, [], ◌∷◌, length, map, Option, Some, None}
pub use Rattle.er_numbers.specs.Numbers.{or_else}
use Rattle.er_trace.specs.Signature.{nesting}
use Rattle.er_trace.specs.declared.nesting.Nesting.{Nesting}
use Rattle.er_trace.specs.declared.nesting.Nesting.TheVariants.{Note, Alone, OutsideInline, Called, Under, Behind}
use Rattle.er_trace.specs.declared.record.Record.{Record}
use Rattle.er_trace.specs.declared.record.Record.TheVariants.{Parse, ParseFrame, Exec, Timer, Tick, Dcl, Load, Eload, Fire, Wfire, Reply, Inline, Run, Close, Back, New, NewFrame, Set, Message, Anim, Job}
use Rattle.er_trace.specs.declared.record.Kind.{Kind}
use Rattle.er_trace.specs.declared.record.Kind.TheVariants as kinds
use Rattle.er_trace.specs.declared.record.NewKind.{NewKind}
use Rattle.er_trace.specs.declared.record.NewKind.TheVariants as new_kinds
use Rattle.er_history.specs.Claimed.{AsDocument, AsHandler, AsInterval, AsRequest, AsMessage, AsAnim, AsJob, claims_as}

-- The form of an element: one with a kind, or a frame with the document inside.
pub data Form : Type 0 where
  Kinded : (kind : Kind) → Form
  Framing : (inner : ℕ) → Form

-- An element: its document, its form, whether a parse step made it, and the event and the piece
-- that made it.
pub record Element : Type 0 where
  pub doc : ℕ
  pub form : Form
  pub is_static : Bool
  pub maker : ℕ
  pub piece : ℕ

-- A timeout: its delay, the place of its record in the list, and the event and the piece
-- that set it.
pub record Timeout : Type 0 where
  pub delay : ℕ
  pub place : ℕ
  pub maker : ℕ
  pub piece : ℕ

-- A message, an animation callback or a job: the place of the record that declares it in the list,
-- and the event and the piece that hold that.
pub record Task : Type 0 where
  pub place : ℕ
  pub maker : ℕ
  pub piece : ℕ

-- What a dispatch delivers, with the event that made its target. Document 0 has none.
pub data Delivery : Type 0 where
  DclOf : (doc : ℕ) → (maker : Option ℕ) → Delivery
  LoadOf : (doc : ℕ) → (maker : Option ℕ) → Delivery
  EloadOf : (element : ℕ) → (made : Option Element) → Delivery
  FireAt : (element : ℕ) → (name : List ℕ) → (maker : Option ℕ) → Delivery
  InlineAt : (element : ℕ) → (name : List ℕ) → (maker : Option ℕ) → Delivery
  WindowFire : (doc : ℕ) → (name : List ℕ) → (maker : Option ℕ) → Delivery
  ReplyOf : (request : ℕ) → (maker : Option ℕ) → Delivery

-- A dispatch, and the action that is its begin.
pub record Dispatch : Type 0 where
  pub number : ℕ
  pub begin : ℕ
  pub delivers : Delivery

abbrev pub is_inline : Dispatch → Bool
is_inline d = by d.delivers
  where
    by : Delivery → Bool
    by (InlineAt e n m) = true
    by _ = false

-- What an event is, with all that a rule asks of it: the number in its record, and what was
-- declared under it; of a job besides the dispatches on the stack. This is fixed when it begins.
-- `Unnamed` stands only in a list that naming refuses.
pub data What : Type 0 where
  ParseStep : (doc : ℕ) → (maker : Option ℕ) → What
  ScriptRun : (element : ℕ) → (made : Option Element) → What
  TimeoutRun : (timeout : ℕ) → (made : Option Timeout) → What
  TickRun : (interval : ℕ) → (maker : Option ℕ) → What
  BeginOf : (dispatch : Dispatch) → What
  HandlerOf : (dispatch : Dispatch) → (group : ℕ) → (handler : ℕ) → (maker : Option ℕ) → What
  CloseOf : (dispatch : Dispatch) → What
  MessageRun : (message : ℕ) → (made : Option Task) → What
  AnimRun : (anim : ℕ) → (made : Option Task) → What
  JobRun : (job : ℕ) → (made : Option Task) → (within : List ℕ) → What
  Unnamed : What

-- An event has the number of its first piece.
pub record Event : Type 0 where
  pub number : ℕ
  pub what : What

-- An action, the record that began it, and the event that it is a piece of.
pub record Action : Type 0 where
  pub number : ℕ
  pub begin : Record
  pub event : Event

-- A record with its place, and the action that runs when it has been read.
pub record Entry : Type 0 where
  pub read : Record
  pub place : ℕ
  pub action : Option Action

-- A dispatch that is not finished, and whether its close has begun.
pub record Open : Type 0 where
  pub dispatch : Dispatch
  pub closing : Bool

pub record History : Type 0 where
  pub entries : List Entry
  pub actions : List Action
  pub stack : List Open

-- a record with this nesting begins an action: only a note begins none
abbrev pub begins_at : Nesting → Bool
begins_at Note = false
begins_at Alone = true
begins_at OutsideInline = true
begins_at Called = true
begins_at (Under p) = true
begins_at (Behind p) = true

-- the record begins an action
abbrev pub begins : Record → Bool
begins x = begins_at (nesting x)

-- the first of a list, newest first, that gives something
abbrev pub first_to : {A B : Type 0} → (A → Option B) → List A → Option B
first_to f [] = None
first_to f (x ∷ xs) = or_else (first_to f xs) (f x)

-- the kind that a script gives a new element
abbrev pub kind_of : NewKind → Kind
kind_of new_kinds.Plain = kinds.Plain
kind_of new_kinds.Async = kinds.Async
kind_of new_kinds.Image = kinds.Image

-- The maker of a number is the event of the action that runs when the record that
-- declares it has been read.

-- the element that an entry makes under this number
abbrev pub makes_element : ℕ → Entry → Option Element
makes_element number entry = by entry.action entry.read
  where
    made : ℕ → ℕ → Form → Bool → Action → Option Element
    made d e form static a =
        if e == number
        then Some (record {
          doc = d;
          form = form;
          is_static = static;
          maker = a.event.number;
          piece = a.number;
        })
        else None

    by : Option Action → Record → Option Element
    by (Some a) (Parse d e k) = made d e (Kinded k) true a
    by (Some a) (ParseFrame d e f) = made d e (Framing f) true a
    by (Some a) (New d e k) = made d e (Kinded (kind_of k)) false a
    by (Some a) (NewFrame d e f) = made d e (Framing f) false a
    by _ _ = None

-- the timeout that an entry sets under this number
abbrev pub makes_timeout : ℕ → Entry → Option Timeout
makes_timeout number entry = by entry.action entry.read
  where
    by : Option Action → Record → Option Timeout
    by (Some a) (Set t n) =
        if t == number
        then Some (record {
          delay = n;
          place = entry.place;
          maker = a.event.number;
          piece = a.number;
        })
        else None
    by _ _ = None

abbrev pub declares_document : ℕ → Record → Bool
declares_document = claims_as AsDocument

abbrev pub declares_handler : ℕ → Record → Bool
declares_handler = claims_as AsHandler

abbrev pub declares_interval : ℕ → Record → Bool
declares_interval = claims_as AsInterval

abbrev pub declares_request : ℕ → Record → Bool
declares_request = claims_as AsRequest

abbrev pub posts_message : ℕ → Record → Bool
posts_message = claims_as AsMessage

abbrev pub asks_for_anim : ℕ → Record → Bool
asks_for_anim = claims_as AsAnim

abbrev pub queues_job : ℕ → Record → Bool
queues_job = claims_as AsJob

-- the task that an entry declares whose record passes the test
abbrev pub makes_task : (Record → Bool) → Entry → Option Task
makes_task test entry = task_in entry.place entry.action (test entry.read)
  where
    task_in : ℕ → Option Action → Bool → Option Task
    task_in place (Some a) true =
        Some (record { place = place; maker = a.event.number; piece = a.number })
    task_in place _ _ = None

-- the event whose piece holds the first record that passes the test while an action runs
abbrev pub maker_by : (Record → Bool) → List Entry → Option ℕ
maker_by test entries = first_to (λ entry. maker_in entry.action (test entry.read)) entries
  where
    maker_in : Option Action → Bool → Option ℕ
    maker_in (Some a) true = Some a.event.number
    maker_in _ _ = None

abbrev pub element_maker : List Entry → ℕ → Option ℕ
element_maker entries e = maker_of (first_to (makes_element e) entries)
  where
    maker_of : Option Element → Option ℕ
    maker_of None = None
    maker_of (Some x) = Some x.maker

-- the uppermost dispatch of this number on the stack
abbrev pub find_open : ℕ → List Open → Option Dispatch
find_open p [] = None
find_open p (o ∷ below) = if o.dispatch.number == p then Some o.dispatch else find_open p below

abbrev pub action_at : ℕ → List Action → Option Action
action_at k [] = None
action_at k (a ∷ older) = if a.number == k then Some a else action_at k older

-- the dispatch that a record begins as action k
abbrev pub dispatch_begun : List Entry → ℕ → Record → Option Dispatch
dispatch_begun entries k x = by x
  where
    at : ℕ → Delivery → Option Dispatch
    at p d = Some (record { number = p; begin = k; delivers = d })

    by : Record → Option Dispatch
    by (Dcl p d) = at p (DclOf d (maker_by (declares_document d) entries))
    by (Load p d) = at p (LoadOf d (maker_by (declares_document d) entries))
    by (Eload p e) = at p (EloadOf e (first_to (makes_element e) entries))
    by (Fire p e n) = at p (FireAt e n (element_maker entries e))
    by (Inline p e n) = at p (InlineAt e n (element_maker entries e))
    by (Wfire p d n) = at p (WindowFire d n (maker_by (declares_document d) entries))
    by (Reply p r) = at p (ReplyOf r (maker_by (declares_request r) entries))
    by _ = None

-- what the event is that a record begins
abbrev pub what_begun : History → Record → What
what_begun h x = by x
  where
    handler : ℕ → ℕ → Option Dispatch → Option ℕ → What
    handler g x (Some d) m = HandlerOf d g x m
    handler g x None m = Unnamed

    close : Option Dispatch → What
    close None = Unnamed
    close (Some d) = CloseOf d

    begin : Option Dispatch → What
    begin None = Unnamed
    begin (Some d) = BeginOf d

    by : Record → What
    by (Parse d e k) = ParseStep d (maker_by (declares_document d) h.entries)
    by (ParseFrame d e f) = ParseStep d (maker_by (declares_document d) h.entries)
    by (Exec e) = ScriptRun e (first_to (makes_element e) h.entries)
    by (Timer t) = TimeoutRun t (first_to (makes_timeout t) h.entries)
    by (Tick i) = TickRun i (maker_by (declares_interval i) h.entries)
    by (Run p g x) = handler g x (find_open p h.stack) (maker_by (declares_handler x) h.entries)
    by (Close p) = close (find_open p h.stack)
    by (Message m) = MessageRun m (first_to (makes_task (posts_message m)) h.entries)
    by (Anim a) = AnimRun a (first_to (makes_task (asks_for_anim a)) h.entries)
    by (Job j) =
        JobRun j (first_to (makes_task (queues_job j)) h.entries)
        (map (λ (o : Open). o.dispatch.number) h.stack)
    by x = begin (dispatch_begun h.entries (length h.actions) x)

-- the event that goes on where inline dispatch p is finished: that of the piece just
-- before its begin
abbrev pub event_resumed : History → ℕ → Event
event_resumed h p = of (find_open p h.stack)
  where
    event_of : Option Action → Event
    event_of None = record { number = length h.actions; what = Unnamed }
    event_of (Some a) = a.event

    of : Option Dispatch → Event
    of None = event_of None
    of (Some d) = event_of (action_at (d.begin - 1) h.actions)

-- only `back` begins a further piece of an event
abbrev pub event_begun : History → Record → Event
event_begun h (Back p) = event_resumed h p
event_begun h x = record { number = length h.actions; what = what_begun h x }

abbrev pub action_begun : History → Record → Action
action_begun h x = record { number = length h.actions; begin = x; event = event_begun h x }

-- A dispatch that begins is put on top. At a close the top leaves, where it is not inline; an
-- inline one leaves at `back`. Naming lets only the top dispatch be closed.
abbrev pub stack_after : List Open → Option Dispatch → Record → List Open
stack_after stack d (Close p) = closed stack
  where
    closed : List Open → List Open
    closed [] = []
    closed (o ∷ below) =
        if is_inline o.dispatch
        then record { dispatch = o.dispatch; closing = true } ∷ below
        else below
stack_after stack d (Back p) = left stack
  where
    left : List Open → List Open
    left [] = []
    left (o ∷ below) = below
stack_after stack (Some d) x = record { dispatch = d; closing = false } ∷ stack
stack_after stack None x = stack

-- the action that was begun last
abbrev pub running : List Action → Option Action
running [] = None
running (a ∷ older) = Some a

abbrev pub actions_after : History → Record → List Action
actions_after h x = if begins x then action_begun h x ∷ h.actions else h.actions

-- one record more
abbrev pub after : History → Record → History
after h x = record {
  entries = record { read = x; place = length h.entries; action = running (actions_after h x) }
      ∷ h.entries;
  actions = actions_after h x;
  stack = stack_after h.stack (dispatch_begun h.entries (length h.actions) x) x;
}

abbrev pub start : History
start = record { entries = []; actions = []; stack = [] }

-- The history of a list of records, newest first. Behind a record that naming refuses it says
-- nothing that is used.
abbrev pub told : List Record → History
told [] = start
told (x ∷ h) = after (told h) x
