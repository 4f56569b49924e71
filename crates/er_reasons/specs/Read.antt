-- What an event is, by the record that began it and what the whole list says. Lists of records
-- stand newest first.
use Rattle.std.specs.Prelude.{◌≡◌, ◌==◌, if◌then◌else◌, ℕ, List, [], Option, Some, None}
use Rattle.er_trace.specs.declared.record.Record.{Record}
use Rattle.er_trace.specs.declared.record.Record.TheVariants.{Parse, ParseFrame, Exec, Timer, Tick, Dcl, Load, Eload, Fire, Wfire, Reply, Inline, Run, Close, Message, Anim, Job}
use Rattle.er_history.specs.History.{Delivery, DclOf, LoadOf, EloadOf, FireAt, InlineAt, WindowFire, ReplyOf, Dispatch, What, ParseStep, ScriptRun, TimeoutRun, TickRun, BeginOf, HandlerOf, CloseOf, MessageRun, AnimRun, JobRun, Unnamed, Action, action_at, told}
use Rattle.er_history.specs.Laws.{Among}
use Rattle.er_history.specs.LookUps.{begin_of, begin_event, element_made, timeout_made, maker_of_element, maker_of_document, maker_of_handler, maker_of_interval, maker_of_request}
use Rattle.er_history.specs.Naming.{IsNamed}
use Rattle.er_history.specs.Tasks.{OfMessage, OfAnim, OfJob, task_made}

-- what a record delivers that begins a dispatch
abbrev pub delivery_read : List Record → Record → Option Delivery
delivery_read h (Dcl p d) = Some (DclOf d (maker_of_document h d))
delivery_read h (Load p d) = Some (LoadOf d (maker_of_document h d))
delivery_read h (Eload p e) = Some (EloadOf e (element_made h e))
delivery_read h (Fire p e n) = Some (FireAt e n (maker_of_element h e))
delivery_read h (Inline p e n) = Some (InlineAt e n (maker_of_element h e))
delivery_read h (Wfire p d n) = Some (WindowFire d n (maker_of_document h d))
delivery_read h (Reply p r) = Some (ReplyOf r (maker_of_request h r))
delivery_read h _ = None

abbrev pub dispatch_of : ℕ → ℕ → Option Delivery → Option Dispatch
dispatch_of p k None = None
dispatch_of p k (Some d) = Some (record { number = p; begin = k; delivers = d })

-- the dispatch of number p that a record begins as action k
abbrev pub dispatch_by : List Record → ℕ → ℕ → Record → Option Dispatch
dispatch_by h p k x = dispatch_of p k (delivery_read h x)

abbrev pub dispatch_from : List Record → ℕ → ℕ → Option Record → Option Dispatch
dispatch_from h p k None = None
dispatch_from h p k (Some x) = dispatch_by h p k x

abbrev pub dispatch_at : List Record → ℕ → Option ℕ → Option Dispatch
dispatch_at h p None = None
dispatch_at h p (Some k) = dispatch_from h p k (begin_of h k)

-- the dispatch of this number
abbrev pub dispatch_read : List Record → ℕ → Option Dispatch
dispatch_read h p = dispatch_at h p (begin_event h p)

abbrev pub begun_what : Option Dispatch → What
begun_what None = Unnamed
begun_what (Some d) = BeginOf d

abbrev pub handler_what : ℕ → ℕ → Option ℕ → Option Dispatch → What
handler_what g y m None = Unnamed
handler_what g y m (Some d) = HandlerOf d g y m

abbrev pub close_what : Option Dispatch → What
close_what None = Unnamed
close_what (Some d) = CloseOf d

-- the dispatches that were on the stack when a job began
abbrev pub within_in : What → List ℕ
within_in (JobRun j made within) = within
within_in _ = []

-- of a job's first piece
abbrev pub within_at : Option Action → List ℕ
within_at None = []
within_at (Some a) = if a.number == a.event.number then within_in a.event.what else []

-- when the job began of which this action is the first piece
abbrev pub within_of : List Record → ℕ → List ℕ
within_of h k = within_at (action_at k (told h).actions)

-- what the event is that a record began as action k
abbrev pub what_read : List Record → ℕ → Record → What
what_read h k (Parse d e f) = ParseStep d (maker_of_document h d)
what_read h k (ParseFrame d e f) = ParseStep d (maker_of_document h d)
what_read h k (Exec e) = ScriptRun e (element_made h e)
what_read h k (Timer t) = TimeoutRun t (timeout_made h t)
what_read h k (Tick i) = TickRun i (maker_of_interval h i)
what_read h k (Message m) = MessageRun m (task_made OfMessage h m)
what_read h k (Anim a) = AnimRun a (task_made OfAnim h a)
what_read h k (Job j) = JobRun j (task_made OfJob h j) (within_of h k)
what_read h k (Run p g y) = handler_what g y (maker_of_handler h y) (dispatch_read h p)
what_read h k (Close p) = close_what (dispatch_read h p)
what_read h k (Dcl p d) = begun_what (dispatch_by h p k (Dcl p d))
what_read h k (Load p d) = begun_what (dispatch_by h p k (Load p d))
what_read h k (Eload p e) = begun_what (dispatch_by h p k (Eload p e))
what_read h k (Fire p e n) = begun_what (dispatch_by h p k (Fire p e n))
what_read h k (Inline p e n) = begun_what (dispatch_by h p k (Inline p e n))
what_read h k (Wfire p d n) = begun_what (dispatch_by h p k (Wfire p d n))
what_read h k (Reply p r) = begun_what (dispatch_by h p k (Reply p r))
what_read h k _ = Unnamed

-- Where naming refuses no record, an event is what the record of its first piece and the
-- whole list say.
abbrev pub EventsAreAsRead : Type 0
EventsAreAsRead = (h : List Record) (a : Action) → IsNamed h → Among a (told h).actions
    → a.event.number ≡ a.number → a.event.what ≡ what_read h a.number a.begin
