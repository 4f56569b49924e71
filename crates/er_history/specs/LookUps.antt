-- What the look-ups of a page answer, each by the list of records alone. Lists of records stand
-- newest first; a list of events that a look-up answers stands oldest first.
use Rattle.std.specs.Prelude.{ℕ, ◌-◌, Bool, true, false, ◌==◌, nat_lt, if◌then◌else◌, List, [], ◌∷◌, ◌++◌, length, map, reverse, option_map, Option, Some, None}
use Rattle.er_trace.specs.declared.record.Record.{Record}
use Rattle.er_trace.specs.declared.record.Record.TheVariants.{ParseFrame, NewFrame, Dcl, Load, Eload, Inline, Close, Timer, Post, Ask, Queue}
use Rattle.er_trace.specs.declared.record.Kind.{Kind}
use Rattle.er_trace.specs.declared.record.Kind.TheVariants as kinds
use Rattle.er_history.specs.History.{told, first_to, maker_by, element_maker, makes_element, makes_timeout, declares_document, declares_handler, declares_interval, declares_request, action_at, running, Action, Element, Timeout, Entry, Open, Delivery, Form, Kinded, Framing, FireAt, WindowFire, What, ScriptRun}
use Rattle.er_history.specs.Rules.{is_blocking, is_deferred}
use Rattle.er_history.specs.Naming.{runs_script, fires_timeout, begins_dispatch, inline_open}
use Rattle.er_history.specs.Latest.{newest_by, is_event, events_of_each, greatest_group}
use Rattle.er_history.specs.Kinds.{is_step_of, is_run_of, is_static_async, is_tick_of, closes, is_close_at, is_reply_of, is_static_load_of, is_handler_of, is_job_within}
use Rattle.er_history.specs.Tasks.{OfMessage, OfAnim, OfJob, task_piece, task_event, task_place, tasks_begun, queued_by}

-- the close of a dispatch
abbrev pub closes_dispatch : ℕ → Record → Bool
closes_dispatch number (Close p) = p == number
closes_dispatch number _ = false

-- the frame element that a record makes with this document in it
abbrev pub makes_frame : ℕ → Record → Option ℕ
makes_frame doc (ParseFrame d e f) = if f == doc then Some e else None
makes_frame doc (NewFrame d e f) = if f == doc then Some e else None
makes_frame doc _ = None

-- the dispatch that a record begins as DOMContentLoaded or load of this document, or as first load
-- event of this element
abbrev pub begins_dcl : ℕ → Record → Option ℕ
begins_dcl doc (Dcl p d) = if d == doc then Some p else None
begins_dcl doc _ = None

abbrev pub begins_load : ℕ → Record → Option ℕ
begins_load doc (Load p d) = if d == doc then Some p else None
begins_load doc _ = None

abbrev pub begins_eload : ℕ → Record → Option ℕ
begins_eload element (Eload p e) = if e == element then Some p else None
begins_eload element _ = None

-- Actions, and the events that they are pieces of.

abbrev pub running_action : List Record → Option ℕ
running_action h = option_map (λ (a : Action). a.number) (running (told h).actions)

-- the record that began an action
abbrev pub begin_of : List Record → ℕ → Option Record
begin_of h k = option_map (λ (a : Action). a.begin) (action_at k (told h).actions)

abbrev pub event_of : List Record → ℕ → Option ℕ
event_of h k = option_map (λ (a : Action). a.event.number) (action_at k (told h).actions)

abbrev pub piece_in : Option Action → Option ℕ
piece_in a = option_map (λ (b : Action). b.number) a

abbrev pub event_in : Option Action → Option ℕ
event_in a = option_map (λ (b : Action). b.event.number) a

-- the last piece of the event so far
abbrev pub latest_piece : List Record → ℕ → Option ℕ
latest_piece h u = piece_in (newest_by (is_event u) (told h).actions)

-- Makers.

abbrev pub maker_of_element : List Record → ℕ → Option ℕ
maker_of_element h e = element_maker (told h).entries e

abbrev pub maker_of_document : List Record → ℕ → Option ℕ
maker_of_document h d = maker_by (declares_document d) (told h).entries

abbrev pub maker_of_handler : List Record → ℕ → Option ℕ
maker_of_handler h x = maker_by (declares_handler x) (told h).entries

abbrev pub maker_of_interval : List Record → ℕ → Option ℕ
maker_of_interval h i = maker_by (declares_interval i) (told h).entries

abbrev pub maker_of_request : List Record → ℕ → Option ℕ
maker_of_request h r = maker_by (declares_request r) (told h).entries

abbrev pub timeout_made : List Record → ℕ → Option Timeout
timeout_made h t = first_to (makes_timeout t) (told h).entries

abbrev pub maker_of_timeout : List Record → ℕ → Option ℕ
maker_of_timeout h t = option_map (λ (x : Timeout). x.maker) (timeout_made h t)

-- the piece that set it
abbrev pub setting_piece : List Record → ℕ → Option ℕ
setting_piece h t = option_map (λ (x : Timeout). x.piece) (timeout_made h t)

-- Elements and documents.

abbrev pub element_made : List Record → ℕ → Option Element
element_made h e = first_to (makes_element e) (told h).entries

abbrev pub document_of : List Record → ℕ → Option ℕ
document_of h e = option_map (λ (x : Element). x.doc) (element_made h e)

-- a parse step made it
abbrev pub is_static : List Record → ℕ → Bool
is_static h e = of (element_made h e)
  where
    of : Option Element → Bool
    of None = false
    of (Some x) = x.is_static

-- the kind of a script
abbrev pub script_kind : List Record → ℕ → Option Kind
script_kind h e = of (element_made h e)
  where
    of_kind : Kind → Option Kind
    of_kind kinds.Plain = None
    of_kind kinds.Image = None
    of_kind k = Some k

    of_form : Form → Option Kind
    of_form (Kinded k) = of_kind k
    of_form (Framing f) = None

    of : Option Element → Option Kind
    of None = None
    of (Some x) = of_form x.form

-- the frame element that declared the document
abbrev pub frame_of : List Record → ℕ → Option ℕ
frame_of h d = first_to (makes_frame d) h

-- the document that the frame element declared
abbrev pub inner_of : List Record → ℕ → Option ℕ
inner_of h e = of (element_made h e)
  where
    of_form : Form → Option ℕ
    of_form (Kinded k) = None
    of_form (Framing f) = Some f

    of : Option Element → Option ℕ
    of None = None
    of (Some x) = of_form x.form

-- the parse step that made a static element
abbrev pub parse_action : List Record → ℕ → Option ℕ
parse_action h e = of (element_made h e)
  where
    of : Option Element → Option ℕ
    of None = None
    of (Some x) = if x.is_static then Some x.piece else None

-- What came last in a document.

-- the script that an event runs
abbrev pub script_run : What → Option ℕ
script_run (ScriptRun e made) = Some e
script_run _ = None

abbrev pub script_in : Option Action → Option ℕ
script_in None = None
script_in (Some a) = script_run a.event.what

abbrev pub last_parse : List Record → ℕ → Option ℕ
last_parse h d = event_in (newest_by (is_step_of d) (told h).actions)

abbrev pub last_blocking_run : List Record → ℕ → Option ℕ
last_blocking_run h d = event_in (newest_by (is_run_of is_blocking d) (told h).actions)

abbrev pub last_deferred_run : List Record → ℕ → Option ℕ
last_deferred_run h d = event_in (newest_by (is_run_of is_deferred d) (told h).actions)

-- the script whose run that is
abbrev pub last_deferred_element : List Record → ℕ → Option ℕ
last_deferred_element h d = script_in (newest_by (is_run_of is_deferred d) (told h).actions)

-- the events of the runs of its static async scripts
abbrev pub async_runs : List Record → ℕ → List ℕ
async_runs h d = reverse (events_of_each (is_run_of is_static_async d) (told h).actions)

-- the closes of the first load events of its static elements that are not plain
abbrev pub static_closes : List Record → ℕ → List ℕ
static_closes h d = reverse (events_of_each (closes (is_static_load_of d)) (told h).actions)

-- What came last of an interval, of a request, in a dispatch and at a target.

abbrev pub last_tick : List Record → ℕ → Option ℕ
last_tick h i = event_in (newest_by (is_tick_of i) (told h).actions)

abbrev pub last_reply_close : List Record → ℕ → Option ℕ
last_reply_close h r = event_in (newest_by (closes (is_reply_of r)) (told h).actions)

-- the greatest group of the dispatch that has run
abbrev pub last_group : List Record → ℕ → Option ℕ
last_group h p = greatest_group p (λ k. true) (told h).actions

-- the greatest that has run and is less
abbrev pub group_below : List Record → ℕ → ℕ → Option ℕ
group_below h p g = greatest_group p (λ k. nat_lt k g) (told h).actions

-- the handlers of a group that have run
abbrev pub runs_in : List Record → ℕ → ℕ → List ℕ
runs_in h p g = reverse (events_of_each (is_handler_of p (λ k. k == g)) (told h).actions)

-- the latest piece of a close of a dispatch of this type at the target
abbrev pub last_close_at : Delivery → List Action → Option ℕ
last_close_at target actions = piece_in (newest_by (is_close_at target) actions)

-- at the element, begun by `fire` or `inline`
abbrev pub last_element_close : List Record → ℕ → List ℕ → Option ℕ
last_element_close h e n = last_close_at (FireAt e n None) (told h).actions

-- at the window of the document, begun by `wfire`
abbrev pub last_window_close : List Record → ℕ → List ℕ → Option ℕ
last_window_close h d n = last_close_at (WindowFire d n None) (told h).actions

-- Runs, timeouts, begins and closes answer an event, which the record begins itself; loads and
-- DOMContentLoaded a dispatch.

abbrev pub run_of : List Record → ℕ → Option ℕ
run_of h e = maker_by (runs_script e) (told h).entries

abbrev pub eload_of : List Record → ℕ → Option ℕ
eload_of h e = first_to (begins_eload e) h

abbrev pub dcl_of : List Record → ℕ → Option ℕ
dcl_of h d = first_to (begins_dcl d) h

abbrev pub load_of : List Record → ℕ → Option ℕ
load_of h d = first_to (begins_load d) h

abbrev pub delay_of : List Record → ℕ → Option ℕ
delay_of h t = option_map (λ (x : Timeout). x.delay) (timeout_made h t)

abbrev pub timer_event : List Record → ℕ → Option ℕ
timer_event h t = maker_by (fires_timeout t) (told h).entries

-- the number of the dispatch that is on top
abbrev pub top : List Open → Option ℕ
top [] = None
top (o ∷ below) = Some o.dispatch.number

abbrev pub open_dispatch : List Record → Option ℕ
open_dispatch h = top (told h).stack

-- how many inline dispatches are on the stack
abbrev pub inline_depth : List Record → ℕ
inline_depth h = length (inline_open (told h).stack)

-- the piece just before the begin of the inline dispatch
abbrev pub suspends : ℕ → Entry → Option ℕ
suspends number entry = by entry.action entry.read
  where
    by : Option Action → Record → Option ℕ
    by (Some a) (Inline p e n) = if p == number then Some (a.number - 1) else None
    by _ _ = None

abbrev pub suspended_by : List Record → ℕ → Option ℕ
suspended_by h p = first_to (suspends p) (told h).entries

abbrev pub begin_event : List Record → ℕ → Option ℕ
begin_event h p = maker_by (begins_dispatch p) (told h).entries

abbrev pub close_event : List Record → ℕ → Option ℕ
close_event h p = maker_by (closes_dispatch p) (told h).entries

-- the timeout whose callback the record begins, where this event set it
abbrev pub fires_of : List Record → ℕ → Record → List ℕ
fires_of h u (Timer t) = by (timeout_made h t)
  where
    by : Option Timeout → List ℕ
    by None = []
    by (Some made) = if made.maker == u then t ∷ [] else []
fires_of h u _ = []

-- the timeouts set in the event that have fired, in order of firing
abbrev pub fired_with : List Record → ℕ → List ℕ
fired_with [] u = []
fired_with (x ∷ h) u = fired_with h u ++ fires_of h u x

-- the timeout whose callback the record begins, where one set it
abbrev pub fires : List Record → Record → List ℕ
fires h (Timer t) = by (timeout_made h t)
  where
    by : Option Timeout → List ℕ
    by None = []
    by (Some made) = t ∷ []
fires h _ = []

-- all timeouts that have fired, in order of firing
abbrev pub fired : List Record → List ℕ
fired [] = []
fired (x ∷ h) = fired h ++ fires h x

abbrev pub place_of : List Record → ℕ → Option ℕ
place_of h t = option_map (λ (x : Timeout). x.place) (timeout_made h t)

abbrev pub before : Option ℕ → Option ℕ → Bool
before None o = false
before (Some a) None = false
before (Some a) (Some b) = nat_lt a b

-- both timeouts are set, the first in an earlier record
abbrev pub set_before : List Record → ℕ → ℕ → Bool
set_before h t u = before (place_of h t) (place_of h u)

-- Messages, animation callbacks and jobs. Each of these is a word of Tasks, of one kind.

-- the pieces that declared them
abbrev pub message_piece : List Record → ℕ → Option ℕ
message_piece h m = task_piece OfMessage h m

abbrev pub anim_piece : List Record → ℕ → Option ℕ
anim_piece h a = task_piece OfAnim h a

abbrev pub job_piece : List Record → ℕ → Option ℕ
job_piece h j = task_piece OfJob h j

-- the events that they are
abbrev pub message_event : List Record → ℕ → Option ℕ
message_event h m = task_event OfMessage h m

abbrev pub anim_event : List Record → ℕ → Option ℕ
anim_event h a = task_event OfAnim h a

abbrev pub job_event : List Record → ℕ → Option ℕ
job_event h j = task_event OfJob h j

-- the numbers whose events have begun, in order
abbrev pub messages : List Record → List ℕ
messages h = tasks_begun OfMessage h

abbrev pub anims : List Record → List ℕ
anims h = tasks_begun OfAnim h

abbrev pub jobs : List Record → List ℕ
jobs h = tasks_begun OfJob h

-- two notes of one kind declare numbers that are declared, the first in an earlier record
abbrev pub declared_before : List Record → Record → Record → Bool
declared_before h (Post m) (Post n) = before (task_place OfMessage h m) (task_place OfMessage h n)
declared_before h (Ask a) (Ask b) = before (task_place OfAnim h a) (task_place OfAnim h b)
declared_before h (Queue j) (Queue k) = before (task_place OfJob h j) (task_place OfJob h k)
declared_before h _ _ = false

-- the events of the jobs queued in the event that have begun, in order
abbrev pub jobs_queued : List Record → ℕ → List ℕ
jobs_queued [] u = []
jobs_queued (x ∷ h) u = jobs_queued h u ++ map (λ j. length (told h).actions) (queued_by h u x)

-- the events of the jobs begun while the dispatch was on the stack, in order
abbrev pub jobs_in : List Record → ℕ → List ℕ
jobs_in h p = reverse (events_of_each (is_job_within p) (told h).actions)
