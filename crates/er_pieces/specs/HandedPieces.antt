-- The pieces that each family of rules hands for a record: latest pieces alone. Lists of records
-- stand newest first.
use Rattle.std.specs.Prelude.{ℕ, Bool, true, false, ◌==◌, nat_lt, if◌then◌else◌, List, [], ◌++◌, Option, Some, None}
use Rattle.er_trace.specs.declared.record.Record.{Record}
use Rattle.er_trace.specs.declared.record.Record.TheVariants.{Parse, ParseFrame, Exec, Timer, Tick, Dcl, Load, Eload, Fire, Wfire, Reply, Inline, Run, Close, Back, Message, Anim, Job}
use Rattle.er_trace.specs.declared.version.Version.{Version}
use Rattle.er_history.specs.History.{Form, Kinded, Framing, Element, Timeout, FireAt, WindowFire, Event, Action, History, first_to, makes_element, makes_timeout, maker_by, element_maker, declares_document, declares_handler, declares_interval, declares_request, event_begun, running}
use Rattle.er_history.specs.Rules.{is_blocking, is_deferred, is_dcl_of, Rule, any_holds, task_rules, timers_in_order}
use Rattle.er_history.specs.Edges.{up_to}
use Rattle.er_history.specs.Latest.{newest, number_of, latest_of_event, latest_of, latest_of_each, greatest_group}
use Rattle.er_history.specs.Kinds.{is_step_of, is_run_of, is_static_async, runs_element, is_tick_of, closes, is_close_at, is_load_of, is_reply_of, is_static_load_of, is_begin_of, is_handler_of}

-- the latest parse step of the document, and the latest piece of the event that declared it
abbrev pub step_handed : History → ℕ → List ℕ
step_handed h d =
    newest (is_step_of d) h.actions
    ++ latest_of (maker_by (declares_document d) h.entries) h.actions

abbrev pub parse_handed : History → Record → List ℕ
parse_handed h (Parse d e k) = step_handed h d
parse_handed h (ParseFrame d e f) = step_handed h d
parse_handed h _ = []

-- the latest parse step of the document, its latest blocking run and its latest deferred run
abbrev pub dcl_handed : History → ℕ → List ℕ
dcl_handed h d =
    newest (is_step_of d) h.actions
    ++ newest (is_run_of is_blocking d) h.actions
    ++ newest (is_run_of is_deferred d) h.actions

-- before the run of a script its maker, and for a deferred one all of these
abbrev pub run_handed : History → Option Element → List ℕ
run_handed h None = []
run_handed h (Some x) =
    latest_of_event x.maker h.actions
    ++ (if is_deferred x then dcl_handed h x.doc else [])

-- before a parse step the latest blocking run
abbrev pub script_handed : History → Record → List ℕ
script_handed h (Parse d e k) = newest (is_run_of is_blocking d) h.actions
script_handed h (ParseFrame d e f) = newest (is_run_of is_blocking d) h.actions
script_handed h (Exec e) = run_handed h (first_to (makes_element e) h.entries)
script_handed h _ = []

-- the close of load of the document in a frame
abbrev pub inner_close : History → Form → List ℕ
inner_close h (Framing f) = newest (closes (is_load_of f)) h.actions
inner_close h (Kinded k) = []

-- the maker of the element, the run of it, and the close of load of its inner document
abbrev pub eload_handed : History → ℕ → Option Element → List ℕ
eload_handed h e None = newest (runs_element e) h.actions
eload_handed h e (Some x) =
    latest_of_event x.maker h.actions
    ++ newest (runs_element e) h.actions
    ++ inner_close h x.form

abbrev pub load_handed : History → Record → List ℕ
load_handed h (Dcl p d) = dcl_handed h d
load_handed h (Load p d) =
    newest (closes (is_dcl_of d)) h.actions
    ++ dcl_handed h d
    ++ latest_of_each (is_run_of is_static_async d) h.actions
    ++ latest_of_each (closes (is_static_load_of d)) h.actions
load_handed h (Eload p e) = eload_handed h e (first_to (makes_element e) h.entries)
load_handed h _ = []

-- the event that set the timeout, and the callbacks that the rule leads from
abbrev pub timeout_handed : Rule → (ℕ → ℕ → Bool) → History → Event → Option Timeout → List ℕ
timeout_handed rule joined h v None = []
timeout_handed rule joined h v (Some x) =
    latest_of_event x.maker h.actions
    ++ latest_of_each (λ (u : Event). rule (up_to v.number joined) u v) h.actions

-- for an interval the event that set it, and its latest callback
abbrev pub timer_handed_by : Rule → (ℕ → ℕ → Bool) → History → Record → List ℕ
timer_handed_by rule joined h (Timer t) =
    timeout_handed rule joined h (event_begun h (Timer t)) (first_to (makes_timeout t) h.entries)
timer_handed_by rule joined h (Tick i) =
    latest_of (maker_by (declares_interval i) h.entries) h.actions
    ++ newest (is_tick_of i) h.actions
timer_handed_by rule joined h _ = []

-- by rule 19 of a version, which may ask for the paths
abbrev pub timer_handed : Version → (ℕ → ℕ → Bool) → History → Record → List ℕ
timer_handed v = timer_handed_by (timers_in_order v)

-- the event that sent the request, and its latest closed reply
abbrev pub request_handed : History → Record → List ℕ
request_handed h (Reply p r) =
    latest_of (maker_by (declares_request r) h.entries) h.actions
    ++ newest (closes (is_reply_of r)) h.actions
request_handed h _ = []

-- the latest piece of each event from which a rule of tasks leads to the event that the
-- record begins
abbrev pub tasks_before : (ℕ → ℕ → Bool) → History → Event → List ℕ
tasks_before joined h v =
    latest_of_each (λ (u : Event). any_holds task_rules (up_to v.number joined) u v) h.actions

abbrev pub task_handed : (ℕ → ℕ → Bool) → History → Record → List ℕ
task_handed joined h (Message m) = tasks_before joined h (event_begun h (Message m))
task_handed joined h (Anim a) = tasks_before joined h (event_begun h (Anim a))
task_handed joined h (Job j) = tasks_before joined h (event_begun h (Job j))
task_handed joined h (Timer t) = tasks_before joined h (event_begun h (Timer t))
task_handed joined h (Tick i) = tasks_before joined h (event_begun h (Tick i))
task_handed joined h (Close p) = tasks_before joined h (event_begun h (Close p))
task_handed joined h _ = []

-- the runs of that group, or the begin where there is none
abbrev pub runs_or_begin : ℕ → List Action → Option ℕ → List ℕ
runs_or_begin p actions None = newest (is_begin_of p) actions
runs_or_begin p actions (Some g) = latest_of_each (is_handler_of p (λ k. k == g)) actions

abbrev pub group_handed : ℕ → (ℕ → Bool) → List Action → List ℕ
group_handed p test actions = runs_or_begin p actions (greatest_group p test actions)

-- Before a begin the maker of the target, and the latest close piece of the same target and type;
-- before a handler and a close what ran before in the dispatch; around an inline dispatch the
-- running piece.
abbrev pub dispatch_handed : History → Record → List ℕ
dispatch_handed h (Fire p e n) =
    latest_of (element_maker h.entries e) h.actions
    ++ newest (is_close_at (FireAt e n None)) h.actions
dispatch_handed h (Inline p e n) =
    latest_of (element_maker h.entries e) h.actions
    ++ newest (is_close_at (FireAt e n None)) h.actions
    ++ number_of (running h.actions)
dispatch_handed h (Wfire p d n) =
    latest_of (maker_by (declares_document d) h.entries) h.actions
    ++ newest (is_close_at (WindowFire d n None)) h.actions
dispatch_handed h (Dcl p d) = latest_of (maker_by (declares_document d) h.entries) h.actions
dispatch_handed h (Load p d) = latest_of (maker_by (declares_document d) h.entries) h.actions
dispatch_handed h (Run p g x) =
    latest_of (maker_by (declares_handler x) h.entries) h.actions
    ++ group_handed p (λ k. nat_lt k g) h.actions
dispatch_handed h (Close p) = group_handed p (λ k. true) h.actions
dispatch_handed h (Back p) = number_of (running h.actions)
dispatch_handed h _ = []
