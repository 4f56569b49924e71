-- The most pieces that each family of rules hands for a record. Lists of records stand
-- newest first.
use Rattle.std.specs.Prelude.{ℕ, ◌+◌, ◌≤◌, List, length, max, Option, Some, None}
use Rattle.er_trace.specs.declared.record.Record.{Record}
use Rattle.er_trace.specs.declared.record.Record.TheVariants.{Parse, ParseFrame, Exec, Timer, Tick, Dcl, Load, Eload, Fire, Wfire, Reply, Inline, Run, Close, Back}
use Rattle.er_trace.specs.declared.version.Version.{Version}
use Rattle.er_history.specs.History.{History, Event, told, event_begun}
use Rattle.er_history.specs.Rules.{rules, timers_in_order}
use Rattle.er_history.specs.Edges.{up_to, path}
use Rattle.er_history.specs.Latest.{events_of_each}
use Rattle.er_history.specs.LookUps.{async_runs, static_closes, last_group, group_below, runs_in}
use Rattle.er_pieces.specs.HandedPieces.{parse_handed, script_handed, load_handed, timer_handed, request_handed, dispatch_handed}

-- the static async scripts of the document that have run
abbrev pub async_run_count : List Record → ℕ → ℕ
async_run_count h d = length (async_runs h d)

-- the closes of first load events of its static elements that are not plain
abbrev pub static_close_count : List Record → ℕ → ℕ
static_close_count h d = length (static_closes h d)

-- the callbacks that rule 19 leads from to that of the timeout
abbrev pub fired_count : Version → List Record → ℕ → ℕ
fired_count v h t = by (event_begun (told h) (Timer t))
  where
    by : Event → ℕ
    by e = length
        (events_of_each (λ (u : Event). timers_in_order v (up_to e.number (path (rules v) h)) u e)
        (told h).actions)

-- the handlers of the dispatch that ran in the group, where there is one
abbrev pub run_count : List Record → ℕ → Option ℕ → ℕ
run_count h p None = 0
run_count h p (Some g) = length (runs_in h p g)

-- the latest parse step, and the latest piece of the event that declared the document
abbrev pub most_parse : List Record → Record → ℕ
most_parse h (Parse d e k) = 2
most_parse h (ParseFrame d e f) = 2
most_parse h _ = 0

-- the latest blocking run; before a run its maker, and for a deferred script the latest parse step,
-- blocking run and deferred run
abbrev pub most_script : List Record → Record → ℕ
most_script h (Parse d e k) = 1
most_script h (ParseFrame d e f) = 1
most_script h (Exec e) = 4
most_script h _ = 0

-- Before `load`: the close of DOMContentLoaded, the latest parse step, blocking run and deferred
-- run, the async runs and the static closes.
abbrev pub most_load : List Record → Record → ℕ
most_load h (Dcl p d) = 3
most_load h (Load p d) = 4 + async_run_count h d + static_close_count h d
most_load h (Eload p e) = 3
most_load h _ = 0

-- the event that set it, and the callbacks that rule 19 leads from; the event that set the
-- interval, and its latest callback
abbrev pub most_timer : Version → List Record → Record → ℕ
most_timer v h (Timer t) = 1 + fired_count v h t
most_timer v h (Tick i) = 2
most_timer v h _ = 0

-- the event that sent the request, and its latest closed reply
abbrev pub most_request : List Record → Record → ℕ
most_request h (Reply p r) = 2
most_request h _ = 0

-- the maker of the target, the latest close there and the suspended piece; before a handler the
-- event that registered it, and the runs of the greatest smaller group or the begin; before a close
-- the runs of the greatest group, or the begin
abbrev pub most_dispatch : List Record → Record → ℕ
most_dispatch h (Fire p e n) = 2
most_dispatch h (Wfire p d n) = 2
most_dispatch h (Inline p e n) = 3
most_dispatch h (Dcl p d) = 1
most_dispatch h (Load p d) = 1
most_dispatch h (Run p g x) = 1 + max 1 (run_count h p (group_below h p g))
most_dispatch h (Close p) = max 1 (run_count h p (last_group h p))
most_dispatch h (Back p) = 1
most_dispatch h _ = 0

-- After any list no more pieces are handed for a record.
abbrev pub HandsAtMost : (History → Record → List ℕ) → (List Record → Record → ℕ) → Type 0
HandsAtMost handed most = (h : List Record) (x : Record) → length (handed (told h) x) ≤ most h x

-- the laws of the six families
abbrev pub ParseHandsAtMost : Type 0
ParseHandsAtMost = HandsAtMost parse_handed most_parse

abbrev pub ScriptHandsAtMost : Type 0
ScriptHandsAtMost = HandsAtMost script_handed most_script

abbrev pub LoadHandsAtMost : Type 0
LoadHandsAtMost = HandsAtMost load_handed most_load

abbrev pub TimerHandsAtMost : Type 0
TimerHandsAtMost = (v : Version) (h : List Record) (x : Record)
    → length (timer_handed v (path (rules v) h) (told h) x) ≤ most_timer v h x

abbrev pub RequestHandsAtMost : Type 0
RequestHandsAtMost = HandsAtMost request_handed most_request

abbrev pub DispatchHandsAtMost : Type 0
DispatchHandsAtMost = HandsAtMost dispatch_handed most_dispatch
