-- Proof of the most that each group hands. Lists of records stand newest first.
use Rattle.std.proofs.Common.{◌≡◌, ℕ, ◌+◌, ◌≤◌, Bool, true, false, List, [], ◌++◌, length, reverse, Option, Some, None, arith}
use Rattle.std.specs.Prelude.{◌==◌, if◌then◌else◌, nat_lt, max, option_map}
use Rattle.std.proofs.lemmas.List.{length-reverse}
use Rattle.std.proofs.Math.Nat.{le-max_left, le-max_right}
use Rattle.er_trace.specs.declared.record.Record.{Record}
use Rattle.er_trace.specs.declared.record.Record.TheVariants.{Parse, ParseFrame, Exec, Timer, Tick, Dcl, Load, Eload, Fire, Wfire, Reply, Inline, Run, Close, Back}
use Rattle.er_history.specs.History.{Form, Kinded, Framing, Element, Timeout, What, TimeoutRun, FireAt, WindowFire, Event, History, told, first_to, makes_element, makes_timeout, maker_by, element_maker, declares_document, declares_handler, declares_interval, declares_request, event_begun, running}
use Rattle.er_history.specs.Rules.{Rule, rules, is_blocking, is_deferred, is_dcl_of, same_target, timers_in_order}
use Rattle.er_history.specs.Edges.{up_to, path}
use Rattle.er_history.specs.Latest.{newest, number_of, latest_of_event, latest_of, latest_of_each, events_of_each, greatest_group}
use Rattle.er_history.specs.Kinds.{is_step_of, is_run_of, is_static_async, runs_element, is_tick_of, closes, is_load_of, is_reply_of, is_static_load_of, is_begin_of, is_handler_of}
use Rattle.er_pieces.specs.HandedPieces.{step_handed, dcl_handed, run_handed, inner_close, eload_handed, timeout_handed, runs_or_begin}
use Rattle.er_pieces.specs.Counts.{run_count, ParseHandsAtMost, ScriptHandsAtMost, LoadHandsAtMost, TimerHandsAtMost, RequestHandsAtMost, DispatchHandsAtMost}
use Rattle.er_pieces.proofs.CountLemmas.{newest_short, latest_short, made_short, number_short, both_short, each_short}

nothing : (n : ℕ) → 0 ≤ n
nothing n = omega (arith)

-- parsing and scripts

step_short : (t : History) (d : ℕ) → length (step_handed t d) ≤ 2
step_short t d = both_short (newest (is_step_of d) t.actions) (latest_of (maker_by (declares_document d) t.entries) t.actions) 1 1
    (newest_short (is_step_of d) t.actions) (made_short (maker_by (declares_document d) t.entries) t.actions)

pub parse_hands_at_most : ParseHandsAtMost
parse_hands_at_most h (Parse d e k) = step_short (told h) d
parse_hands_at_most h (ParseFrame d e f) = step_short (told h) d
parse_hands_at_most h _ = nothing 0

parsed_short : (t : History) (d : ℕ) → length (dcl_handed t d) ≤ 3
parsed_short t d =
    let step = newest (is_step_of d) t.actions in
    let run = newest (is_run_of is_blocking d) t.actions in
    both_short (step ++ run) (newest (is_run_of is_deferred d) t.actions) 2 1
    (both_short step run 1 1 (newest_short (is_step_of d) t.actions) (newest_short (is_run_of is_blocking d) t.actions))
    (newest_short (is_run_of is_deferred d) t.actions)

run_short : (t : History) (o : Option Element) → length (run_handed t o) ≤ 4
run_short t None = nothing 4
run_short t (Some x) = both_short (latest_of_event x.maker t.actions) (if is_deferred x then dcl_handed t x.doc else []) 1 3 (latest_short x.maker t.actions) (some (is_deferred x))
  where
    some : (b : Bool) → length (if b then dcl_handed t x.doc else []) ≤ 3
    some true = parsed_short t x.doc
    some false = nothing 3

pub script_hands_at_most : ScriptHandsAtMost
script_hands_at_most h (Parse d e k) = newest_short (is_run_of is_blocking d) (told h).actions
script_hands_at_most h (ParseFrame d e f) = newest_short (is_run_of is_blocking d) (told h).actions
script_hands_at_most h (Exec e) = run_short (told h) (first_to (makes_element e) (told h).entries)
script_hands_at_most h _ = nothing 0

-- loads

inner_short : (t : History) (f : Form) → length (inner_close t f) ≤ 1
inner_short t (Framing f) = newest_short (closes (is_load_of f)) t.actions
inner_short t (Kinded k) = nothing 1

eload_short : (t : History) (e : ℕ) (o : Option Element) → length (eload_handed t e o) ≤ 3
eload_short t e None = let one = newest_short (runs_element e) t.actions in omega (arith, one)
eload_short t e (Some x) =
    let maker = latest_of_event x.maker t.actions in
    let run = newest (runs_element e) t.actions in
    both_short (maker ++ run) (inner_close t x.form) 2 1 (both_short maker run 1 1 (latest_short x.maker t.actions) (newest_short (runs_element e) t.actions)) (inner_short t x.form)

load_short : (t : History) (d : ℕ) → length (newest (closes (is_dcl_of d)) t.actions ++ dcl_handed t d ++ latest_of_each (is_run_of is_static_async d) t.actions ++ latest_of_each (closes (is_static_load_of d)) t.actions)
    ≤ 4 + length (reverse (events_of_each (is_run_of is_static_async d) t.actions)) + length (reverse (events_of_each (closes (is_static_load_of d)) t.actions))
load_short t d =
    let dcl = newest (closes (is_dcl_of d)) t.actions in
    let runs = latest_of_each (is_run_of is_static_async d) t.actions in
    let a = length (reverse (events_of_each (is_run_of is_static_async d) t.actions)) in
    let l = length (reverse (events_of_each (closes (is_static_load_of d)) t.actions)) in
    both_short (dcl ++ dcl_handed t d ++ runs) (latest_of_each (closes (is_static_load_of d)) t.actions) (4 + a) l
    (both_short (dcl ++ dcl_handed t d) runs 4 a (both_short dcl (dcl_handed t d) 1 3 (newest_short (closes (is_dcl_of d)) t.actions) (parsed_short t d)) (each_short (is_run_of is_static_async d) t.actions))
    (each_short (closes (is_static_load_of d)) t.actions)

pub load_hands_at_most : LoadHandsAtMost
load_hands_at_most h (Dcl p d) = parsed_short (told h) d
load_hands_at_most h (Load p d) = load_short (told h) d
load_hands_at_most h (Eload p e) = eload_short (told h) e (first_to (makes_element e) (told h).entries)
load_hands_at_most h _ = nothing 0

-- timers and requests

timeout_short : (rule : Rule) (joined : ℕ → ℕ → Bool) (t : History) (v : Event) (o : Option Timeout)
    → length (timeout_handed rule joined t v o) ≤ 1 + length (events_of_each (λ (u : Event). rule (up_to v.number joined) u v) t.actions)
timeout_short rule joined t v None = nothing _
timeout_short rule joined t v (Some x) =
    let test : Event → Bool = λ (u : Event). rule (up_to v.number joined) u v in
    let each = each_short test t.actions in
    both_short (latest_of_event x.maker t.actions) (latest_of_each test t.actions) 1 (length (events_of_each test t.actions)) (latest_short x.maker t.actions)
    (omega (arith, each, length-reverse (events_of_each test t.actions)))

pub timer_hands_at_most : TimerHandsAtMost
timer_hands_at_most v h (Timer t) = timeout_short (timers_in_order v) (path (rules v) h) (told h) (event_begun (told h) (Timer t)) (first_to (makes_timeout t) (told h).entries)
timer_hands_at_most v h (Tick i) = let m = maker_by (declares_interval i) (told h).entries in
    both_short (latest_of m (told h).actions) (newest (is_tick_of i) (told h).actions) 1 1 (made_short m (told h).actions) (newest_short (is_tick_of i) (told h).actions)
timer_hands_at_most v h _ = nothing 0

pub request_hands_at_most : RequestHandsAtMost
request_hands_at_most h (Reply p r) = let m = maker_by (declares_request r) (told h).entries in
    both_short (latest_of m (told h).actions) (newest (closes (is_reply_of r)) (told h).actions) 1 1 (made_short m (told h).actions) (newest_short (closes (is_reply_of r)) (told h).actions)
request_hands_at_most h _ = nothing 0

-- dispatches

runs_short : (h : List Record) (p : ℕ) (o : Option ℕ) → length (runs_or_begin p (told h).actions o) ≤ max 1 (run_count h p o)
runs_short h p None = let one = newest_short (is_begin_of p) (told h).actions in omega (arith, one, le-max_left 1 0)
runs_short h p (Some g) = let each = each_short (is_handler_of p (λ k. k == g)) (told h).actions in omega (arith, each, le-max_right 1 (run_count h p (Some g)))

target_short : (t : History) (m : Option ℕ) (test : Event → Bool) → length (latest_of m t.actions ++ newest test t.actions) ≤ 2
target_short t m test = both_short (latest_of m t.actions) (newest test t.actions) 1 1 (made_short m t.actions) (newest_short test t.actions)

pub dispatch_hands_at_most : DispatchHandsAtMost
dispatch_hands_at_most h (Fire p e n) = target_short (told h) (element_maker (told h).entries e) (closes (λ y. same_target y (FireAt e n None)))
dispatch_hands_at_most h (Wfire p d n) = target_short (told h) (maker_by (declares_document d) (told h).entries) (closes (λ y. same_target y (WindowFire d n None)))
dispatch_hands_at_most h (Inline p e n) =
    let m = element_maker (told h).entries e in
    let last : Event → Bool = closes (λ y. same_target y (FireAt e n None)) in
    both_short (latest_of m (told h).actions ++ newest last (told h).actions) (number_of (running (told h).actions)) 2 1 (target_short (told h) m last) (number_short (running (told h).actions))
dispatch_hands_at_most h (Dcl p d) = made_short (maker_by (declares_document d) (told h).entries) (told h).actions
dispatch_hands_at_most h (Load p d) = made_short (maker_by (declares_document d) (told h).entries) (told h).actions
dispatch_hands_at_most h (Run p g x) =
    let m = maker_by (declares_handler x) (told h).entries in
    let below = greatest_group p (λ k. nat_lt k g) (told h).actions in
    both_short (latest_of m (told h).actions) (runs_or_begin p (told h).actions below) 1 (max 1 (run_count h p below)) (made_short m (told h).actions) (runs_short h p below)
dispatch_hands_at_most h (Close p) = runs_short h p (greatest_group p (λ k. true) (told h).actions)
dispatch_hands_at_most h (Back p) = number_short (running (told h).actions)
dispatch_hands_at_most h _ = nothing 0

pub ruleset parsing_and_loading_hand_at_most = (parse_hands_at_most, script_hands_at_most, load_hands_at_most)

pub ruleset events_hand_at_most = (timer_hands_at_most, request_hands_at_most, dispatch_hands_at_most)
