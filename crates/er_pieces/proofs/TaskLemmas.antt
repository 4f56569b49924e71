-- Proof of what the rules of tasks hand. Lists of records stand newest first.
use Rattle.std.proofs.Common.{◌≡◌, ℕ, Bool, true, false, List, [], ◌∷◌, length, Option, Some, None, refl, arith}
use Rattle.std.specs.Prelude.{◌&&◌, ◌||◌}
use Rattle.std.specs.List.{list_any}
use Rattle.er_trace.specs.declared.record.Record.{Record}
use Rattle.er_trace.specs.declared.record.Record.TheVariants.{Timer, Tick, Run, Close, Back, Message, Anim, Job}
use Rattle.er_history.specs.History.{Task, Dispatch, What, TimeoutRun, TickRun, HandlerOf, CloseOf, MessageRun, AnimRun, JobRun, Unnamed, Event, Action, told, begins, find_open, maker_by, declares_handler, what_begun, event_begun, action_begun}
use Rattle.er_history.specs.Rules.{Rule, any_holds, recorded, task_rules}
use Rattle.er_history.specs.Edges.{path, up_to, is_ruled}
use Rattle.er_history.specs.Laws.{Among}
use Rattle.er_history.specs.Naming.{naming}
use Rattle.er_history.specs.Handed.{AreSources, AreEnough}
use Rattle.er_history.proofs.NamedLemmas.{none_holds}
use Rattle.er_pieces.specs.Enough.{IsSteady, EnoughTask}
use Rattle.er_pieces.specs.HandedPieces.{task_handed, tasks_before}
use Rattle.er_pieces.specs.Hands.{HandsTask}
use Rattle.er_pieces.proofs.StackLemmas.{Serves, run_serves}
use Rattle.er_pieces.proofs.PathLemmas.{never, and_right, Reaches, reach_each}
use Rattle.er_pieces.proofs.ChainLemmas.{event_with, back_enough}
use Rattle.er_pieces.proofs.SourceLemmas.{Each, each_none, each_event}

-- the events to which they lead

abbrev IsTasked : What → Type 0
IsTasked (TimeoutRun t made) = Unit {0}
IsTasked (TickRun i m) = Unit {0}
IsTasked (CloseOf d) = Unit {0}
IsTasked (MessageRun m made) = Unit {0}
IsTasked (AnimRun a made) = Unit {0}
IsTasked (JobRun j made within) = Unit {0}
IsTasked _ = ⊥

none_of : (c : Bool) → (false || (c && false || (false || (c && false || (false || (c && false || (c && false || (c && false || false)))))))) ≡ true → ⊥
none_of true e = cc
none_of false e = cc

only_tasked : (joined : ℕ → ℕ → Bool) (u : Event) (n : ℕ) (z : What) → list_any (λ (r : ℕ × Rule). r.1 joined u (event_with n z)) task_rules ≡ true → IsTasked z
only_tasked joined u n z e = by u.what z e
  where
    by : (w z : What) → list_any (λ (r : ℕ × Rule). r.1 joined (event_with u.number w) (event_with n z)) task_rules ≡ true → IsTasked z
    by w (TimeoutRun t made) e = tt
    by w (TickRun i m) e = tt
    by w (CloseOf d) e = tt
    by w (MessageRun m made) e = tt
    by w (AnimRun a made) e = tt
    by w (JobRun j made within) e = tt
    by (JobRun j (Some x) around) z e = absurd (none_of (recorded u (event_with n z)) e)
    by (JobRun j None around) z e = absurd (none_of (recorded u (event_with n z)) e)
    by (MessageRun m made) z e = absurd (none_of (recorded u (event_with n z)) e)
    by (AnimRun a made) z e = absurd (none_of (recorded u (event_with n z)) e)
    by _ z e = absurd (none_of (recorded u (event_with n z)) e)

-- a run begins no close
not_close : (h : List Record) (p g y : ℕ) (c : Dispatch) → what_begun (told h) (Run p g y) ≡ CloseOf c → ⊥
not_close h p g y c e = of (find_open p (told h).stack) e
  where
    handler : ℕ → ℕ → Option Dispatch → Option ℕ → What
    handler g x (Some d) m = HandlerOf d g x m
    handler g x None m = Unnamed

    of : (o : Option Dispatch) → handler g y o (maker_by (declares_handler y) (told h).entries) ≡ CloseOf c → ⊥
    of None e = cc
    of (Some d) e = cc

no_run : (h : List Record) (p g y : ℕ) → naming h (Run p g y) ≡ None → IsTasked (what_begun (told h) (Run p g y)) → ⊥
no_run h p g y named is =
    let serves = run_serves h p g y (none_holds h (Run p g y) named).placed in
    of (what_begun (told h) (Run p g y)) serves.0 serves.1 (not_close h p g y) is
  where
    of : (w : What) (d : Dispatch) → Serves w d → ((c : Dispatch) → w ≡ CloseOf c → ⊥) → IsTasked w → ⊥
    of (HandlerOf q k x m) d serves other is = is
    of (CloseOf c) d serves other is = other c refl
    of _ d serves other is = serves

-- the latest piece of each source

all_reached : (table : List (ℕ × Rule)) (h : List Record) (v : Event) (i : Action) → Among i (told h).actions → any_holds task_rules (up_to v.number (path table h)) i.event v ≡ true → Reaches (path table h) i.number (tasks_before (path table h) (told h) v)
all_reached table h v i among ruled = reach_each table h (λ (u : Event). any_holds task_rules (up_to v.number (path table h)) u v) i among ruled

pub enough_task : EnoughTask
enough_task table facts h (Message m) steady named ordered = λ i among ruled. all_reached table h (event_begun (told h) (Message m)) i among ruled
enough_task table facts h (Anim a) steady named ordered = λ i among ruled. all_reached table h (event_begun (told h) (Anim a)) i among ruled
enough_task table facts h (Job j) steady named ordered = λ i among ruled. all_reached table h (event_begun (told h) (Job j)) i among ruled
enough_task table facts h (Timer t) steady named ordered = λ i among ruled. all_reached table h (event_begun (told h) (Timer t)) i among ruled
enough_task table facts h (Tick k) steady named ordered = λ i among ruled. all_reached table h (event_begun (told h) (Tick k)) i among ruled
enough_task table facts h (Close p) steady named ordered = λ i among ruled. all_reached table h (event_begun (told h) (Close p)) i among ruled
enough_task table facts h (Back p) steady named ordered = λ i c among runs ruled. back_enough table task_rules h p facts steady.has.tasks steady named i c among runs ruled
enough_task table facts h (Run p g y) steady named ordered = λ i among ruled.
    absurd (no_run h p g y named (only_tasked (up_to (length (told h).actions) (path table h)) i.event (length (told h).actions) (what_begun (told h) (Run p g y)) (and_right _ _ ruled)))
enough_task table facts h x steady named ordered = λ i among ruled.
    absurd (only_tasked (up_to (length (told h).actions) (path table h)) i.event (length (told h).actions) (what_begun (told h) x) (and_right _ _ ruled))

each_source : (h : List Record) (x : Record) (joined : ℕ → ℕ → Bool) → AreSources task_rules joined (told h) x (tasks_before joined (told h) (event_begun (told h) x))
each_source h x joined =
    let v : Event = event_begun (told h) x in
    each_event (λ i. any_holds task_rules (up_to v.number joined) i.event v ≡ true) (λ (u : Event). any_holds task_rules (up_to v.number joined) u v) h (λ i among e. e)

task_sources : (h : List Record) (x : Record) (joined : ℕ → ℕ → Bool) → AreSources task_rules joined (told h) x (task_handed joined (told h) x)
task_sources h (Message m) joined = each_source h (Message m) joined
task_sources h (Anim a) joined = each_source h (Anim a) joined
task_sources h (Job j) joined = each_source h (Job j) joined
task_sources h (Timer t) joined = each_source h (Timer t) joined
task_sources h (Tick k) joined = each_source h (Tick k) joined
task_sources h (Close p) joined = each_source h (Close p) joined
task_sources h x joined = each_none (λ i. is_ruled task_rules joined i (action_begun (told h) x) ≡ true) (told h).actions

task_none : (h : List Record) (x : Record) (joined : ℕ → ℕ → Bool) → begins x ≡ false → task_handed joined (told h) x ≡ []
task_none h (Message m) joined b = absurd (cc)
task_none h (Anim a) joined b = absurd (cc)
task_none h (Job j) joined b = absurd (cc)
task_none h (Timer t) joined b = absurd (cc)
task_none h (Tick k) joined b = absurd (cc)
task_none h (Close p) joined b = absurd (cc)
task_none h _ joined b = refl

pub hands_task : HandsTask
hands_task table facts h x steady named ordered = record {
  sources = task_sources h x (path table h);
  enough = enough_task table facts h x steady named ordered;
  none = task_none h x (path table h);
}
