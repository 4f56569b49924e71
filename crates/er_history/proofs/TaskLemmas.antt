-- Proof that the rules of tasks hold in version 3 alone.
use Rattle.std.proofs.Common.{◌≡◌, ℕ, Bool, true, false, List, [], ◌∷◌, length, Option, Some, None, refl, sym, subst, inl, inr}
use Rattle.std.specs.Prelude.{◌-◌, ◌==◌, ◌||◌, ◌&&◌, not, if◌then◌else◌}
use Rattle.std.specs.List.{list_any}
use Rattle.er_trace.specs.declared.record.Record.{Record}
use Rattle.er_trace.specs.declared.record.Record.TheVariants.{Run, Close, Back}
use Rattle.er_history.specs.History.{Dispatch, What, HandlerOf, CloseOf, MessageRun, AnimRun, JobRun, Unnamed, Event, Action, History, told, begins, find_open, maker_by, declares_handler, action_at, what_begun, event_resumed, event_begun, action_begun}
use Rattle.er_history.specs.Rules.{any_holds, recorded, task_rules}
use Rattle.er_history.specs.Laws.{Among}
use Rattle.er_trace.specs.Versions.{is_of_task}
use Rattle.er_history.specs.Records.{TasksAreOfVersionThree}
use Rattle.er_history.proofs.HistoryLemmas.{action_at_among}
use Rattle.er_history.proofs.DeclaredLemmas.{or_none}

abbrev is_task : What → Bool
is_task (MessageRun m made) = true
is_task (AnimRun a made) = true
is_task (JobRun j made within) = true
is_task _ = false

abbrev IsNoTask : What → Type 0
IsNoTask w = is_task w ≡ false

-- only a record of tasks begins one
task_begun : (t : History) (x : Record) → (is_task (what_begun t x) && not (is_of_task x)) ≡ false
task_begun t (Run p g x) = of (find_open p t.stack)
  where
    handler : ℕ → ℕ → Option Dispatch → Option ℕ → What
    handler g x (Some d) m = HandlerOf d g x m
    handler g x None m = Unnamed

    of : (o : Option Dispatch) → (is_task (handler g x o (maker_by (declares_handler x) t.entries)) && true) ≡ false
    of None = refl
    of (Some d) = refl
task_begun t (Close p) = of (find_open p t.stack)
  where
    close : Option Dispatch → What
    close None = Unnamed
    close (Some d) = CloseOf d

    of : (o : Option Dispatch) → (is_task (close o) && true) ≡ false
    of None = refl
    of (Some d) = refl
task_begun t _ = refl

begun_no_task : (t : History) (x : Record) → is_of_task x ≡ false → IsNoTask (what_begun t x)
begun_no_task t x e = by (is_task (what_begun t x)) (is_of_task x) e (task_begun t x)
  where
    by : (b c : Bool) → c ≡ false → (b && not c) ≡ false → b ≡ false
    by false c e f = refl
    by true c e f = absurd (cc)

resumed_no_task : (t : History) (p : ℕ) → ((a : Action) → Among a t.actions → IsNoTask a.event.what) → IsNoTask (event_resumed t p).what
resumed_no_task t p older = of_found (find_open p t.stack)
  where
    event_of : Option Action → Event
    event_of None = record { number = length t.actions; what = Unnamed }
    event_of (Some a) = a.event

    of : Option Dispatch → Event
    of None = event_of None
    of (Some d) = event_of (action_at (d.begin - 1) t.actions)

    at : (k : ℕ) (found : Option Action) → action_at k t.actions ≡ found → IsNoTask (event_of found).what
    at k None e = refl
    at k (Some a) e = older a (action_at_among k t.actions a e).0

    of_found : (found : Option Dispatch) → IsNoTask (of found).what
    of_found None = refl
    of_found (Some d) = at (d.begin - 1) (action_at (d.begin - 1) t.actions) refl

event_no_task : (h : List Record) (x : Record) → is_of_task x ≡ false → ((a : Action) → Among a (told h).actions → IsNoTask a.event.what) → IsNoTask (event_begun (told h) x).what
event_no_task h (Back p) e older = resumed_no_task (told h) p older
event_no_task h x e older = begun_no_task (told h) x e

none_is_task : (h : List Record) → list_any is_of_task h ≡ false → (a : Action) → Among a (told h).actions → IsNoTask a.event.what
none_is_task [] e a among = absurd among
none_is_task (x ∷ h) e a among =
    let both = or_none (is_of_task x) (list_any is_of_task h) e in
    step (begins x) (event_no_task h x both.0 (none_is_task h both.1)) (none_is_task h both.1 a) among
  where
    step : (b : Bool) → IsNoTask (event_begun (told h) x).what → (Among a (told h).actions → IsNoTask a.event.what) → Among a (if b then action_begun (told h) x ∷ (told h).actions else (told h).actions) → IsNoTask a.event.what
    step true new older (inl same) = subst (λ (c : Action). IsNoTask c.event.what) (sym same) new
    step true new older (inr deeper) = older deeper
    step false new older deeper = older deeper

all_false : (b c : Bool) → (b && (false || (c && false || (false || (c && false || (false || (c && false || (c && false || (c && false || false))))))))) ≡ false
all_false true true = refl
all_false true false = refl
all_false false c = refl

pub tasks_are_of_version_three : TasksAreOfVersionThree
tasks_are_of_version_three h joined a b e first last = by a.event.what b.event.what (none_is_task h e a first) (none_is_task h e b last)
  where
    with : ℕ → What → Event
    with n w = record { number = n; what = w }

    by : (w z : What) → IsNoTask w → IsNoTask z → any_holds task_rules joined (with a.event.number w) (with b.event.number z) ≡ false
    by (MessageRun m made) z is other = absurd (cc)
    by (AnimRun k made) z is other = absurd (cc)
    by (JobRun j made within) z is other = absurd (cc)
    by w (MessageRun m made) is other = absurd (cc)
    by w (AnimRun k made) is other = absurd (cc)
    by w (JobRun j made within) is other = absurd (cc)
    by _ _ is other = all_false (not (a.event.number == b.event.number)) (recorded a.event b.event)
