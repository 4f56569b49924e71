-- The events of the tasks of a kind are those of the numbers that have begun, as the look-ups tell.
-- Lists of records stand newest first.
use Rattle.std.proofs.Common.{◌≡◌, ℕ, ◌<◌, Bool, true, false, List, [], ◌∷◌, ◌++◌, length, map, Option, Some, None, refl, sym, ap, subst, ◌∙◌, arith, inl, inr, append_assoc, append-nil}
use Rattle.std.specs.Prelude.{◌==◌, ◌&&◌, if◌then◌else◌, reverse}
use Rattle.std.specs.List.{list_any}
use Rattle.std.proofs.lemmas.Bool.{eqb-true, eq-eqb}
use Rattle.std.proofs.lemmas.List.{reverse-append, length-append, length-map}
use Rattle.er_trace.specs.declared.record.Record.{Record}
use Rattle.er_trace.specs.declared.record.Record.TheVariants.{Run, Close, Back, Message, Anim, Job}
use Rattle.er_history.specs.History.{Task, Dispatch, What, HandlerOf, CloseOf, MessageRun, AnimRun, JobRun, Unnamed, Event, Action, told, begins, maker_by, declares_handler, find_open, what_begun, event_begun, action_begun}
use Rattle.er_history.specs.Facts.{WhatIs}
use Rattle.er_history.specs.Latest.{events_of_each}
use Rattle.er_history.specs.Laws.{Among}
use Rattle.er_history.specs.LookUps.{jobs_queued}
use Rattle.er_history.specs.Naming.{IsNamed, begins_message, begins_anim, begins_job}
use Rattle.er_history.specs.Rules.{is_some_and}
use Rattle.er_history.specs.Tasks.{TaskKind, OfMessage, OfAnim, OfJob, declares_task, starts_task, task_started, task_made, task_event, started_by, queued_by, tasks_begun, queued_jobs}
use Rattle.er_history.proofs.DeclaredLemmas.{Found, declared_maker}
use Rattle.er_history.proofs.EventLemmas.{resumed_goes_on}
use Rattle.er_history.proofs.ExactLemmas.{facts_are_exact}
use Rattle.er_history.proofs.HistoryLemmas.{told_before, event_below}
use Rattle.er_history.proofs.MakersLemmas.{task_below}
use Rattle.er_pieces.specs.Contract.{listed}
use Rattle.er_pieces.proofs.BegunLemmas.{MadeBy, made_by_action, BegunAt, begun_at}
use Rattle.er_pieces.proofs.CallerLemmas.{among_cases, among_more}
use Rattle.er_pieces.proofs.OnceLemmas.{IsOnce, begun_in, begun_once}
use Rattle.er_pieces.proofs.RunLemmas.{same_event}
use Rattle.er_path_rules.specs.task.Due.{run_of, run_passes, is_task}

-- the numbers of a kind that have begun and were declared so

abbrev pub listed_if : (Task → Bool) → ℕ → Option Task → List ℕ
listed_if pick n None = []
listed_if pick n (Some y) = if pick y then n ∷ [] else []

abbrev pub starts_by : TaskKind → (Task → Bool) → List Record → Option ℕ → List ℕ
starts_by kind pick h None = []
starts_by kind pick h (Some n) = listed_if pick n (task_made kind h n)

abbrev pub begun_by : TaskKind → (Task → Bool) → List Record → List ℕ
begun_by kind pick [] = []
begun_by kind pick (x ∷ h) = begun_by kind pick h ++ starts_by kind pick h (task_started kind x)

abbrev pub any_task : Task → Bool
any_task y = true

abbrev pub of_queuer : ℕ → Task → Bool
of_queuer u y = y.maker == u

all_start : (kind : TaskKind) (h : List Record) (x : Record) → started_by kind h x ≡ starts_by kind any_task h (task_started kind x)
all_start kind h x = by (task_started kind x) refl
  where
    by : (o : Option ℕ) → task_started kind x ≡ o → started_by kind h x ≡ starts_by kind any_task h (task_started kind x)
    by None e = rw e refl
    by (Some n) e = of (task_made kind h n) refl
      where
        of : (m : Option Task) → task_made kind h n ≡ m → started_by kind h x ≡ starts_by kind any_task h (task_started kind x)
        of None f = rw (e, f) refl
        of (Some y) f = rw (e, f) refl

pub all_begun : (kind : TaskKind) (h : List Record) → tasks_begun kind h ≡ begun_by kind any_task h
all_begun kind [] = refl
all_begun kind (x ∷ h) = (λ i. all_begun kind h i ++ all_start kind h x i)

all_queued : (u : ℕ) (h : List Record) (x : Record) → queued_by h u x ≡ starts_by OfJob (of_queuer u) h (task_started OfJob x)
all_queued u h x = by (task_started OfJob x) refl
  where
    by : (o : Option ℕ) → task_started OfJob x ≡ o → queued_by h u x ≡ starts_by OfJob (of_queuer u) h (task_started OfJob x)
    by None e = rw e refl
    by (Some n) e = of (task_made OfJob h n) refl
      where
        of : (m : Option Task) → task_made OfJob h n ≡ m → queued_by h u x ≡ starts_by OfJob (of_queuer u) h (task_started OfJob x)
        of None f = rw (e, f) refl
        of (Some y) f = rw (e, f) refl

pub queued_begun : (u : ℕ) (h : List Record) → queued_jobs h u ≡ begun_by OfJob (of_queuer u) h
queued_begun u [] = refl
queued_begun u (x ∷ h) = (λ i. queued_begun u h i ++ all_queued u h x i)

-- as many as their events
pub queued_counted : (u : ℕ) (h : List Record) → length (jobs_queued h u) ≡ length (queued_jobs h u)
queued_counted u [] = refl
queued_counted u (x ∷ h) = omega (arith, queued_counted u h, length-append (jobs_queued h u) (map (λ (j : ℕ). length (told h).actions) (queued_by h u x)), length-append (queued_jobs h u) (queued_by h u x), length-map (queued_by h u x) (λ (j : ℕ). length (told h).actions))

-- what a record begins

abbrev handled : ℕ → ℕ → Option Dispatch → Option ℕ → What
handled g y (Some d) m = HandlerOf d g y m
handled g y None m = Unnamed

abbrev closed : Option Dispatch → What
closed None = Unnamed
closed (Some d) = CloseOf d

no_handler : (kind : TaskKind) (g y : ℕ) (m : Option ℕ) (found : Option Dispatch) → run_of kind (handled g y found m) ≡ None
no_handler OfMessage g y m None = refl
no_handler OfMessage g y m (Some d) = refl
no_handler OfAnim g y m None = refl
no_handler OfAnim g y m (Some d) = refl
no_handler OfJob g y m None = refl
no_handler OfJob g y m (Some d) = refl

no_close : (kind : TaskKind) (found : Option Dispatch) → run_of kind (closed found) ≡ None
no_close OfMessage None = refl
no_close OfMessage (Some d) = refl
no_close OfAnim None = refl
no_close OfAnim (Some d) = refl
no_close OfJob None = refl
no_close OfJob (Some d) = refl

abbrev with_made : TaskKind → List Record → Option ℕ → Option (ℕ × Option Task)
with_made kind h None = None
with_made kind h (Some n) = Some (n, task_made kind h n)

run_begun : (kind : TaskKind) (h : List Record) (x : Record) → run_of kind (what_begun (told h) x) ≡ with_made kind h (task_started kind x)
run_begun OfMessage h (Run p g y) = no_handler OfMessage g y (maker_by (declares_handler y) (told h).entries) (find_open p (told h).stack)
run_begun OfMessage h (Close p) = no_close OfMessage (find_open p (told h).stack)
run_begun OfMessage h _ = refl
run_begun OfAnim h (Run p g y) = no_handler OfAnim g y (maker_by (declares_handler y) (told h).entries) (find_open p (told h).stack)
run_begun OfAnim h (Close p) = no_close OfAnim (find_open p (told h).stack)
run_begun OfAnim h _ = refl
run_begun OfJob h (Run p g y) = no_handler OfJob g y (maker_by (declares_handler y) (told h).entries) (find_open p (told h).stack)
run_begun OfJob h (Close p) = no_close OfJob (find_open p (told h).stack)
run_begun OfJob h _ = refl

run_unnamed : (kind : TaskKind) → run_of kind Unnamed ≡ None
run_unnamed OfMessage = refl
run_unnamed OfAnim = refl
run_unnamed OfJob = refl

no_start : (kind : TaskKind) (h : List Record) (p : ℕ) → None ≡ with_made kind h (task_started kind (Back p))
no_start OfMessage h p = refl
no_start OfAnim h p = refl
no_start OfJob h p = refl

-- of a new event
run_new : (kind : TaskKind) (h : List Record) (x : Record) → length (told h).actions ≡ (event_begun (told h) x).number → run_of kind (event_begun (told h) x).what ≡ with_made kind h (task_started kind x)
run_new kind h (Back p) own =
    elim (resumed_goes_on (told h) p) [
      | inl unnamed ↦ ap (run_of kind) unnamed ∙ (run_unnamed kind ∙ no_start kind h p)
      | inr found ↦
          let below = event_below (told h).actions found.0 (told_before h) found.1 in
          let same = ap (λ (e : Event). e.number) found.2 in
          absurd (omega (arith, own, below, same))
    ]
run_new kind h x own = run_begun kind h x

none_new : (kind : TaskKind) (test : Task → Bool) (h : List Record) (x : Record) → task_started kind x ≡ None
    → ((length (told h).actions == (event_begun (told h) x).number) && run_passes test (run_of kind (event_begun (told h) x).what)) ≡ false
none_new kind test h x none = step (length (told h).actions == (event_begun (told h) x).number) refl
  where
    step : (b : Bool) → (length (told h).actions == (event_begun (told h) x).number) ≡ b → (b && run_passes test (run_of kind (event_begun (told h) x).what)) ≡ false
    step true e = ap (run_passes test) (run_new kind h x (eqb-true (length (told h).actions) (event_begun (told h) x).number e) ∙ ap (with_made kind h) none)
    step false e = refl

started_begins : (kind : TaskKind) (x : Record) (n : ℕ) → task_started kind x ≡ Some n → begins x ≡ true
started_begins OfMessage (Message m) n e = refl
started_begins OfMessage _ n e = absurd (cc)
started_begins OfAnim (Anim a) n e = refl
started_begins OfAnim _ n e = absurd (cc)
started_begins OfJob (Job j) n e = refl
started_begins OfJob _ n e = absurd (cc)

started_new : (kind : TaskKind) (h : List Record) (x : Record) (n : ℕ) → task_started kind x ≡ Some n → (event_begun (told h) x).number ≡ length (told h).actions
started_new OfMessage h (Message m) n e = refl
started_new OfMessage h _ n e = absurd (cc)
started_new OfAnim h (Anim a) n e = refl
started_new OfAnim h _ n e = absurd (cc)
started_new OfJob h (Job j) n e = refl
started_new OfJob h _ n e = absurd (cc)

starts_is : (kind : TaskKind) (x : Record) (n : ℕ) → starts_task kind n x ≡ true → task_started kind x ≡ Some n
starts_is OfMessage (Message m) n e = ap (λ k. Some k) (eqb-true m n e)
starts_is OfMessage _ n e = absurd (cc)
starts_is OfAnim (Anim a) n e = ap (λ k. Some k) (eqb-true a n e)
starts_is OfAnim _ n e = absurd (cc)
starts_is OfJob (Job j) n e = ap (λ k. Some k) (eqb-true j n e)
starts_is OfJob _ n e = absurd (cc)

started_is : (kind : TaskKind) (x : Record) (n : ℕ) → task_started kind x ≡ Some n → starts_task kind n x ≡ true
started_is OfMessage (Message m) n e = let same : m ≡ n = cc in eq-eqb m n same
started_is OfMessage _ n e = absurd (cc)
started_is OfAnim (Anim a) n e = let same : a ≡ n = cc in eq-eqb a n same
started_is OfAnim _ n e = absurd (cc)
started_is OfJob (Job j) n e = let same : j ≡ n = cc in eq-eqb j n same
started_is OfJob _ n e = absurd (cc)

-- by functions that tell of each number what declared it and which event it is: those events, of
-- the numbers that pass
abbrev pub events_of : (ℕ → Option Task) → (ℕ → Option ℕ) → (Task → Bool) → List ℕ → List ℕ
events_of made event test [] = []
events_of made event test (n ∷ ns) = (if is_some_and test (made n) then listed (event n) else []) ++ events_of made event test ns

-- they tell so of each task of the kind that has begun
abbrev pub Tell : TaskKind → (ℕ → Option Task) → (ℕ → Option ℕ) → List Action → Type 0
Tell kind made event actions = (a : Action) (n : ℕ) (o : Option Task) → Among a actions → a.number ≡ a.event.number → run_of kind a.event.what ≡ Some (n, o) → (made n ≡ o) × (event n ≡ Some a.event.number)

among_new : (h : List Record) (x : Record) → begins x ≡ true → Among (action_begun (told h) x) (told (x ∷ h)).actions
among_new h x e = step (begins x) e
  where
    step : (b : Bool) → b ≡ true → Among (action_begun (told h) x) (if b then action_begun (told h) x ∷ (told h).actions else (told h).actions)
    step true e = inl refl
    step false e = absurd (cc)

events_append : (made : ℕ → Option Task) (event : ℕ → Option ℕ) (test : Task → Bool) (ns ms : List ℕ) → events_of made event test (ns ++ ms) ≡ events_of made event test ns ++ events_of made event test ms
events_append made event test [] ms = refl
events_append made event test (n ∷ ns) ms =
    ap (λ l. (if is_some_and test (made n) then listed (event n) else []) ++ l) (events_append made event test ns ms)
    ∙ sym (append_assoc (if is_some_and test (made n) then listed (event n) else []) (events_of made event test ns) (events_of made event test ms))

abbrev pub both_of : (Task → Bool) → (Task → Bool) → Task → Bool
both_of pick test y = pick y && test y

events_more : (kind : TaskKind) (made : ℕ → Option Task) (event : ℕ → Option ℕ) (pick test : Task → Bool) (h : List Record) (x : Record) → Tell kind made event (told (x ∷ h)).actions
    → reverse (events_of_each (is_task kind (both_of pick test)) (told h).actions) ≡ events_of made event test (begun_by kind pick h)
    → reverse (events_of_each (is_task kind (both_of pick test)) (told (x ∷ h)).actions) ≡ events_of made event test (begun_by kind pick (x ∷ h))
events_more kind made event pick test h x tell rest = by (task_started kind x) refl
  where
    passes : Event → Bool
    passes = is_task kind (both_of pick test)

    older : List ℕ
    older = events_of_each (is_task kind (both_of pick test)) (told h).actions

    before : List ℕ
    before = begun_by kind pick h

    v : ℕ
    v = (event_begun (told h) x).number

    nothing_more : reverse older ≡ events_of made event test (before ++ [])
    nothing_more = rest ∙ ap (events_of made event test) (sym (append-nil before))

    as_before : task_started kind x ≡ None → (b : Bool) → events_of_each passes (if b then action_begun (told h) x ∷ (told h).actions else (told h).actions) ≡ older
    as_before e true = ap (λ (c : Bool). if c then v ∷ older else older) (none_new kind (both_of pick test) h x e)
    as_before e false = refl

    of_test : (b : Bool) → reverse (if b then v ∷ older else older) ≡ events_of made event test before ++ (if b then v ∷ [] else [])
    of_test true = reverse-append (v ∷ []) older ∙ ap (λ l. l ++ v ∷ []) rest
    of_test false = rest ∙ sym (append-nil (events_of made event test before))

    of_pick : (n : ℕ) (y : Task) → made n ≡ Some y → event n ≡ Some v → (b : Bool) → reverse (if b && test y then v ∷ older else older) ≡ events_of made event test (before ++ (if b then n ∷ [] else []))
    of_pick n y is at true =
        of_test (test y)
        ∙ sym (events_append made event test before (n ∷ [])
        ∙ ap (λ l. events_of made event test before ++ l) (append-nil (if is_some_and test (made n) then listed (event n) else []) ∙ (λ i. if is_some_and test (is i) then listed (at i) else [])))
    of_pick n y is at false = nothing_more

    of_task : (n : ℕ) → event n ≡ Some v → (m : Option Task) → made n ≡ m → reverse (if is_some_and (both_of pick test) m then v ∷ older else older) ≡ events_of made event test (before ++ listed_if pick n m)
    of_task n at None is = nothing_more
    of_task n at (Some y) is = of_pick n y is at (pick y)

    by : (o : Option ℕ) → task_started kind x ≡ o → reverse (events_of_each passes (told (x ∷ h)).actions) ≡ events_of made event test (before ++ starts_by kind pick h (task_started kind x))
    by None e = ap reverse (as_before e (begins x)) ∙ (nothing_more ∙ ap (λ (o : Option ℕ). events_of made event test (before ++ starts_by kind pick h o)) (sym e))
    by (Some n) e =
        let own : length (told h).actions ≡ v = sym (started_new kind h x n e) in
        let what = run_new kind h x own ∙ ap (with_made kind h) e in
        let tells = tell (action_begun (told h) x) n (task_made kind h n) (among_new h x (started_begins kind x n e)) own what in
        ap (λ (b : Bool). reverse (events_of_each passes (if b then action_begun (told h) x ∷ (told h).actions else (told h).actions))) (started_begins kind x n e)
        ∙ (ap (λ (b : Bool). reverse (if b && passes (event_begun (told h) x) then v ∷ older else older)) (eq-eqb (length (told h).actions) v own)
        ∙ (ap (λ (o : Option (ℕ × Option Task)). reverse (if run_passes (both_of pick test) o then v ∷ older else older)) what
        ∙ (ap (λ (m : Option Task). reverse (if is_some_and (both_of pick test) m then v ∷ older else older)) (sym tells.0)
        ∙ (of_task n tells.1 (made n) refl
        ∙ (ap (λ (m : Option Task). events_of made event test (before ++ listed_if pick n m)) tells.0
        ∙ ap (λ (o : Option ℕ). events_of made event test (before ++ starts_by kind pick h o)) (sym e))))))

-- So the events of tasks that pass are those of the numbers that have begun.
pub begun_events : (kind : TaskKind) (made : ℕ → Option Task) (event : ℕ → Option ℕ) (pick test : Task → Bool) (h : List Record) → Tell kind made event (told h).actions
    → reverse (events_of_each (is_task kind (both_of pick test)) (told h).actions) ≡ events_of made event test (begun_by kind pick h)
begun_events kind made event pick test [] tell = refl
begun_events kind made event pick test (x ∷ h) tell = events_more kind made event pick test h x tell (begun_events kind made event pick test h (λ a n o among own what. tell a n o (among_more h x a among) own what))

-- the look-ups tell so

task_once : (kind : TaskKind) (n : ℕ) → IsOnce (starts_task kind n)
task_once OfMessage n h (Message m) new is = subst (λ k. list_any (begins_message k) h ≡ false) (eqb-true m n is) new
task_once OfMessage n h _ new is = absurd (cc)
task_once OfAnim n h (Anim a) new is = subst (λ k. list_any (begins_anim k) h ≡ false) (eqb-true a n is) new
task_once OfAnim n h _ new is = absurd (cc)
task_once OfJob n h (Job j) new is = subst (λ k. list_any (begins_job k) h ≡ false) (eqb-true j n is) new
task_once OfJob n h _ new is = absurd (cc)

task_begins : (kind : TaskKind) (n : ℕ) (x : Record) → starts_task kind n x ≡ true → begins x ≡ true
task_begins kind n x is = started_begins kind x n (starts_is kind x n is)

abbrev number_in : Option (ℕ × Option Task) → ℕ
number_in None = 0
number_in (Some p) = p.0

abbrev made_in : Option (ℕ × Option Task) → Option Task
made_in None = None
made_in (Some p) = p.1

-- the record that begins a task
task_begun : (kind : TaskKind) (h : List Record) (x : Record) (n : ℕ) (o : Option Task) → length (told h).actions ≡ (event_begun (told h) x).number → run_of kind (event_begun (told h) x).what ≡ Some (n, o) → starts_task kind n x ≡ true
task_begun kind h x n o own what = by (task_started kind x) refl (sym (run_new kind h x own) ∙ what)
  where
    by : (m : Option ℕ) → task_started kind x ≡ m → with_made kind h (task_started kind x) ≡ Some (n, o) → starts_task kind n x ≡ true
    by None e f = let none : with_made kind h None ≡ Some (n, o) = sym (ap (with_made kind h) e) ∙ f in absurd (cc)
    by (Some m) e f = let same : m ≡ n = ap number_in (sym (ap (with_made kind h) e) ∙ f) in started_is kind x n (e ∙ ap (λ k. Some k) same)

first_task : (kind : TaskKind) (h : List Record) (a : Action) (n : ℕ) (o : Option Task) → Among a (told h).actions → a.number ≡ a.event.number → run_of kind a.event.what ≡ Some (n, o) → starts_task kind n a.begin ≡ true
first_task kind [] a n o among own what = absurd among
first_task kind (x ∷ h) a n o among own what =
    elim (among_cases h x a among) [
      | inl now ↦
          let is : a ≡ action_begun (told h) x = now.1 in
          ap (λ (c : Action). starts_task kind n c.begin) is
          ∙ task_begun kind h x n o (sym (ap (λ (c : Action). c.number) is) ∙ (own ∙ ap (λ (c : Action). c.event.number) is)) (ap (λ (c : Action). run_of kind c.event.what) (sym is) ∙ what)
      | inr older ↦ first_task kind h a n o older own what
    ]

made_is : (kind : TaskKind) (h : List Record) (w : What) (n : ℕ) (o : Option Task) → WhatIs (told h).entries w → run_of kind w ≡ Some (n, o) → task_made kind h n ≡ o
made_is OfMessage h (MessageRun m made) n o is e = ap (task_made OfMessage h) (sym (ap number_in e)) ∙ (sym is.0 ∙ ap made_in e)
made_is OfMessage h _ n o is e = absurd (cc)
made_is OfAnim h (AnimRun a made) n o is e = ap (task_made OfAnim h) (sym (ap number_in e)) ∙ (sym is.0 ∙ ap made_in e)
made_is OfAnim h _ n o is e = absurd (cc)
made_is OfJob h (JobRun j made within) n o is e = ap (task_made OfJob h) (sym (ap number_in e)) ∙ (sym is.0 ∙ ap made_in e)
made_is OfJob h _ n o is e = absurd (cc)

pub look_ups_tell : (kind : TaskKind) (h : List Record) → IsNamed h → Tell kind (task_made kind h) (task_event kind h) (told h).actions
look_ups_tell kind h named a n o among own what = (
  made_is kind h a.event.what n o (facts_are_exact h a named among) what,
  found.1 ∙ ap (λ k. Some k) (sym made.number ∙ ap (λ (c : Action). c.event.number) same),
)
  where
    passes : starts_task kind n a.begin ≡ true
    passes = first_task kind h a n o among own what

    found : Found (task_event kind h n)
    found = declared_maker h (starts_task kind n) named (begun_in (starts_task kind n) h a among passes)

    made : MadeBy (starts_task kind n) h found.0
    made = made_by_action (starts_task kind n) h found.0 found.1

    same : made.action ≡ a
    same = begun_once (starts_task kind n) (task_once kind n) h named made.action a made.among among (ap (starts_task kind n) (made.begun (task_begins kind n made.read made.passes)) ∙ made.passes) passes

-- what the event of a number is, and that it was declared before

pub record TaskEvent (kind : TaskKind) (h : List Record) (n u : ℕ) (what : What) : Type 0 where
  pub run : run_of kind what ≡ Some (n, task_made kind h n)
  pub piece : (y : Task) → task_made kind h n ≡ Some y → y.piece < u

pub task_event_is : (kind : TaskKind) (h : List Record) → IsNamed h → (n u : ℕ) → task_event kind h n ≡ Some u → (a : Action) → Among a (told h).actions → a.event.number ≡ u → TaskEvent kind h n u a.event.what
task_event_is kind h named n u is a among number =
    subst (λ (e : Event). TaskEvent kind h n u e.what) (same_event h made.action a made.among among (made.number ∙ sym number)) (record {
      run = run ∙ ap (λ o. Some (n, o)) (sym same);
      piece = λ y found. let below = task_below at.earlier (declares_task kind n) y (sym same ∙ found) in omega (arith, below.1, new, made.number, ap (λ (e : Event). e.number) event);
    })
  where
    made : MadeBy (starts_task kind n) h u
    made = made_by_action (starts_task kind n) h u is

    at : BegunAt h made.action
    at = begun_at h named made.action made.among

    starts : task_started kind made.action.begin ≡ Some n
    starts = starts_is kind made.action.begin n (ap (starts_task kind n) (made.begun (task_begins kind n made.read made.passes)) ∙ made.passes)

    event : made.action.event ≡ event_begun (told at.earlier) made.action.begin
    event = ap (λ (c : Action). c.event) at.is

    new : (event_begun (told at.earlier) made.action.begin).number ≡ length (told at.earlier).actions
    new = started_new kind at.earlier made.action.begin n starts

    run : run_of kind made.action.event.what ≡ Some (n, task_made kind at.earlier n)
    run = ap (λ (e : Event). run_of kind e.what) event ∙ (run_new kind at.earlier made.action.begin (sym new) ∙ ap (with_made kind at.earlier) starts)

    same : task_made kind h n ≡ task_made kind at.earlier n
    same = made_is kind h made.action.event.what n (task_made kind at.earlier n) (facts_are_exact h made.action named made.among) run
