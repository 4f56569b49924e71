-- How the tables of tasks come to stand for one record more.
use Rattle.std.proofs.Common.{◌≡◌, ℕ, ◌<◌, ◌≤◌, Bool, true, false, List, [], ◌∷◌, ◌++◌, length, get_or, Option, Some, None, option_map, refl, sym, ap, subst, ◌∙◌, arith, inl, inr, ◌⊎◌}
use Rattle.std.specs.Prelude.{◌-◌, ◌+◌, ◌==◌, if◌then◌else◌, is_some, IfSome, IsSome, map, nat_lt}
use Rattle.std.proofs.lemmas.List.Elements.{All-weaker, All-push}
use Rattle.std.proofs.lemmas.Bool.{eq-eqb, eqb-true}
use Rattle.std.proofs.lemmas.List.{append-nil, get_or_default}
use Rattle.std.proofs.lemmas.Bool.Decides.{nat_tests}
use Rattle.std.proofs.lemmas.Grind.{common_steps}
use Rattle.er_trace.specs.declared.record.Record.{Record}
use Rattle.er_trace.specs.declared.record.Record.TheVariants.{Message, Anim, Job}
use Rattle.er_history.specs.History as history
use Rattle.er_history.specs.History.{told, or_else, first_to, makes_task, running, actions_after, action_begun, Action, Entry}
use Rattle.er_history.specs.Tasks.{TaskKind, OfMessage, OfAnim, OfJob, declares_task, starts_task, task_started, task_made, task_place, if_made, if_queued, started_by, queued_by}
use Rattle.er_history.specs.declared.firsts.Now.{Now}
use Rattle.er_history.specs.Found.{IsRanked}
use Rattle.er_history.specs.Noted.{is_number, noted_in}
use Rattle.er_history.specs.Taken.{IsNow, KeepsEach}
use Rattle.er_history.proofs.FirstLemmas.{map_or_else, known_more, entry_more}
use Rattle.er_history.proofs.RankLemmas.{more_ranked, place_more, longer_list}
use Rattle.er_tasks.specs.declared.begun.Started.{Started}
use Rattle.er_tasks.specs.declared.tasks.BegunTask.{BegunTask}
use Rattle.er_tasks.specs.declared.tasks.Task.{Task}
use Rattle.er_tasks.specs.Begun.{IsBegun, GoesOn, IsRunTo, AreRuns, AreBegun}
use Rattle.er_tasks.specs.Tasks.{Declared, declared_of, declared, TasksDeclared, TaskGiven, with_task, numbers_in, task_of, event_under, number_under, under, IsStarted, TasksAreRanked, task_rank}

-- the task that a record declares

pub none_given : (kind : TaskKind) (x : Record) (a : Action) → ((k : ℕ) → false ≡ declares_task kind k x) → TaskGiven kind None x a
none_given kind x a same = record {
  placed = λ k place. rw (sym (same k)) refl;
  made = λ k place. rw (sym (same k)) refl;
  known = λ k. same k;
}

pub one_given : (kind : TaskKind) (x : Record) (a : Action) (n rank : ℕ) → ((k : ℕ) → (n == k) ≡ declares_task kind k x)
    → TaskGiven kind (Some (n, record { maker = a.event.number; piece = a.number; rank = rank })) x a
one_given kind x a n rank same = record {
  placed = λ k place. rw (sym (same k)) (placed place (n == k));
  made = λ k place. rw (sym (same k)) (made place (n == k));
  known = λ k. known (n == k) ∙ same k;
}
  where
    task : Task
    task = record { maker = a.event.number; piece = a.number; rank = rank }

    task_in : ℕ → Option Action → Bool → Option history.Task
    task_in place (Some a) true = Some (record { place = place; maker = a.event.number; piece = a.number })
    task_in place _ _ = None

    placed : (place : ℕ) (b : Bool) → option_map (λ (t : history.Task). t.place) (task_in place (Some a) b) ≡ option_map (λ (t : Task). place) (if b then Some task else None)
    placed place true = refl
    placed place false = refl

    made : (place : ℕ) (b : Bool) → option_map declared_of (if b then Some task else None) ≡ option_map declared (task_in place (Some a) b)
    made place true = refl
    made place false = refl

    known : (b : Bool) → is_some (if b then Some task else None) ≡ b
    known true = refl
    known false = refl

pub given_at : (kind : TaskKind) (x : Record) (a : Action) (n rank event action : ℕ) → ((k : ℕ) → (n == k) ≡ declares_task kind k x) → action ≡ a.number → event ≡ a.event.number
    → TaskGiven kind (Some (n, record { maker = event; piece = action; rank = rank })) x a
given_at kind x a n rank event action same e f =
    subst (λ m. TaskGiven kind (Some (n, record { maker = m; piece = action; rank = rank })) x a) (sym f)
    (subst (λ m. TaskGiven kind (Some (n, record { maker = a.event.number; piece = m; rank = rank })) x a) (sym e) (one_given kind x a n rank same))

pub declared_more : (kind : TaskKind) (old new : ℕ → Option Task) (pair : Option (ℕ × Task)) (h : List Record) (x : Record) (a : Action)
    → ((k : ℕ) → new k ≡ or_else (old k) (noted_in k pair)) → TasksDeclared kind old h → TaskGiven kind pair x a → running (actions_after (told h) x) ≡ Some a → TasksDeclared kind new (x ∷ h)
declared_more kind old new pair h x a more stands given runs = record {
  made = λ k.
      let entries = (told h).entries in
      let entry : Entry = record { read = x; place = length entries; action = Some a } in
      let due : or_else (task_made kind h k) (makes_task (declares_task kind k) entry) ≡ task_made kind (x ∷ h) k = entry_more (makes_task (declares_task kind k)) h x a _ _ runs refl refl in
      ap (option_map declared_of) (more k) ∙ (map_or_else declared_of (old k) (noted_in k pair) ∙ (ap (λ o. or_else o (option_map declared_of (noted_in k pair))) (stands.made k)
      ∙ (ap (or_else (option_map declared (task_made kind h k))) (given.made k (length entries)) ∙ (sym (map_or_else declared (task_made kind h k) (makes_task (declares_task kind k) entry)) ∙ ap (option_map declared) due))));
  known = λ k. known_more (new k) (old k) (noted_in k pair) _ _ (more k) (stands.known k) (given.known k);
}

pub tasks_ranked_more : (kind : TaskKind) (old new : ℕ → Option Task) (pair : Option (ℕ × Task)) (h : List Record) (x : Record) (a : Action) (count more : ℕ)
    → ((k : ℕ) → new k ≡ or_else (old k) (noted_in k pair)) → count ≤ more → IfSome pair (λ p. old p.0 ≡ None → count < more)
    → TasksAreRanked kind old count h → TaskGiven kind pair x a → IfSome pair (λ p. p.1.rank ≡ count) → running (actions_after (told h) x) ≡ Some a → TasksAreRanked kind new more (x ∷ h)
tasks_ranked_more kind old new pair h x a count more found longer counted stands given is runs =
    subst (IsRanked (λ k. option_map task_rank (new k)) (task_place kind (x ∷ h)) more) (longer_list h x)
    (more_ranked task_rank old new pair (task_place kind h) (task_place kind (x ∷ h)) count (length (told h).entries) more found
    (λ k. place_more (λ (t : history.Task). t.place) (makes_task (declares_task kind k)) h x a (noted_in k pair) runs (given.placed k (length (told h).entries)))
    longer counted is stands)

-- the task whose event it begins

pub starts_number : (kind : TaskKind) (x : Record) (k : ℕ) → is_number k (task_started kind x) ≡ starts_task kind k x
starts_number OfMessage (Message m) k = refl
starts_number OfMessage _ k = refl
starts_number OfAnim (Anim a) k = refl
starts_number OfAnim _ k = refl
starts_number OfJob (Job j) k = refl
starts_number OfJob _ k = refl

pub started_listed : (kind : TaskKind) (h : List Record) (x : Record) (found : ℕ → Option Task) (o : Option ℕ) → TasksDeclared kind found h → o ≡ task_started kind x
    → numbers_in (with_task found o) ≡ started_by kind h x
started_listed kind h x found None stands e = rw (sym e) refl
started_listed kind h x found (Some n) stands e = by (found n) (task_made kind h n) (stands.made n) ∙ rw (sym e) refl
  where
    by : (f : Option Task) (m : Option history.Task) → option_map declared_of f ≡ option_map declared m → numbers_in (option_map (λ (t : Task). (n, t)) f) ≡ if_made n m
    by None None e = refl
    by None (Some y) e = absurd (cc)
    by (Some y) None e = absurd (cc)
    by (Some y) (Some z) e = refl

-- and the event that queued it, where it is a job

abbrev pub pair_under : ℕ → Option (ℕ × Task) → List ℕ
pair_under u None = []
pair_under u (Some p) = under u p.1 p.0

pub job_listed : (h : List Record) (x : Record) (found : ℕ → Option Task) (job : Option Started) (u : ℕ) → TasksDeclared OfJob found h → option_map task_of job ≡ with_task found (task_started OfJob x)
    → number_under u job ≡ queued_by h u x
job_listed h x found job u stands e = same job ∙ (ap (pair_under u) e ∙ at (task_started OfJob x) refl)
  where
    same : (job : Option Started) → number_under u job ≡ pair_under u (option_map task_of job)
    same None = refl
    same (Some y) = refl

    by : (n : ℕ) (f : Option Task) (m : Option history.Task) → option_map declared_of f ≡ option_map declared m → pair_under u (option_map (λ (t : Task). (n, t)) f) ≡ if_queued u n m
    by n None None e = refl
    by n None (Some y) e = absurd (cc)
    by n (Some y) None e = absurd (cc)
    by n (Some y) (Some z) e =
        let same : declared_of y ≡ declared z = cc in
        ap (λ (d : Declared). if d.maker == u then n ∷ [] else []) same

    at : (o : Option ℕ) → task_started OfJob x ≡ o → pair_under u (with_task found o) ≡ queued_by h u x
    at None e = rw e refl
    at (Some n) e = by n (found n) (task_made OfJob h n) (stands.made n) ∙ rw e refl

-- a job begins as the event that has so many actions before it
pub job_events : (h : List Record) (x : Record) (now : Now) (job : Option Started) (u : ℕ) → IsNow h x now → number_under u job ≡ queued_by h u x
    → event_under u job now.event ≡ map (λ j. length (told h).actions) (queued_by h u x)
job_events h x now job u is e = same job ∙ (ap (map (λ (j : ℕ). now.event)) e ∙ at x is)
  where
    same : (job : Option Started) → event_under u job now.event ≡ map (λ (j : ℕ). now.event) (number_under u job)
    same None = refl
    same (Some y) = step (y.task.maker == u)
      where
        step : (b : Bool) → (if b then now.event ∷ [] else []) ≡ map (λ (j : ℕ). now.event) (if b then y.number ∷ [] else [])
        step true = refl
        step false = refl

    at : (x : Record) → IsNow h x now → map (λ (j : ℕ). now.event) (queued_by h u x) ≡ map (λ j. length (told h).actions) (queued_by h u x)
    at (Job j) is =
        let begun : action_begun (told h) (Job j) ≡ is.running_action = cc in
        let same : length (told h).actions ≡ is.running_action.event.number = ap (λ (a : Action). a.event.number) begun in
        ap (λ (n : ℕ). map (λ (j : ℕ). n) (queued_by h u (Job j))) (is.event ∙ sym same)
    at _ is = refl

-- once it is noted, there is an event
pub event_there : (old new : ℕ → Option ℕ) (number : Option ℕ) (event : ℕ) → ((k : ℕ) → new k ≡ or_else (old k) (if is_number k number then Some event else None)) → IfSome number (λ k. IsSome (new k))
event_there old new None event more = tt
event_there old new (Some n) event more = by (old n) (n == n) (eq-eqb n n refl) (more n)
  where
    by : (o : Option ℕ) (b : Bool) → b ≡ true → new n ≡ or_else o (if b then Some event else None) → IsSome (new n)
    by None true e f = subst IsSome (sym f) refl
    by None false e f = absurd (cc)
    by (Some y) b e f = subst IsSome (sym f) refl

pub event_keeps : (old new : ℕ → Option ℕ) (number : Option ℕ) (event : ℕ) → ((k : ℕ) → new k ≡ or_else (old k) (if is_number k number then Some event else None)) → KeepsEach old new
event_keeps old new number event more k x is = more k ∙ ap (λ (o : Option ℕ). or_else o (if is_number k number then Some event else None)) is

-- what holds of a number holds of it with its task
pub made_there : (found : ℕ → Option Task) (number : Option ℕ) (P : ℕ → Type 0) → IfSome number P → IfSome (with_task found number) (λ p. P p.0)
made_there found None P is = tt
made_there found (Some n) P is = by (found n)
  where
    by : (o : Option Task) → IfSome {T = ℕ × Task} (option_map (λ (t : Task). (n, t)) o) (λ p. P p.0)
    by None = tt
    by (Some t) = is

pub made_found : (old new : ℕ → Option Task) (number : Option ℕ) → KeepsEach old new → IfSome (with_task old number) (λ p. new p.0 ≡ Some p.1)
made_found old new None keeps = tt
made_found old new (Some n) keeps = by (old n) refl
  where
    by : (o : Option Task) → old n ≡ o → IfSome {T = ℕ × Task} (option_map (λ (t : Task). (n, t)) o) (λ p. new p.0 ≡ Some p.1)
    by None e = tt
    by (Some t) e = keeps n t e

-- what the lists keep

pub still_begun : (found more : ℕ → Option Task) (events later : ℕ → Option ℕ) (tasks : List BegunTask) → KeepsEach found more → KeepsEach events later → AreBegun found events tasks → AreBegun more later tasks
still_begun found more events later tasks keeps stays are = record {
  each = All-weaker (IsBegun found events) (IsBegun more later) (λ x is. (keeps x.number x.task is.0, stays x.number x.event is.1)) tasks are.each;
  runs = are.runs;
}

at_or_end : (i n : ℕ) → i < n + 1 → (i < n) ⊎ (i ≡ n)
at_or_end i n lt = step (nat_lt i n) refl
  where
    step : (b : Bool) → nat_lt i n ≡ b → (i < n) ⊎ (i ≡ n)
    step true e = inl (grind (arith, nat_tests))
    step false e = inr (grind (arith, nat_tests))

-- a task more at the end of its run
runs_more : (xs : List BegunTask) (x : BegunTask) → AreRuns xs → IsRunTo xs x.task x.run → AreRuns (xs ++ x ∷ [])
runs_more xs x are is = record {
  within = λ i d lt. elim (at_or_end i (length xs) (grind (arith, common_steps))) [
    | inl before ↦ let same : get_or (xs ++ x ∷ []) i d ≡ get_or xs i d = grind (arith, common_steps) in omega (arith, are.within i d before, ap (λ (y : BegunTask). y.run) same)
    | inr last ↦ let same : get_or (xs ++ x ∷ []) i d ≡ x = grind (arith, common_steps) in omega (arith, is.within, ap (λ (y : BegunTask). y.run) same, last)
  ];
  each = λ i j d lt from to. elim (at_or_end i (length xs) (grind (arith, common_steps))) [
    | inl before ↦
        let same : get_or (xs ++ x ∷ []) i d ≡ get_or xs i d = grind (arith, common_steps) in
        let other : get_or (xs ++ x ∷ []) j d ≡ get_or xs j d = grind (arith, common_steps) in
        both j i d (get_or xs j d) (get_or xs i d) other same (are.each i j d before (omega (arith, from, ap (λ (y : BegunTask). y.run) same)) to)
    | inr last ↦
        let same : get_or (xs ++ x ∷ []) i d ≡ x = grind (arith, common_steps) in
        let other : get_or (xs ++ x ∷ []) j d ≡ get_or xs j d = grind (arith, common_steps) in
        both j i d (get_or xs j d) x other same (is.each j d (omega (arith, from, ap (λ (y : BegunTask). y.run) same)) (omega (arith, to, last)))
  ];
}
  where
    both : (j i : ℕ) (d a b : BegunTask) → get_or (xs ++ x ∷ []) j d ≡ a → get_or (xs ++ x ∷ []) i d ≡ b → GoesOn a.task b.task → GoesOn (get_or (xs ++ x ∷ []) j d).task (get_or (xs ++ x ∷ []) i d).task
    both j i d a b e f goes =
        subst (λ (y : BegunTask). GoesOn y.task (get_or (xs ++ x ∷ []) i d).task) (sym e) (subst (λ (y : BegunTask). GoesOn a.task y.task) (sym f) goes)

pub begun_more : (found : ℕ → Option Task) (events : ℕ → Option ℕ) (xs : List BegunTask) (s : Started) (run : ℕ) → AreBegun found events xs → IsStarted found events s → IsRunTo xs s.task run
    → AreBegun found events (xs ++ record { number = s.number; event = s.event; task = s.task; run = run } ∷ [])
begun_more found events xs s run are is to = record {
  each = All-push (IsBegun found events) xs (record { number = s.number; event = s.event; task = s.task; run = run }) are.each is;
  runs = runs_more xs (record { number = s.number; event = s.event; task = s.task; run = run }) are.runs to;
}

-- the list of one event more, where it queued the task
pub begun_under : (found : ℕ → Option Task) (events : ℕ → Option ℕ) (at : ℕ → List BegunTask) (s : Started) (run u : ℕ) → ((u : ℕ) → AreBegun found events (at u)) → IsStarted found events s → IsRunTo (at s.task.maker) s.task run
    → AreBegun found events (at u ++ under u s.task (record { number = s.number; event = s.event; task = s.task; run = run }))
begun_under found events at s run u are is to = by (s.task.maker == u) refl
  where
    begun : BegunTask
    begun = record { number = s.number; event = s.event; task = s.task; run = run }

    by : (b : Bool) → (s.task.maker == u) ≡ b → AreBegun found events (at u ++ (if b then begun ∷ [] else []))
    by true e = begun_more found events (at u) s run (are u) is (subst (λ k. IsRunTo (at k) s.task run) (eqb-true s.task.maker u e) to)
    by false e = subst (AreBegun found events) (sym (append-nil (at u))) (are u)

pub none_begun : (found : ℕ → Option Task) (events : ℕ → Option ℕ) → AreBegun found events []
none_begun found events = record {
  each = λ k d lt. absurd (omega (arith, lt));
  runs = record { within = λ i d lt. absurd (omega (arith, lt)); each = λ i j d lt from to. absurd (omega (arith, lt)) };
}

-- where the last goes on to it, so do those of its run
last_goes_on : (xs : List BegunTask) (n : ℕ) (last : BegunTask) (task : Task) → AreRuns xs → n ≡ length xs → 0 < n → ((d : BegunTask) → get_or xs (n - 1) d ≡ last) → GoesOn last.task task → IsRunTo xs task last.run
last_goes_on xs n last task are count some at goes = record {
  within = omega (arith, are.within (n - 1) last (omega (arith, count, some)), ap (λ (y : BegunTask). y.run) (at last), count, some);
  each = λ j d from lt. elim (at_or_end j (n - 1) (omega (arith, lt, count, some))) [
    | inl before ↦
        let on = are.each (n - 1) j d (omega (arith, count, some)) (omega (arith, from, ap (λ (y : BegunTask). y.run) (at d))) before in
        let same = at d in
        (on.0 ∙ (ap (λ (y : BegunTask). y.task.piece) same ∙ goes.0), omega (arith, on.1, ap (λ (y : BegunTask). y.task.rank) same, goes.1))
    | inr end ↦
        let same : get_or xs j d ≡ last = ap (λ k. get_or xs k d) end ∙ at d in
        subst (λ (y : BegunTask). GoesOn y.task task) (sym same) goes
  ];
}

pub run_goes_on : (xs : List BegunTask) (e : BegunTask) (task : Task) → AreRuns xs → 0 < length xs → GoesOn (get_or xs (length xs - 1) e).task task → IsRunTo xs task (get_or xs (length xs - 1) e).run
run_goes_on xs e task are some goes = last_goes_on xs (length xs) (get_or xs (length xs - 1) e) task are refl some (λ d. get_or_default xs (length xs - 1) d e (omega (arith, some))) goes
