-- What lists of tasks that have begun say of the list of records that the tables stand for. Lists
-- of records stand newest first.
use Rattle.std.proofs.Common.{◌≡◌, ℕ, suc, ◌<◌, Bool, true, false, cond, List, [], ◌∷◌, ◌++◌, length, map, filter, get_or, Option, Some, None, option_map, refl, sym, ap, subst, ◌∙◌, arith, inl, inr}
use Rattle.std.specs.Prelude.{◌==◌, ◌&&◌, ◌||◌, nat_lt, if◌then◌else◌, reverse, AllPairs}
use Rattle.std.specs.List.{All}
use Rattle.std.proofs.lemmas.Bool.{eqb-true}
use Rattle.std.proofs.lemmas.List.{reverse-append, length-map, get_or-map}
use Rattle.std.proofs.lemmas.List.Elements.{All-push}
use Rattle.std.proofs.lemmas.List.Quantifiers.{all_pairs_push}
use Rattle.er_numbers.specs.Numbers.{found}
use Rattle.er_trace.specs.declared.record.Record.{Record}
use Rattle.er_paths.specs.Paths.{is_among}
use Rattle.er_paths.proofs.Paths.{or_cases, or_left, or_right}
use Rattle.er_history.specs.History as history
use Rattle.er_history.specs.History.{What, MessageRun, AnimRun, JobRun, Event, Action, told}
use Rattle.er_history.specs.Edges.{path, up_to, is_ruled, around_inline, of_one_event}
use Rattle.er_history.specs.Handed.{HasFamily}
use Rattle.er_history.specs.Latest.{events_of_each}
use Rattle.er_history.specs.Laws.{Among}
use Rattle.er_history.specs.LookUps.{before, event_of}
use Rattle.er_history.specs.Naming.{IsNamed}
use Rattle.er_history.specs.Rules.{Rule, any_holds, is_some_and, task_rules, recorded, declared_in_order, post_before_message, messages_in_order, ask_before_anim, anims_in_order, queue_before_job, jobs_in_order}
use Rattle.er_history.specs.Tasks.{TaskKind, OfMessage, OfAnim, OfJob, declares_task, starts_task, task_made, task_place, task_event}
use Rattle.er_history.proofs.HandedLemmas.{action_stands}
use Rattle.er_history.proofs.HistoryLemmas.{BeginsBefore, and_left, told_before, event_before, actions_are_numbered, number_taken}
use Rattle.er_history.proofs.MakersLemmas.{task_below}
use Rattle.er_history.specs.Found.{IsRanked}
use Rattle.er_pieces.proofs.BegunLemmas.{made_by_action, maker_is_event}
use Rattle.er_pieces.specs.Contract.{listed}
use Rattle.er_pieces.proofs.ChainLemmas.{event_with, one_holds}
use Rattle.er_pieces.proofs.PathLemmas.{and_right, both, less_is, edge_path}
use Rattle.er_tasks.specs.declared.tasks.Task.{Task}
use Rattle.er_tasks.specs.declared.tasks.BegunTask.{BegunTask}
use Rattle.er_tasks.specs.declared.tasks.Tasks.{Tasks}
use Rattle.er_tasks.specs.Begun.{task_number}
use Rattle.er_tasks.specs.Tasks.{declared_of, declared, task_rank, TaskTableIs, TasksAre, table_of, task_at, HaveBegun}
use Rattle.er_path_rules.specs.task.Before.{event_in, goes_before, StandsAt, AreJoined}
use Rattle.er_path_rules.specs.task.Due.{run_of, is_task, declared_first}
use Rattle.er_path_rules.proofs.task.SinceLemmas.{IsTask, task_before}
use Rattle.er_path_rules.proofs.task.TellLemmas.{begun_by, both_of, any_task, events_of, begun_events, look_ups_tell, TaskEvent, task_event_is}

pub table_is : (kind : TaskKind) (tasks : Tasks) (h : List Record) → TasksAre tasks h → TaskTableIs kind (table_of kind tasks) h
table_is OfMessage tasks h are = are.messages
table_is OfAnim tasks h are = are.anims
table_is OfJob tasks h are = are.jobs

-- What declared a task is what the list says.
pub record TaskSays (kind : TaskKind) (h : List Record) (number : ℕ) (x : Task) : Type 0 where
  pub made : history.Task
  pub is : task_made kind h number ≡ Some made
  pub maker : made.maker ≡ x.maker
  pub piece : made.piece ≡ x.piece

pub task_says : (kind : TaskKind) (tasks : Tasks) (h : List Record) → TasksAre tasks h → (number : ℕ) (x : Task) → task_at kind tasks number ≡ Some x → TaskSays kind h number x
task_says kind tasks h are number x is = by (task_at kind tasks number) (task_made kind h number) is refl ((table_is kind tasks h are).made.made number)
  where
    by : (o : Option Task) (m : Option history.Task) → o ≡ Some x → task_made kind h number ≡ m → option_map declared_of o ≡ option_map declared m → TaskSays kind h number x
    by None m e f g = absurd (cc)
    by (Some y) None e f g = absurd (cc)
    by (Some y) (Some m) e f g =
        let same : y ≡ x = cc in
        let said : declared_of y ≡ declared m = cc in
        record { made = m; is = f; maker = ap (λ d. d.maker) (sym said) ∙ ap (λ (t : Task). t.maker) same; piece = ap (λ d. d.piece) (sym said) ∙ ap (λ (t : Task). t.piece) same }

pub none_made : (kind : TaskKind) (tasks : Tasks) (h : List Record) → TasksAre tasks h → (number : ℕ) → task_at kind tasks number ≡ None → task_made kind h number ≡ None
none_made kind tasks h are number is = by (task_at kind tasks number) (task_made kind h number) is ((table_is kind tasks h are).made.made number)
  where
    by : (o : Option Task) (m : Option history.Task) → o ≡ None → option_map declared_of o ≡ option_map declared m → m ≡ None
    by None None e g = refl
    by None (Some m) e g = absurd (cc)
    by (Some y) m e g = absurd (cc)

-- ranks stand in the order of the places
pub ranks_are : (kind : TaskKind) (tasks : Tasks) (h : List Record) → TasksAre tasks h → (k n : ℕ) (x y : Task) → (one : TaskSays kind h k x) → (two : TaskSays kind h n y) → task_at kind tasks k ≡ Some x → task_at kind tasks n ≡ Some y
    → nat_lt x.rank y.rank ≡ nat_lt one.made.place two.made.place
ranks_are kind tasks h are k n x y one two is also =
    (λ i. before (option_map task_rank (sym is i)) (option_map task_rank (sym also i)))
    ∙ ((λ i. before (ranked.ranks k i) (ranked.ranks n i))
    ∙ (ranked.order k n
    ∙ ((λ i. before (sym (ranked.places k) i) (sym (ranked.places n) i))
    ∙ (λ i. before (option_map (λ (t : history.Task). t.place) (one.is i)) (option_map (λ (t : history.Task). t.place) (two.is i))))))
  where
    ranked : IsRanked (λ m. option_map task_rank (task_at kind tasks m)) (task_place kind h) (table_of kind tasks).declared.count (length (told h).entries)
    ranked = (table_is kind tasks h are).ranked

pub goes_is : (joined : ℕ → ℕ → Bool) (kind : TaskKind) (tasks : Tasks) (h : List Record) → TasksAre tasks h → (k n : ℕ) (x y : Task) → (one : TaskSays kind h k x) → (two : TaskSays kind h n y) → task_at kind tasks k ≡ Some x → task_at kind tasks n ≡ Some y
    → goes_before joined x y ≡ declared_first joined two.made one.made
goes_is joined kind tasks h are k n x y one two is also =
    (λ i. ranks_are kind tasks h are k n x y one two is also i && joined (sym one.piece i) (sym two.piece i))

-- a list of tasks that have begun, of these numbers
pub record IsListOf (kind : TaskKind) (tasks : Tasks) (numbers : List ℕ) (xs : List BegunTask) : Type 0 where
  pub same : map task_number xs ≡ numbers
  pub begun : HaveBegun kind tasks xs

pub found_at : (kind : TaskKind) (tasks : Tasks) (xs : List BegunTask) → HaveBegun kind tasks xs → (i : ℕ) (x : BegunTask) → StandsAt xs i x → task_at kind tasks x.number ≡ Some x.task
found_at kind tasks xs begun i x there = subst (λ (y : BegunTask). task_at kind tasks y.number ≡ Some y.task) there.1 (begun.each i x there.0).0

event_at : (kind : TaskKind) (tasks : Tasks) (h : List Record) (xs : List BegunTask) → TasksAre tasks h → HaveBegun kind tasks xs → (i : ℕ) (x : BegunTask) → StandsAt xs i x → task_event kind h x.number ≡ Some x.event
event_at kind tasks h xs are begun i x there =
    sym ((table_is kind tasks h are).events.made x.number)
    ∙ subst (λ (y : BegunTask). found (table_of kind tasks).started y.number ≡ Some y.event) there.1 (begun.each i x there.0).1

-- each is an event
pub tasks_are_events : (kind : TaskKind) (tasks : Tasks) (h : List Record) (xs : List BegunTask) → TasksAre tasks h → HaveBegun kind tasks xs → (u : ℕ) → is_among u (map event_in xs) ≡ true → event_of h u ≡ Some u
tasks_are_events kind tasks h xs are begun u among =
    let found = listed_at xs u among in
    subst (λ n. event_of h n ≡ Some n) found.3 (maker_is_event (starts_task kind found.1.number) h found.1.event (event_at kind tasks h xs are begun found.0 found.1 found.2))
  where
    listed_at : (ys : List BegunTask) (u : ℕ) → is_among u (map event_in ys) ≡ true → (i : ℕ) × (x : BegunTask) × StandsAt ys i x × (x.event ≡ u)
    listed_at [] u e = absurd (cc)
    listed_at (y ∷ ys) u e =
        elim (or_cases (y.event == u) (is_among u (map event_in ys)) e) [
          | inl here ↦ (0, y, (omega arith, refl), eqb-true y.event u here)
          | inr there ↦ let rest = listed_at ys u there in let deep = rest.2 in (suc rest.0, rest.1, (omega (arith, deep.0), deep.1), rest.3)
        ]

-- the events of tasks that pass are those that the list has

listed_tasks : (made : ℕ → Option history.Task) (event : ℕ → Option ℕ) (test : history.Task → Bool) (passes : BegunTask → Bool) (xs : List BegunTask)
    → ((i : ℕ) (x : BegunTask) → StandsAt xs i x → (event x.number ≡ Some x.event) × (is_some_and test (made x.number) ≡ passes x)) → events_of made event test (map task_number xs) ≡ map event_in (filter passes xs)
listed_tasks made event test passes [] each = refl
listed_tasks made event test passes (x ∷ xs) each =
    let here = each 0 x (omega arith, refl) in
    let rest = listed_tasks made event test passes xs (λ i y there. each (suc i) y (omega (arith, there.0), there.1)) in
    (λ i. (if here.1 i then listed (here.0 i) else []) ++ rest i) ∙ step (passes x)
  where
    step : (b : Bool) → (if b then x.event ∷ [] else []) ++ map event_in (filter passes xs) ≡ map event_in (cond b (x ∷ filter passes xs) (filter passes xs))
    step true = refl
    step false = refl

pub task_events : (kind : TaskKind) (tasks : Tasks) (h : List Record) → IsNamed h → TasksAre tasks h → (pick test : history.Task → Bool) (passes : BegunTask → Bool) (xs : List BegunTask) → IsListOf kind tasks (begun_by kind pick h) xs
    → ((i : ℕ) (x : BegunTask) → StandsAt xs i x → is_some_and test (task_made kind h x.number) ≡ passes x)
    → reverse (events_of_each (is_task kind (both_of pick test)) (told h).actions) ≡ map event_in (filter passes xs)
task_events kind tasks h named are pick test passes xs list tests =
    begun_events kind (task_made kind h) (task_event kind h) pick test h (look_ups_tell kind h named)
    ∙ (ap (events_of (task_made kind h) (task_event kind h) test) (sym list.same)
    ∙ listed_tasks (task_made kind h) (task_event kind h) test passes xs (λ i x there. (event_at kind tasks h xs are list.begun i x there, tests i x there)))

-- events are listed in the order in which they began

rises : (test : Event → Bool) (actions : List Action) → BeginsBefore actions
    → AllPairs (λ (m : ℕ) (n : ℕ). m < n) (reverse (events_of_each test actions)) × All (λ (n : ℕ). n < length actions) (reverse (events_of_each test actions))
rises test [] before = (λ i j d lt within. absurd (omega (arith, within)), λ i d within. absurd (omega (arith, within)))
rises test (a ∷ older) before = step ((a.number == a.event.number) && test a.event) refl (rises test older before.2)
  where
    es : List ℕ
    es = events_of_each test older

    step : (b : Bool) → ((a.number == a.event.number) && test a.event) ≡ b → AllPairs (λ (m : ℕ) (n : ℕ). m < n) (reverse es) × All (λ (n : ℕ). n < length older) (reverse es)
        → AllPairs (λ (m : ℕ) (n : ℕ). m < n) (reverse (if b then a.event.number ∷ es else es)) × All (λ (n : ℕ). n < length (a ∷ older)) (reverse (if b then a.event.number ∷ es else es))
    step true e rest =
        let own : a.event.number ≡ length older = sym (eqb-true a.number a.event.number (and_left (a.number == a.event.number) (test a.event) e)) ∙ before.0 in
        subst (λ l. AllPairs (λ (m : ℕ) (n : ℕ). m < n) l × All (λ (n : ℕ). n < length (a ∷ older)) l) (sym (reverse-append (a.event.number ∷ []) es)) (
          all_pairs_push (λ (m : ℕ) (n : ℕ). m < n) (reverse es) a.event.number rest.0 (λ k d lt. omega (arith, rest.1 k d lt, own)),
          All-push (λ (n : ℕ). n < length (a ∷ older)) (reverse es) a.event.number (λ k d lt. omega (arith, rest.1 k d lt)) (omega (arith, own)),
        )
    step false e rest = (rest.0, λ k d lt. omega (arith, rest.1 k d lt))

pub all_kept : (xs : List BegunTask) → filter (λ (x : BegunTask). true) xs ≡ xs
all_kept [] = refl
all_kept (x ∷ xs) = ap (λ l. x ∷ l) (all_kept xs)

any_passes : (kind : TaskKind) (tasks : Tasks) (h : List Record) (xs : List BegunTask) → TasksAre tasks h → HaveBegun kind tasks xs → (i : ℕ) (x : BegunTask) → StandsAt xs i x → is_some_and any_task (task_made kind h x.number) ≡ true
any_passes kind tasks h xs are begun i x there = ap (is_some_and any_task) (task_says kind tasks h are x.number x.task (found_at kind tasks xs begun i x there)).is

-- all of them
pub all_events : (kind : TaskKind) (tasks : Tasks) (h : List Record) → IsNamed h → TasksAre tasks h → (pick : history.Task → Bool) (xs : List BegunTask) → IsListOf kind tasks (begun_by kind pick h) xs
    → reverse (events_of_each (is_task kind (both_of pick any_task)) (told h).actions) ≡ map event_in xs
all_events kind tasks h named are pick xs list =
    task_events kind tasks h named are pick any_task (λ x. true) xs list (any_passes kind tasks h xs are list.begun) ∙ ap (map event_in) (all_kept xs)

events_rise : (kind : TaskKind) (tasks : Tasks) (h : List Record) → IsNamed h → TasksAre tasks h → (pick : history.Task → Bool) (xs : List BegunTask) → IsListOf kind tasks (begun_by kind pick h) xs
    → (i j : ℕ) (x y : BegunTask) → i < j → StandsAt xs i x → StandsAt xs j y → x.event < y.event
events_rise kind tasks h named are pick xs list i j x y less here there =
    let pairs = subst (AllPairs (λ (m : ℕ) (n : ℕ). m < n)) (all_events kind tasks h named are pick xs list) (rises (is_task kind (both_of pick any_task)) (told h).actions (told_before h)).0 in
    let apart : get_or (map event_in xs) i 0 < get_or (map event_in xs) j 0 = pairs i j 0 less (omega (arith, there.0, length-map xs event_in)) in
    omega (arith, apart, get_or-map event_in xs i x 0 here.0, get_or-map event_in xs j y 0 there.0, ap event_in here.1, ap event_in there.1)

-- and rules lead from one to the other

abbrev made_in : Option (ℕ × Option history.Task) → Option history.Task
made_in None = None
made_in (Some p) = p.1

abbrev OrderHolds : TaskKind → Rule → Type 0
OrderHolds kind rule = (joined : ℕ → ℕ → Bool) (u v : Event) (m n : ℕ) (x y : history.Task) → recorded u v ≡ true → run_of kind u.what ≡ Some (m, Some x) → run_of kind v.what ≡ Some (n, Some y)
    → (nat_lt x.place y.place && joined x.piece y.piece) ≡ true → rule joined u v ≡ true

messages_hold : OrderHolds OfMessage messages_in_order
messages_hold joined u v m n x y before one two holds = by u.what v.what one two
  where
    by : (w z : What) → run_of OfMessage w ≡ Some (m, Some x) → run_of OfMessage z ≡ Some (n, Some y) → messages_in_order joined (event_with u.number w) (event_with v.number z) ≡ true
    by (MessageRun k o) (MessageRun l p) e f = both (nat_lt u.number v.number) (declared_in_order joined o p) before ((λ i. declared_in_order joined (ap made_in e i) (ap made_in f i)) ∙ holds)
    by (MessageRun k o) _ e f = absurd (cc)
    by _ z e f = absurd (cc)

anims_hold : OrderHolds OfAnim anims_in_order
anims_hold joined u v m n x y before one two holds = by u.what v.what one two
  where
    by : (w z : What) → run_of OfAnim w ≡ Some (m, Some x) → run_of OfAnim z ≡ Some (n, Some y) → anims_in_order joined (event_with u.number w) (event_with v.number z) ≡ true
    by (AnimRun k o) (AnimRun l p) e f = both (nat_lt u.number v.number) (declared_in_order joined o p) before ((λ i. declared_in_order joined (ap made_in e i) (ap made_in f i)) ∙ holds)
    by (AnimRun k o) _ e f = absurd (cc)
    by _ z e f = absurd (cc)

jobs_hold : OrderHolds OfJob jobs_in_order
jobs_hold joined u v m n x y before one two holds = by u.what v.what one two
  where
    by : (w z : What) → run_of OfJob w ≡ Some (m, Some x) → run_of OfJob z ≡ Some (n, Some y) → jobs_in_order joined (event_with u.number w) (event_with v.number z) ≡ true
    by (JobRun k o inside) (JobRun l p around) e f = both (nat_lt u.number v.number) (declared_in_order joined o p) before ((λ i. declared_in_order joined (ap made_in e i) (ap made_in f i)) ∙ holds)
    by (JobRun k o inside) _ e f = absurd (cc)
    by _ z e f = absurd (cc)

abbrev order_rule : TaskKind → Rule
order_rule OfMessage = messages_in_order
order_rule OfAnim = anims_in_order
order_rule OfJob = jobs_in_order

order_holds : (kind : TaskKind) → OrderHolds kind (order_rule kind)
order_holds OfMessage = messages_hold
order_holds OfAnim = anims_hold
order_holds OfJob = jobs_hold

of_group : (kind : TaskKind) (joined : ℕ → ℕ → Bool) (u v : Event) → (u.number ≡ v.number → ⊥) → order_rule kind joined u v ≡ true → any_holds task_rules joined u v ≡ true
of_group OfMessage joined u v apart e = one_holds task_rules joined u v apart (or_right (post_before_message joined u v) _ (or_left (messages_in_order joined u v) _ e))
of_group OfAnim joined u v apart e =
    one_holds task_rules joined u v apart (or_right (post_before_message joined u v) _ (or_right (messages_in_order joined u v) _ (or_right (ask_before_anim joined u v) _ (or_left (anims_in_order joined u v) _ e))))
of_group OfJob joined u v apart e =
    one_holds task_rules joined u v apart (or_right (post_before_message joined u v) _ (or_right (messages_in_order joined u v) _ (or_right (ask_before_anim joined u v) _ (or_right (anims_in_order joined u v) _
    (or_right (queue_before_job joined u v) _ (or_left (jobs_in_order joined u v) _ e))))))

run_is_task : (kind : TaskKind) (w : What) (n : ℕ) (o : Option history.Task) → run_of kind w ≡ Some (n, o) → IsTask w
run_is_task OfMessage (MessageRun m made) n o e = tt
run_is_task OfMessage _ n o e = absurd (cc)
run_is_task OfAnim (AnimRun a made) n o e = tt
run_is_task OfAnim _ n o e = absurd (cc)
run_is_task OfJob (JobRun j made within) n o e = tt
run_is_task OfJob _ n o e = absurd (cc)

pub tasks_are_joined : (table : List (ℕ × Rule)) → HasFamily table task_rules → (kind : TaskKind) (tasks : Tasks) (h : List Record) → IsNamed h → TasksAre tasks h → (pick : history.Task → Bool) (xs : List BegunTask) → IsListOf kind tasks (begun_by kind pick h) xs
    → AreJoined (path table h) (told h).actions xs
tasks_are_joined table has kind tasks h named are pick xs list = record { declared = declared_at; piece = piece; join = join }
  where
    acts : List Action
    acts = (told h).actions

    says : (i : ℕ) (x : BegunTask) → StandsAt xs i x → TaskSays kind h x.number x.task
    says i x there = task_says kind tasks h are x.number x.task (found_at kind tasks xs list.begun i x there)

    declared_at : (i : ℕ) (x : BegunTask) → StandsAt xs i x → path table h x.task.piece x.task.piece ≡ true
    declared_at i x there =
        let is = says i x there in
        let below = (task_below h (declares_task kind x.number) is.made is.is).1 in
        let action = number_taken acts x.task.piece (actions_are_numbered h) (omega (arith, below, is.piece)) in
        subst (λ n. path table h n n ≡ true) action.2 (action_stands table h action.0 action.1)

    piece : (i : ℕ) (x : BegunTask) → StandsAt xs i x → (a : Action) × Among a acts × (a.event.number ≡ x.event)
    piece i x there = let made = made_by_action (starts_task kind x.number) h x.event (event_at kind tasks h xs are list.begun i x there) in (made.action, made.among, made.number)

    event : (i : ℕ) (x : BegunTask) → StandsAt xs i x → (a : Action) → Among a acts → a.event.number ≡ x.event → TaskEvent kind h x.number x.event a.event.what
    event i x there a among number = task_event_is kind h named x.number x.event (event_at kind tasks h xs are list.begun i x there) a among number

    join : (i j : ℕ) (x y : BegunTask) → i < j → StandsAt xs i x → StandsAt xs j y → goes_before (path table h) x.task y.task ≡ true
        → (a b : Action) → Among a acts → Among b acts → a.event.number ≡ x.event → b.event.number ≡ y.event → path table h a.number b.number ≡ true
    join i j x y less here there goes a b first last ea eb =
        let one = says i x here in
        let two = says j y there in
        let of_a = event i x here a first ea in
        let of_b = event j y there b last eb in
        let run_a : run_of kind a.event.what ≡ Some (x.number, Some one.made) = of_a.run ∙ ap (λ o. Some (x.number, o)) one.is in
        let run_b : run_of kind b.event.what ≡ Some (y.number, Some two.made) = of_b.run ∙ ap (λ o. Some (y.number, o)) two.is in
        let before : a.event.number < b.event.number = omega (arith, events_rise kind tasks h named are pick xs list i j x y less here there, ea, eb) in
        let stands = task_before h named a b first last (run_is_task kind b.event.what y.number (Some two.made) run_b) before in
        let up = event_before acts b (told_before h) last in
        let declared_ = sym (goes_is (path table h) kind tasks h are x.number y.number x.task y.task one two (found_at kind tasks xs list.begun i x here) (found_at kind tasks xs list.begun j y there)) ∙ goes in
        let places = and_left (nat_lt one.made.place two.made.place) (path table h one.made.piece two.made.piece) declared_ in
        let paths = and_right (nat_lt one.made.place two.made.place) (path table h one.made.piece two.made.piece) declared_ in
        let below = of_b.piece two.made two.is in
        let known : up_to b.event.number (path table h) one.made.piece two.made.piece ≡ true = both (nat_lt two.made.piece b.event.number) (path table h one.made.piece two.made.piece) (less_is two.made.piece b.event.number (omega (arith, below, eb))) paths in
        let holds = order_holds kind (up_to b.event.number (path table h)) a.event b.event x.number y.number one.made two.made (less_is a.event.number b.event.number before) run_a run_b
        (both (nat_lt one.made.place two.made.place) (up_to b.event.number (path table h) one.made.piece two.made.piece) places known) in
        edge_path table h a b first last (both (nat_lt a.number b.number) (is_ruled table (path table h) a b || (around_inline a b || of_one_event a b)) (less_is a.number b.number (omega (arith, stands, up.1)))
        (or_left (is_ruled table (path table h) a b) (around_inline a b || of_one_event a b) (has (up_to b.event.number (path table h)) a.event b.event (of_group kind (up_to b.event.number (path table h)) a.event b.event (λ same. omega (arith, same, before)) holds))))
