-- What each call hands is what is due. Lists of records stand newest first.
use Rattle.std.proofs.Common.{◌≡◌, ℕ, ◌+◌, Bool, true, false, List, [], ◌∷◌, length, map, reverse, take, Option, Some, None, option_map, Result, Ok, Err, OnOk, OnErr, refl, sym, ap, subst, ◌∙◌, arith, inl, inr}
use Rattle.std.specs.Prelude.{◌==◌, ◌&&◌, ◌||◌, if◌then◌else◌}
use Rattle.std.specs.List.{list_any}
use Rattle.std.proofs.Math.Logic.{∥∥₁_elim, ∥∥₁_map}
use Rattle.std.proofs.Props.{props}
use Rattle.std.proofs.lemmas.List.{length-map, length-reverse}
use Rattle.er_trace.specs.declared.record.Record.{Record}
use Rattle.er_trace.specs.declared.record.Record.TheVariants.{Timer, Tick, Close, Back, Message, Anim, Job}
use Rattle.er_trace.specs.declared.version.Version.TheVariants.{Three}
use Rattle.er_paths.specs.Paths.{is_among}
use Rattle.er_paths.proofs.Paths.{or_left}
use Rattle.std.proofs.lemmas.Bool.{eq-eqb}
use Rattle.er_history.specs.History as history
use Rattle.er_history.specs.History.{Open, Event, Action, Entry, told, begins, first_to, makes_task, event_begun, action_begun}
use Rattle.er_history.specs.Edges.{path}
use Rattle.er_history.specs.Handed.{AreSources, AreEnough}
use Rattle.er_history.specs.Kinds.{is_job_within}
use Rattle.er_history.specs.Latest.{latest_of, events_of_each}
use Rattle.er_history.specs.Laws.{Among}
use Rattle.er_history.specs.LookUps.{event_of, jobs_in}
use Rattle.er_history.specs.Rules.{rules, is_some_and, task_rules}
use Rattle.er_history.specs.Tasks.{TaskKind, OfMessage, OfAnim, OfJob, declares_task, task_made, tasks_begun, queued_jobs}
use Rattle.er_page.specs.Handing.{HasEvents, GrewFor, GrewInPartFor}
use Rattle.er_page.proofs.HandingLemmas.{named_list}
use Rattle.er_page.specs.declared.page.Page.{Page}
use Rattle.er_page.specs.Page.{IsPage, IsSomePage}
use Rattle.er_pieces.specs.Contract.{ComesNext, GrewBy, GrewInPart, HandsFew, listed, latest_of_all}
use Rattle.er_pieces.proofs.BegunLemmas.{GivenBy, given_by}
use Rattle.er_pieces.proofs.ChainLemmas.{back_enough}
use Rattle.er_pieces.proofs.ContractLemmas.{grew_behind, grew_few, steady_by}
use Rattle.er_pieces.proofs.LookUpLemmas.{event_of_action, listed_is, slice_handed}
use Rattle.er_pieces.proofs.NestedLaws.{nested_facts}
use Rattle.er_pieces.proofs.SteadyLemmas.{all_rules_are_steady}
use Rattle.er_tasks.specs.declared.tasks.Task.{Task}
use Rattle.er_tasks.specs.declared.tasks.BegunTask.{BegunTask}
use Rattle.er_tasks.specs.Begun.{AreRuns, task_number}
use Rattle.er_tasks.specs.Tasks.{HaveBegun, task_at}
use Rattle.er_path_rules.specs.timer.Timed.{IsTimed}
use Rattle.er_path_rules.specs.declared.task.before.Asked.TheVariants.{Before, Nothing}
use Rattle.er_path_rules.specs.task.Before.{event_in, goes_before, AreJoined, HandsSomeOf, HandsOf}
use Rattle.er_path_rules.specs.task.Counts.{queued_count, most_task}
use Rattle.er_path_rules.specs.task.Due.{is_task, declared_first, is_earlier, is_job_of, maker_of, comes_before}
use Rattle.er_path_rules.specs.task.Enough.{HandsEnoughTasks, HandsSourceTasks}
use Rattle.er_path_rules.specs.task.Handed.{HandsSomeEvents, HandsEvents, HandsEnoughOf, HandsSome}
use Rattle.er_path_rules.specs.task.Parts.{due_for, task_due, task_count, jobs_due, callback_due, callback_count}
use Rattle.er_path_rules.proofs.task.ListLemmas.{TaskSays, task_says, none_made, goes_is, IsListOf, found_at, tasks_are_events, task_events, all_events, all_kept, tasks_are_joined}
use Rattle.er_path_rules.proofs.task.PartLemmas.{nothing_handed, some_as, hands_as, hands_both, some_first, some_later, is_event, event_handed, event_in_part, each_handed, each_in_part, AreOf, tasks_handed, tasks_in_part}
use Rattle.er_path_rules.proofs.task.RuleLemmas.{due_is, older, made_known, messages_counted, anims_counted, jobs_counted}
use Rattle.er_path_rules.proofs.task.TellLemmas.{begun_by, any_task, of_queuer, all_begun, queued_begun, queued_counted}

-- a list that the page has

abbrev pub IsNumbered : Page → (List Record → List ℕ) → List BegunTask → Type 0
IsNumbered page numbers xs = (h : List Record) → IsPage page h → map task_number xs ≡ numbers h

abbrev pub AreBegunOn : TaskKind → Page → List BegunTask → Type 0
AreBegunOn kind page xs = (h : List Record) → IsPage page h → HaveBegun kind page.tasks xs

pub list_of : (kind : TaskKind) (page : Page) (xs : List BegunTask) → IsNumbered page (tasks_begun kind) xs → AreBegunOn kind page xs → (h : List Record) → IsPage page h → IsListOf kind page.tasks (begun_by kind any_task h) xs
list_of kind page xs numbers begun h is = record { same = numbers h is ∙ all_begun kind h; begun = begun h is }

pub jobs_of : (u : ℕ) (page : Page) (xs : List BegunTask) → IsNumbered page (λ h. queued_jobs h u) xs → AreBegunOn OfJob page xs → (h : List Record) → IsPage page h → IsListOf OfJob page.tasks (begun_by OfJob (of_queuer u) h) xs
jobs_of u page xs numbers begun h is = record { same = numbers h is ∙ queued_begun u h; begun = begun h is }

-- what the walk asks of it

pub list_events : (kind : TaskKind) (page : Page) (xs : List BegunTask) → ∥ IsSomePage page ∥₁ → AreBegunOn kind page xs → ∥ HasEvents page (map event_in xs) ∥₁
list_events kind page xs some begun = ∥∥₁_map some (λ p. record {
  list = p.list;
  stands = p.stands;
  each = tasks_are_events kind page.tasks p.list xs p.stands.tasks (begun p.list p.stands);
})

pub list_runs : (kind : TaskKind) (page : Page) (xs : List BegunTask) → ∥ IsSomePage page ∥₁ → AreBegunOn kind page xs → AreRuns xs
list_runs kind page xs some begun = record {
  within = λ i d lt. ∥∥₁_elim some (hlevel props) (λ p. (begun p.list p.stands).runs.within i d lt);
  each = λ i j d lt from to. ∥∥₁_elim some (hlevel props) (λ p. (begun p.list p.stands).runs.each i j d lt from to);
}

pub list_joined : (kind : TaskKind) (page : Page) (links : List (List ℕ)) (pick : history.Task → Bool) (xs : List BegunTask) → ((h : List Record) → IsPage page h → IsListOf kind page.tasks (begun_by kind pick h) xs)
    → (h : List Record) → IsTimed Three page links h → AreJoined (path (rules Three) h) (told h).actions xs
list_joined kind page links pick xs list h timed =
    tasks_are_joined (rules Three) (all_rules_are_steady Three).tasks kind page.tasks h (named_list h timed.page.accepted) timed.page.tasks pick xs (list h timed.page)

-- the event that declared a task

task_is_event : (h : List Record) (test : Record → Bool) (x : history.Task) → first_to (makes_task test) (told h).entries ≡ Some x → event_of h x.maker ≡ Some x.maker
task_is_event h test x found = of (given_by (makes_task test) (λ y place. refl) h x found)
  where
    task_in : ℕ → Option Action → Bool → Option history.Task
    task_in place (Some a) true = Some (record { place = place; maker = a.event.number; piece = a.number })
    task_in place _ _ = None

    by : (place : ℕ) (a : Action) (b : Bool) → task_in place (Some a) b ≡ Some x → a.event.number ≡ x.maker
    by place a true e = let same : record { place = place; maker = a.event.number; piece = a.number } ≡ x = cc in ap (λ (t : history.Task). t.maker) same
    by place a false e = absurd (cc)

    of : GivenBy (makes_task test) h x → event_of h x.maker ≡ Some x.maker
    of is = subst (λ k. event_of h k ≡ Some k) (by is.place is.action (test is.read) is.gives) (event_of_action h is.action is.among)

pub maker_events : (kind : TaskKind) (page : Page) (number : ℕ) (next : Task) → ∥ IsSomePage page ∥₁ → Some next ≡ task_at kind page.tasks number → ∥ HasEvents page (listed (Some next.maker)) ∥₁
maker_events kind page number next some found = ∥∥₁_map some (λ p. record {
  list = p.list;
  stands = p.stands;
  each = λ u among.
      let says = task_says kind page.tasks p.list p.stands.tasks number next (sym found) in
      let same : says.made.maker ≡ u = says.maker ∙ one (listed_is (Some next.maker) u among) in
      subst (λ k. event_of p.list k ≡ Some k) same (task_is_event p.list (declares_task kind number) says.made says.is);
})
  where
    one : {m n : ℕ} → Some m ≡ Some n → m ≡ n
    one e = cc

-- before a task

pub no_task : (kind : TaskKind) (page : Page) (links : List (List ℕ)) (number : ℕ) (old : List ℕ) → None ≡ task_at kind page.tasks number → HandsEnoughOf (IsTimed Three page links) (task_due kind number) (task_count kind number) old old
no_task kind page links number old none h timed =
    nothing_handed (path (rules Three) h) (told h).actions (task_due kind number h) (task_count kind number h) old
    (λ i among. ap (λ o. comes_before (path (rules Three) h) kind o i.event) (none_made kind page.tasks h timed.page.tasks number (sym none)))

-- the tasks of its kind
earlier_are : (joined : ℕ → ℕ → Bool) (kind : TaskKind) (page : Page) (h : List Record) → IsPage page h → (xs : List BegunTask) → IsListOf kind page.tasks (begun_by kind any_task h) xs
    → (number : ℕ) (next : Task) → (says : TaskSays kind h number next) → task_at kind page.tasks number ≡ Some next → AreOf joined h (is_earlier joined kind (Some says.made)) (Before next) xs
earlier_are joined kind page h is xs list number next says found =
    task_events kind page.tasks h (named_list h is.accepted) is.tasks any_task (declared_first joined says.made) (λ (x : BegunTask). goes_before joined x.task next) xs list
    (λ i x there.
    let at = found_at kind page.tasks xs list.begun i x there in
    let one = task_says kind page.tasks h is.tasks x.number x.task at in
    ap (is_some_and (declared_first joined says.made)) one.is ∙ sym (goes_is joined kind page.tasks h is.tasks x.number number x.task next one says at found))

abbrev TaskTest : (ℕ → ℕ → Bool) → TaskKind → ℕ → history.Task → Event → Bool
TaskTest joined kind maker made u = is_event maker u || is_earlier joined kind (Some made) u

-- told by what declared it
told_by : (joined : ℕ → ℕ → Bool) (kind : TaskKind) (number maker : ℕ) (h : List Record) (next : Task) → (says : TaskSays kind h number next) → maker ≡ next.maker → (u : Event) → TaskTest joined kind maker says.made u ≡ comes_before joined kind (task_made kind h number) u
told_by joined kind number maker h next says same u =
    ap (λ m. is_event m u || is_earlier joined kind (Some says.made) u) (same ∙ sym says.maker) ∙ ap (λ o. comes_before joined kind o u) (sym says.is)

count_by : (joined : ℕ → ℕ → Bool) (kind : TaskKind) (number : ℕ) (h : List Record) (next : Task) → (says : TaskSays kind h number next)
    → 1 + length (events_of_each (is_earlier joined kind (Some says.made)) (told h).actions) ≡ 1 + length (events_of_each (is_earlier joined kind (task_made kind h number)) (told h).actions)
count_by joined kind number h next says = ap (λ o. 1 + length (events_of_each (is_earlier joined kind o) (told h).actions)) (sym says.is)

pub task_whole : {E : Type 0} → (kind : TaskKind) (page : Page) (links : List (List ℕ)) (number : ℕ) (next : Task) (xs : List BegunTask) (r : Result (Unit {0}) E) (old mid new : List ℕ) → Some next ≡ task_at kind page.tasks number
    → IsNumbered page (tasks_begun kind) xs → AreBegunOn kind page xs → GrewFor page (λ t. latest_of (Some next.maker) t.actions) old mid
    → OnOk r ((h : List Record) → IsTimed Three page links h → HandsOf (path (rules Three) h) (told h).actions (Before next) xs 0 mid new) → OnOk r (HandsEnoughOf (IsTimed Three page links) (task_due kind number) (task_count kind number) old new)
task_whole kind page links number next xs (Err e) old mid new found numbers begun first second = tt
task_whole kind page links number next xs (Ok u) old mid new found numbers begun first second = λ h timed.
    let joined = path (rules Three) h in
    let says = task_says kind page.tasks h timed.page.tasks number next (sym found) in
    let earlier : Event → Bool = is_earlier joined kind (Some says.made) in
    let one = event_handed (rules Three) h next.maker old mid (first h timed.page) in
    let two = tasks_handed joined h earlier (Before next) xs mid new (earlier_are joined kind page h timed.page xs (list_of kind page xs numbers begun h timed.page) number next says (sym found)) (second h timed) in
    hands_as joined (told h).actions (TaskTest joined kind next.maker says.made) (task_due kind number h) (1 + length (events_of_each earlier (told h).actions)) (task_count kind number h) old new
    (λ i among. told_by joined kind number next.maker h next says refl i.event) (omega (arith, count_by joined kind number h next says))
    (hands_both joined (told h).actions (is_event next.maker) earlier 1 (length (events_of_each earlier (told h).actions)) old mid new one two)

pub task_first : {E : Type 0} → (kind : TaskKind) (page : Page) (links : List (List ℕ)) (number : ℕ) (next : Task) (r : Result (Unit {0}) E) (old new : List ℕ) → Some next ≡ task_at kind page.tasks number
    → GrewInPartFor page (λ t. latest_of (Some next.maker) t.actions) old new → OnErr r (HandsSome (IsTimed Three page links) (task_due kind number) (task_count kind number) old new)
task_first kind page links number next (Ok u) old new found part = tt
task_first kind page links number next (Err e) old new found part = λ h timed.
    let joined = path (rules Three) h in
    let says = task_says kind page.tasks h timed.page.tasks number next (sym found) in
    let earlier : Event → Bool = is_earlier joined kind (Some says.made) in
    some_as (told h).actions (TaskTest joined kind next.maker says.made) (task_due kind number h) (1 + length (events_of_each earlier (told h).actions)) (task_count kind number h) old new
    (λ i among. told_by joined kind number next.maker h next says refl i.event) (omega (arith, count_by joined kind number h next says))
    (some_first (told h).actions (is_event next.maker) earlier 1 (length (events_of_each earlier (told h).actions)) old new (event_in_part h next.maker old new (part h timed.page)))

pub task_part : {E : Type 0} → (kind : TaskKind) (page : Page) (links : List (List ℕ)) (number : ℕ) (next : Task) (xs : List BegunTask) (r : Result (Unit {0}) E) (old mid new : List ℕ) → Some next ≡ task_at kind page.tasks number
    → IsNumbered page (tasks_begun kind) xs → AreBegunOn kind page xs → GrewFor page (λ t. latest_of (Some next.maker) t.actions) old mid
    → OnErr r ((h : List Record) → IsTimed Three page links h → HandsSomeOf (path (rules Three) h) (told h).actions (Before next) xs 0 mid new) → OnErr r (HandsSome (IsTimed Three page links) (task_due kind number) (task_count kind number) old new)
task_part kind page links number next xs (Ok u) old mid new found numbers begun first second = tt
task_part kind page links number next xs (Err e) old mid new found numbers begun first second = λ h timed.
    let joined = path (rules Three) h in
    let says = task_says kind page.tasks h timed.page.tasks number next (sym found) in
    let earlier : Event → Bool = is_earlier joined kind (Some says.made) in
    let one = event_handed (rules Three) h next.maker old mid (first h timed.page) in
    let two = tasks_in_part joined h earlier (Before next) xs mid new (earlier_are joined kind page h timed.page xs (list_of kind page xs numbers begun h timed.page) number next says (sym found)) (second h timed) in
    some_as (told h).actions (TaskTest joined kind next.maker says.made) (task_due kind number h) (1 + length (events_of_each earlier (told h).actions)) (task_count kind number h) old new
    (λ i among. told_by joined kind number next.maker h next says refl i.event) (omega (arith, count_by joined kind number h next says))
    (some_later (told h).actions (is_event next.maker) earlier 1 (length (events_of_each earlier (told h).actions)) old mid new one.some two)

-- the jobs of an event

and_true : (b : Bool) → (b && true) ≡ b
and_true true = refl
and_true false = refl

queued_are : (joined : ℕ → ℕ → Bool) (u : ℕ) (page : Page) (h : List Record) → IsPage page h → (xs : List BegunTask) → IsListOf OfJob page.tasks (begun_by OfJob (of_queuer u) h) xs → AreOf joined h (is_job_of (Some u)) Nothing xs
queued_are joined u page h is xs list =
    (λ i. reverse (events_of_each (is_task OfJob (λ y. sym (and_true (of_queuer u y)) i)) (told h).actions))
    ∙ (all_events OfJob page.tasks h (named_list h is.accepted) is.tasks (of_queuer u) xs list ∙ ap (map event_in) (sym (all_kept xs)))

queued_count_is : (u : ℕ) (page : Page) (h : List Record) → IsPage page h → (xs : List BegunTask) → IsListOf OfJob page.tasks (begun_by OfJob (of_queuer u) h) xs → length (events_of_each (is_job_of (Some u)) (told h).actions) ≡ queued_count h (Some u)
queued_count_is u page h is xs list =
    let same = ap length (queued_are (λ i j. false) u page h is xs list) in
    let kept = ap length (ap (map event_in) (all_kept xs)) in
    omega (
      arith,
      same,
      kept,
      length-reverse (events_of_each (is_job_of (Some u)) (told h).actions),
      length-map xs event_in,
      length-map xs task_number,
      ap length list.same,
      ap length (queued_begun u h),
      queued_counted u h,
    )

pub no_jobs : (page : Page) (links : List (List ℕ)) (old : List ℕ) → HandsEnoughOf (IsTimed Three page links) (jobs_due None) (λ h. queued_count h None) old old
no_jobs page links old h timed = nothing_handed (path (rules Three) h) (told h).actions (jobs_due None h) 0 old (λ i among. refl)

pub jobs_whole : {E : Type 0} → (u : ℕ) (page : Page) (links : List (List ℕ)) (xs : List BegunTask) (r : Result (Unit {0}) E) (old new : List ℕ) → IsNumbered page (λ h. queued_jobs h u) xs → AreBegunOn OfJob page xs
    → OnOk r ((h : List Record) → IsTimed Three page links h → HandsOf (path (rules Three) h) (told h).actions Nothing xs 0 old new) → OnOk r (HandsEnoughOf (IsTimed Three page links) (jobs_due (Some u)) (λ h. queued_count h (Some u)) old new)
jobs_whole u page links xs (Err e) old new numbers begun hands = tt
jobs_whole u page links xs (Ok t) old new numbers begun hands = λ h timed.
    let joined = path (rules Three) h in
    let list = jobs_of u page xs numbers begun h timed.page in
    subst (λ n. HandsEvents joined (told h).actions (is_job_of (Some u)) n old new) (queued_count_is u page h timed.page xs list)
    (tasks_handed joined h (is_job_of (Some u)) Nothing xs old new (queued_are joined u page h timed.page xs list) (hands h timed))

pub jobs_part : {E : Type 0} → (u : ℕ) (page : Page) (links : List (List ℕ)) (xs : List BegunTask) (r : Result (Unit {0}) E) (old new : List ℕ) → IsNumbered page (λ h. queued_jobs h u) xs → AreBegunOn OfJob page xs
    → OnErr r ((h : List Record) → IsTimed Three page links h → HandsSomeOf (path (rules Three) h) (told h).actions Nothing xs 0 old new) → OnErr r (HandsSome (IsTimed Three page links) (jobs_due (Some u)) (λ h. queued_count h (Some u)) old new)
jobs_part u page links xs (Ok t) old new numbers begun hands = tt
jobs_part u page links xs (Err e) old new numbers begun hands = λ h timed.
    let joined = path (rules Three) h in
    let list = jobs_of u page xs numbers begun h timed.page in
    subst (λ n. HandsSomeEvents (told h).actions (is_job_of (Some u)) n old new) (queued_count_is u page h timed.page xs list)
    (tasks_in_part joined h (is_job_of (Some u)) Nothing xs old new (queued_are joined u page h timed.page xs list) (hands h timed))

-- the jobs of a dispatch

pub within_whole : {E : Type 0} → (page : Page) (d : ℕ) (slice : List ℕ) (r : Result (Unit {0}) E) (old new : List ℕ) → ((h : List Record) → IsPage page h → slice ≡ jobs_in h d) → OnOk r (GrewFor page (λ t. latest_of_all (reverse slice) t.actions) old new)
    → OnOk r (HandsEnoughOf (IsPage page) (λ h. is_job_within d) (λ h. length (jobs_in h d)) old new)
within_whole page d slice (Err e) old new is grew = tt
within_whole page d slice (Ok t) old new is grew = λ h stands.
    each_handed (rules Three) h (is_job_within d) (length (jobs_in h d)) old new refl (subst (λ (l : List ℕ). GrewBy old l new) (slice_handed h (is_job_within d) slice (is h stands)) (grew h stands))

pub within_part : {E : Type 0} → (page : Page) (d : ℕ) (slice : List ℕ) (r : Result (Unit {0}) E) (old new : List ℕ) → ((h : List Record) → IsPage page h → slice ≡ jobs_in h d) → OnErr r (GrewInPartFor page (λ t. latest_of_all (reverse slice) t.actions) old new)
    → OnErr r (HandsSome (IsPage page) (λ h. is_job_within d) (λ h. length (jobs_in h d)) old new)
within_part page d slice (Ok t) old new is grew = tt
within_part page d slice (Err e) old new is grew = λ h stands.
    each_in_part h (is_job_within d) (length (jobs_in h d)) old new refl (subst (λ (l : List ℕ). GrewInPart old l new) (slice_handed h (is_job_within d) slice (is h stands)) (grew h stands))

-- before a task that is no job

queuer_is : (kind : TaskKind) (page : Page) (h : List Record) → IsPage page h → (number : ℕ) (maker : Option ℕ) → maker ≡ option_map (λ (x : Task). x.maker) (task_at kind page.tasks number) → maker ≡ maker_of (task_made kind h number)
queuer_is kind page h is number maker e = e ∙ by (task_at kind page.tasks number) refl
  where
    by : (o : Option Task) → task_at kind page.tasks number ≡ o → option_map (λ (x : Task). x.maker) (task_at kind page.tasks number) ≡ maker_of (task_made kind h number)
    by None f = ap (option_map (λ (x : Task). x.maker)) f ∙ ap maker_of (sym (none_made kind page.tasks h is.tasks number f))
    by (Some x) f =
        let says = task_says kind page.tasks h is.tasks number x f in
        ap (option_map (λ (x : Task). x.maker)) f ∙ (ap (λ m. Some m) (sym says.maker) ∙ ap maker_of (sym says.is))

pub callback_whole : {E : Type 0} → (kind : TaskKind) (page : Page) (links : List (List ℕ)) (number : ℕ) (maker : Option ℕ) (r : Result (Unit {0}) E) (old mid new : List ℕ) → maker ≡ option_map (λ (x : Task). x.maker) (task_at kind page.tasks number)
    → HandsEnoughOf (IsTimed Three page links) (task_due kind number) (task_count kind number) old mid → OnOk r (HandsEnoughOf (IsTimed Three page links) (jobs_due maker) (λ h. queued_count h maker) mid new)
    → OnOk r (HandsEnoughOf (IsTimed Three page links) (callback_due kind number) (callback_count kind number) old new)
callback_whole kind page links number maker (Err e) old mid new is first second = tt
callback_whole kind page links number maker (Ok t) old mid new is first second = λ h timed.
    let joined = path (rules Three) h in
    let same = queuer_is kind page h timed.page number maker is in
    hands_both joined (told h).actions (task_due kind number h) (jobs_due (maker_of (task_made kind h number)) h) (task_count kind number h) (queued_count h (maker_of (task_made kind h number))) old mid new (first h timed)
    (subst (λ o. HandsEvents joined (told h).actions (jobs_due o h) (queued_count h o) mid new) same (second h timed))

pub callback_first : {E : Type 0} → (kind : TaskKind) (page : Page) (links : List (List ℕ)) (number : ℕ) (r : Result (Unit {0}) E) (old new : List ℕ) → HandsSome (IsTimed Three page links) (task_due kind number) (task_count kind number) old new
    → OnErr r (HandsSome (IsTimed Three page links) (callback_due kind number) (callback_count kind number) old new)
callback_first kind page links number (Ok t) old new first = tt
callback_first kind page links number (Err e) old new first = λ h timed.
    some_first (told h).actions (task_due kind number h) (jobs_due (maker_of (task_made kind h number)) h) (task_count kind number h) (queued_count h (maker_of (task_made kind h number))) old new (first h timed)

pub callback_part : {E : Type 0} → (kind : TaskKind) (page : Page) (links : List (List ℕ)) (number : ℕ) (maker : Option ℕ) (r : Result (Unit {0}) E) (old mid new : List ℕ) → maker ≡ option_map (λ (x : Task). x.maker) (task_at kind page.tasks number)
    → HandsEnoughOf (IsTimed Three page links) (task_due kind number) (task_count kind number) old mid → OnErr r (HandsSome (IsTimed Three page links) (jobs_due maker) (λ h. queued_count h maker) mid new)
    → OnErr r (HandsSome (IsTimed Three page links) (callback_due kind number) (callback_count kind number) old new)
callback_part kind page links number maker (Ok t) old mid new is first second = tt
callback_part kind page links number maker (Err e) old mid new is first second = λ h timed.
    let same = queuer_is kind page h timed.page number maker is in
    some_later (told h).actions (task_due kind number h) (jobs_due (maker_of (task_made kind h number)) h) (task_count kind number h) (queued_count h (maker_of (task_made kind h number))) old mid new (first h timed).some
    (subst (λ o. HandsSomeEvents (told h).actions (jobs_due o h) (queued_count h o) mid new) same (second h timed))

-- for the record

-- the same is due, and no fewer
abbrev pub IsSame : (List Record → Type 0) → (List Record → Event → Bool) → (List Record → Event → Bool) → (List Record → ℕ) → (List Record → ℕ) → Type 0
IsSame stands test same most more = (h : List Record) → stands h → ((u : Event) → test h u ≡ same h u) × (most h ≡ more h)

pub whole_as : {E : Type 0} → (stands wider : List Record → Type 0) (test same : List Record → Event → Bool) (most more : List Record → ℕ) (r : Result (Unit {0}) E) (old new : List ℕ) → ((h : List Record) → stands h → wider h) → IsSame stands test same most more
    → OnOk r (HandsEnoughOf wider test most old new) → OnOk r (HandsEnoughOf stands same more old new)
whole_as stands wider test same most more (Err e) old new to is hands = tt
whole_as stands wider test same most more (Ok t) old new to is hands = λ h stand.
    hands_as (path (rules Three) h) (told h).actions (test h) (same h) (most h) (more h) old new (λ i among. (is h stand).0 i.event) (omega (arith, (is h stand).1)) (hands h (to h stand))

pub part_as : {E : Type 0} → (stands wider : List Record → Type 0) (test same : List Record → Event → Bool) (most more : List Record → ℕ) (r : Result (Unit {0}) E) (old new : List ℕ) → ((h : List Record) → stands h → wider h) → IsSame stands test same most more
    → OnErr r (HandsSome wider test most old new) → OnErr r (HandsSome stands same more old new)
part_as stands wider test same most more (Ok t) old new to is hands = tt
part_as stands wider test same most more (Err e) old new to is hands = λ h stand.
    some_as (told h).actions (test h) (same h) (most h) (more h) old new (λ i among. (is h stand).0 i.event) (omega (arith, (is h stand).1)) (hands h (to h stand))

events_same : (f g : Event → Bool) (actions : List Action) → ((a : Action) → Among a actions → f a.event ≡ g a.event) → events_of_each f actions ≡ events_of_each g actions
events_same f g [] same = refl
events_same f g (a ∷ older_) same =
    ap (λ b. if (a.number == a.event.number) && b then a.event.number ∷ events_of_each f older_ else events_of_each f older_) (same a (inl refl))
    ∙ ap (λ l. if (a.number == a.event.number) && g a.event then a.event.number ∷ l else l) (events_same f g older_ (λ b among. same b (inr among)))

pub message_count : (h : List Record) (m : ℕ) → callback_count OfMessage m h ≡ most_task h (Message m)
message_count h m =
    ap (λ l. 1 + length l + queued_count h (maker_of (task_made OfMessage h m))) (sym (events_same _ _ (told h).actions (λ a among. messages_counted (path (rules Three) h) a.event (length (told h).actions) m (task_made OfMessage h m) (older h a among) (made_known h (declares_task OfMessage m)))))

pub anim_count : (h : List Record) (k : ℕ) → callback_count OfAnim k h ≡ most_task h (Anim k)
anim_count h k =
    ap (λ l. 1 + length l + queued_count h (maker_of (task_made OfAnim h k))) (sym (events_same _ _ (told h).actions (λ a among. anims_counted (path (rules Three) h) a.event (length (told h).actions) k (task_made OfAnim h k) (older h a among) (made_known h (declares_task OfAnim k)))))

pub job_count : (h : List Record) (j : ℕ) → task_count OfJob j h ≡ most_task h (Job j)
job_count h j =
    ap (λ l. 1 + length l) (sym (events_same _ _ (told h).actions (λ a among.
    jobs_counted (path (rules Three) h) a.event (length (told h).actions) j (task_made OfJob h j) (map (λ (o : Open). o.dispatch.number) (told h).stack) (older h a among) (made_known h (declares_task OfJob j)))))

pub nothing_due : (page : Page) (links : List (List ℕ)) (x : Record) (old : List ℕ) → ((h : List Record) (u : Event) → due_for x h u ≡ false) → HandsEnoughOf (IsTimed Three page links) (due_for x) (λ h. most_task h x) old old
nothing_due page links x old none h timed = nothing_handed (path (rules Three) h) (told h).actions (due_for x h) (most_task h x) old (λ i among. none h i.event)

-- so it is sources, and enough

task_sources : (h : List Record) (x : Record) (handed : List ℕ) → ComesNext (rules Three) h x → ((k : ℕ) → is_among k handed ≡ true → (i : Action) × Among i (told h).actions × (i.number ≡ k) × (due_for x h i.event ≡ true))
    → AreSources task_rules (path (rules Three) h) (told h) x handed
task_sources h (Back p) handed next sources = λ k among. absurd (let s = sources k among in let fails : false ≡ true = s.3 in cc)
task_sources h x handed next sources = λ k among.
    let s = sources k among in
    (s.0, s.1, s.2, due_is (rules Three) h x (steady_by (rules Three) h x next) next.named next.ordered s.0 s.1 ∙ s.3)

task_enough : (h : List Record) (x : Record) (handed : List ℕ) → ComesNext (rules Three) h x → ((i : Action) → Among i (told h).actions → due_for x h i.event ≡ true → list_any (λ k. path (rules Three) h i.number k) handed ≡ true)
    → AreEnough task_rules (path (rules Three) h) (told h) x handed
task_enough h (Back p) handed next enough = λ i c among runs ruled. back_enough (rules Three) task_rules h p (nested_facts (rules Three)) (all_rules_are_steady Three).tasks (steady_by (rules Three) h (Back p) next) next.named i c among runs ruled
task_enough h x handed next enough = λ i among ruled. enough i among (sym (due_is (rules Three) h x (steady_by (rules Three) h x next) next.named next.ordered i among) ∙ ruled)

none_for_notes : (h : List Record) (x : Record) (u : Event) → begins x ≡ false → due_for x h u ≡ false
none_for_notes h (Message m) u e = absurd (cc)
none_for_notes h (Anim a) u e = absurd (cc)
none_for_notes h (Job j) u e = absurd (cc)
none_for_notes h (Timer t) u e = absurd (cc)
none_for_notes h (Tick i) u e = absurd (cc)
none_for_notes h (Close p) u e = absurd (cc)
none_for_notes h _ u e = refl

no_numbers : (h : List Record) (x : Record) (handed : List ℕ) → ((k : ℕ) → is_among k handed ≡ true → (i : Action) × Among i (told h).actions × (i.number ≡ k) × (due_for x h i.event ≡ true)) → begins x ≡ false → handed ≡ []
no_numbers h x [] sources e = refl
no_numbers h x (k ∷ ks) sources e =
    let s = sources k (or_left (k == k) (is_among k ks) (eq-eqb k k refl)) in
    let none = none_for_notes h x s.0.event e in
    absurd (cc)

pub enough_tasks : {E : Type 0} → (stands : List Record → Type 0) (x : Record) (old new : List ℕ) (r : Result (Unit {0}) E) → OnOk r (HandsEnoughOf stands (due_for x) (λ h. most_task h x) old new) → OnOk r (HandsEnoughTasks stands x old new)
enough_tasks stands x old new (Err e) hands = tt
enough_tasks stands x old new (Ok t) hands = λ h is next.
    let all = hands h is in
    record {
      handed = all.some.handed;
      grown = all.some.grown;
      are_handed = record {
        sources = task_sources h x all.some.handed next all.some.sources;
        enough = task_enough h x all.some.handed next all.enough;
        none = no_numbers h x all.some.handed all.some.sources;
      };
    }

pub source_tasks : {E : Type 0} → (stands : List Record → Type 0) (x : Record) (old new : List ℕ) (r : Result (Unit {0}) E) → OnErr r (HandsSome stands (due_for x) (λ h. most_task h x) old new) → OnErr r (HandsSourceTasks stands x old new)
source_tasks stands x old new (Ok t) hands = tt
source_tasks stands x old new (Err e) hands = λ h is next. let some = hands h is in record { handed = some.handed; grown = some.grown; sources = task_sources h x some.handed next some.sources }

-- how many they are, and that what stood before stays in front

pub few_tasks : {E : Type 0} → (stands : List Record → Type 0) (x : Record) (old new : List ℕ) (r : Result (Unit {0}) E) → OnOk r (HandsEnoughOf stands (due_for x) (λ h. most_task h x) old new) → OnErr r (HandsSome stands (due_for x) (λ h. most_task h x) old new)
    → HandsFew stands most_task x old new
few_tasks stands x old new (Ok t) whole part = λ h is. let some = (whole h is).some in grew_few old some.handed new (most_task h x) some.few some.grown
few_tasks stands x old new (Err e) whole part = λ h is. let some = part h is in grew_few old some.handed new (most_task h x) some.few some.grown

pub kept_tasks : {E : Type 0} → (stands : List Record → Type 0) (x : Record) (old new : List ℕ) (r : Result (Unit {0}) E) → OnOk r (HandsEnoughOf stands (due_for x) (λ h. most_task h x) old new) → OnErr r (HandsSome stands (due_for x) (λ h. most_task h x) old new)
    → (h : List Record) → stands h → take (length old) new ≡ old
kept_tasks stands x old new (Ok t) whole part h is = let some = (whole h is).some in grew_behind old some.handed new some.grown
kept_tasks stands x old new (Err e) whole part h is = let some = part h is in grew_behind old some.handed new some.grown
