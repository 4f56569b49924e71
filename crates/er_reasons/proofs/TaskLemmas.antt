-- What the look-ups of tasks say for the rules. Lists of records stand newest first.
use Rattle.std.proofs.Common.{◌≡◌, ℕ, Bool, true, false, List, [], ◌∷◌, reverse, Option, Some, None, refl, sym, ap, ◌∙◌, arith}
use Rattle.std.specs.Prelude.{◌==◌, ◌&&◌, ◌||◌, nat_lt, if◌then◌else◌}
use Rattle.std.specs.List.{list_any}
use Rattle.std.proofs.lemmas.Bool.{eqb-true}
use Rattle.std.proofs.lemmas.List.{reverse-append}
use Rattle.er_trace.specs.declared.record.Record.{Record}
use Rattle.er_paths.specs.Paths.{is_among}
use Rattle.er_history.specs.History as history
use Rattle.er_history.specs.History.{told, action_at, What, TimeoutRun, TickRun, MessageRun, AnimRun, JobRun, Event, Action}
use Rattle.er_history.specs.Kinds.{is_job_within}
use Rattle.er_history.specs.Latest.{events_of_each}
use Rattle.er_history.specs.Laws.{IsNumbered}
use Rattle.er_history.specs.LookUps.{jobs_in}
use Rattle.er_history.specs.Rules.{recorded, is_some_and, declared_in_order, jobs_before_callbacks}
use Rattle.er_history.specs.Tasks.{TaskKind, OfJob, task_made}
use Rattle.er_history.proofs.HistoryLemmas.{and_left, action_at_among, actions_are_numbered, among_below}
use Rattle.er_history.proofs.OrderLemmas.{any_append}
use Rattle.er_page.specs.declared.page.Page.{Page}
use Rattle.er_page.specs.Page.{IsPage}
use Rattle.er_tasks.specs.declared.tasks.Task.{Task}
use Rattle.er_tasks.specs.Tasks.{task_at}
use Rattle.er_path_rules.proofs.task.ListLemmas.{task_says, none_made, ranks_are}
use Rattle.er_reasons.specs.Read.{within_in, within_at, within_of}
use Rattle.er_pieces.proofs.ChainLemmas.{event_with}
use Rattle.er_reasons.specs.Words.{is_declarer, declares}

pub declarer_some : (page : Page) (kind : TaskKind) (number : ℕ) (h : List Record) (task : Option Task) (x : Task) (event : ℕ) → IsPage page h → task ≡ Some x → task ≡ task_at kind page.tasks number → (x.maker == event) ≡ is_declarer (task_made kind h number) event
declarer_some page kind number h task x event is some at =
    let says = task_says kind page.tasks h is.tasks number x (sym at ∙ some) in
    ap (λ m. m == event) (sym says.maker) ∙ ap (λ o. is_declarer o event) (sym says.is)

pub declarer_none : (page : Page) (kind : TaskKind) (number : ℕ) (h : List Record) (task : Option Task) (event : ℕ) → IsPage page h → task ≡ None → task ≡ task_at kind page.tasks number → false ≡ is_declarer (task_made kind h number) event
declarer_none page kind number h task event is none at = ap (λ o. is_declarer o event) (sym (none_made kind page.tasks h is.tasks number (sym at ∙ none)))

-- two tasks in order

no_first : (joined : ℕ → ℕ → Bool) (o : Option history.Task) → false ≡ declared_in_order joined None o
no_first joined None = refl
no_first joined (Some y) = refl

no_second : (joined : ℕ → ℕ → Bool) (o : Option history.Task) → false ≡ declared_in_order joined o None
no_second joined None = refl
no_second joined (Some y) = refl

pub order_no_first : (page : Page) (kind : TaskKind) (m n : ℕ) (h : List Record) (joined : ℕ → ℕ → Bool) (first : Option Task) → IsPage page h → first ≡ None → first ≡ task_at kind page.tasks m → false ≡ declared_in_order joined (task_made kind h m) (task_made kind h n)
order_no_first page kind m n h joined first is none at =
    no_first joined (task_made kind h n) ∙ ap (λ o. declared_in_order joined o (task_made kind h n)) (sym (none_made kind page.tasks h is.tasks m (sym at ∙ none)))

pub order_no_second : (page : Page) (kind : TaskKind) (m n : ℕ) (h : List Record) (joined : ℕ → ℕ → Bool) (second : Option Task) → IsPage page h → second ≡ None → second ≡ task_at kind page.tasks n → false ≡ declared_in_order joined (task_made kind h m) (task_made kind h n)
order_no_second page kind m n h joined second is none at =
    no_second joined (task_made kind h m) ∙ ap (λ o. declared_in_order joined (task_made kind h m) o) (sym (none_made kind page.tasks h is.tasks n (sym at ∙ none)))

pub order_both : (page : Page) (kind : TaskKind) (m n : ℕ) (h : List Record) (joined : ℕ → ℕ → Bool) (first second : Option Task) (x y : Task) (declared leads : Bool) → IsPage page h → first ≡ Some x → second ≡ Some y → first ≡ task_at kind page.tasks m
    → second ≡ task_at kind page.tasks n → declared ≡ nat_lt x.rank y.rank → leads ≡ joined x.piece y.piece → (declared && leads) ≡ declared_in_order joined (task_made kind h m) (task_made kind h n)
order_both page kind m n h joined first second x y declared leads is some other at also by_rank by_path =
    let one = task_says kind page.tasks h is.tasks m x (sym at ∙ some) in
    let two = task_says kind page.tasks h is.tasks n y (sym also ∙ other) in
    let ranks = ranks_are kind page.tasks h is.tasks m n x y one two (sym at ∙ some) (sym also ∙ other) in
    (λ i. by_rank i && by_path i)
    ∙ ((λ i. ranks i && joined (sym one.piece i) (sym two.piece i))
    ∙ (λ i. declared_in_order joined (sym one.is i) (sym two.is i)))

-- what the event that queued a job declared

callbacks_by : (joined : ℕ → ℕ → Bool) (u v : Event) (j : ℕ) (within : List ℕ) (made : Option history.Task) → u.what ≡ JobRun j made within → jobs_before_callbacks joined u v ≡ (recorded u v && is_some_and (λ (x : history.Task). declares x.maker v.what) made)
callbacks_by joined u v j within made is = ap (λ w. jobs_before_callbacks joined (event_with u.number w) v) is ∙ ap (λ b. recorded u v && b) (of made)
  where
    to : ℕ → What → Bool
    to maker (TimeoutRun t made) = is_some_and (λ (x : history.Timeout). x.maker == maker) made
    to maker (TickRun i m) = is_some_and (λ (k : ℕ). k == maker) m
    to maker (MessageRun m made) = is_some_and (λ (x : history.Task). x.maker == maker) made
    to maker (AnimRun a made) = is_some_and (λ (x : history.Task). x.maker == maker) made
    to maker _ = false

    same : (maker : ℕ) (w : What) → to maker w ≡ declares maker w
    same maker (TimeoutRun t made) = refl
    same maker (TickRun i m) = refl
    same maker (MessageRun m made) = refl
    same maker (AnimRun a made) = refl
    same maker _ = refl

    of : (o : Option history.Task) → is_some_and (λ (x : history.Task). to x.maker v.what) o ≡ is_some_and (λ (x : history.Task). declares x.maker v.what) o
    of None = refl
    of (Some x) = same x.maker v.what

pub callbacks_some : (page : Page) (h : List Record) (joined : ℕ → ℕ → Bool) (u v : Event) (j : ℕ) (within : List ℕ) (task : Option Task) (x : Task) (first declared : Bool) → IsPage page h → task ≡ Some x → task ≡ task_at OfJob page.tasks j
    → u.what ≡ JobRun j (task_made OfJob h j) within → first ≡ recorded u v → declared ≡ declares x.maker v.what → (first && declared) ≡ jobs_before_callbacks joined u v
callbacks_some page h joined u v j within task x first declared is some at what by_first by_declared =
    let says = task_says OfJob page.tasks h is.tasks j x (sym at ∙ some) in
    (λ i. by_first i && by_declared i)
    ∙ (ap (λ m. recorded u v && declares m v.what) (sym says.maker)
    ∙ (ap (λ o. recorded u v && is_some_and (λ (y : history.Task). declares y.maker v.what) o) (sym says.is) ∙ sym (callbacks_by joined u v j within (task_made OfJob h j) what)))

pub callbacks_none : (page : Page) (h : List Record) (joined : ℕ → ℕ → Bool) (u v : Event) (j : ℕ) (within : List ℕ) (task : Option Task) → IsPage page h → task ≡ None → task ≡ task_at OfJob page.tasks j → u.what ≡ JobRun j (task_made OfJob h j) within
    → false ≡ jobs_before_callbacks joined u v
callbacks_none page h joined u v j within task is none at what =
    sym (callbacks_by joined u v j within (task_made OfJob h j) what
    ∙ (ap (λ o. recorded u v && is_some_and (λ (y : history.Task). declares y.maker v.what) o) (none_made OfJob page.tasks h is.tasks j (sym at ∙ none)) ∙ never (recorded u v)))
  where
    never : (b : Bool) → (b && false) ≡ false
    never true = refl
    never false = refl

-- the jobs of a dispatch

within_told : (p : ℕ) (w : What) → list_any (λ q. q == p) (within_in w) ≡ is_job_within p (record { number = 0; what = w })
within_told p (JobRun j made within) = refl
within_told p _ = refl

-- whether the action is the first piece of an event that passes
abbrev first_passes : (Event → Bool) → Option Action → Bool
first_passes test None = false
first_passes test (Some a) = (a.number == a.event.number) && test a.event

among_each : (test : Event → Bool) (actions : List Action) (k : ℕ) → IsNumbered actions → is_among k (events_of_each test actions) ≡ first_passes test (action_at k actions)
among_each test [] k n = refl
among_each test (a ∷ older) k n = step (a.number == k) refl (among_each test older k n.1)
  where
    at : Bool → Bool → Bool
    at b rest = if b then (a.event.number == k) || rest else rest

    as_listed : (b : Bool) → is_among k (if b then a.event.number ∷ events_of_each test older else events_of_each test older) ≡ at b (is_among k (events_of_each test older))
    as_listed true = refl
    as_listed false = refl

    here : (b : Bool) → ((a.number == a.event.number) && test a.event) ≡ b → (a.number == k) ≡ true → is_among k (events_of_each test older) ≡ false → at b (is_among k (events_of_each test older)) ≡ b
    here true e same none = let own = eqb-true a.number a.event.number (and_left (a.number == a.event.number) (test a.event) e) in ap (λ c. c || is_among k (events_of_each test older)) (ap (λ m. m == k) (sym own) ∙ same)
    here false e same none = none

    other : (b : Bool) → ((a.number == a.event.number) && test a.event) ≡ b → (a.number == k) ≡ false → at b (is_among k (events_of_each test older)) ≡ is_among k (events_of_each test older)
    other true e apart = let own = eqb-true a.number a.event.number (and_left (a.number == a.event.number) (test a.event) e) in ap (λ c. c || is_among k (events_of_each test older)) (ap (λ m. m == k) (sym own) ∙ apart)
    other false e apart = refl

    none_yet : (o : Option Action) → action_at k older ≡ o → (a.number == k) ≡ true → first_passes test (action_at k older) ≡ false
    none_yet None e same = ap (first_passes test) e
    none_yet (Some b) e same =
        let found = action_at_among k older b e in
        let below = among_below older b n.1 found.0 in
        absurd (omega (arith, below, found.1, eqb-true a.number k same, n.0))

    step : (b : Bool) → (a.number == k) ≡ b → is_among k (events_of_each test older) ≡ first_passes test (action_at k older)
        → is_among k (events_of_each test (a ∷ older)) ≡ first_passes test (if b then Some a else action_at k older)
    step true e rest =
        as_listed ((a.number == a.event.number) && test a.event)
        ∙ here ((a.number == a.event.number) && test a.event) refl e (rest ∙ none_yet (action_at k older) refl e)
    step false e rest = as_listed ((a.number == a.event.number) && test a.event) ∙ (other ((a.number == a.event.number) && test a.event) refl e ∙ rest)

among_reverse : (k : ℕ) (ks : List ℕ) → is_among k (reverse ks) ≡ is_among k ks
among_reverse k [] = refl
among_reverse k (m ∷ ks) =
    ap (is_among k) (reverse-append (m ∷ []) ks) ∙ (any_append (λ n. n == k) (reverse ks) (m ∷ []) ∙ ((λ i. among_reverse k ks i || (m == k || false)) ∙ swap (is_among k ks) (m == k)))
  where
    swap : (b c : Bool) → (b || (c || false)) ≡ (c || b)
    swap true true = refl
    swap true false = refl
    swap false true = refl
    swap false false = refl

pub jobs_told : (h : List Record) (p k : ℕ) (slice : List ℕ) → slice ≡ jobs_in h p → is_among k slice ≡ list_any (λ q. q == p) (within_of h k)
jobs_told h p k slice is =
    ap (is_among k) is ∙ (among_reverse k (events_of_each (is_job_within p) (told h).actions) ∙ (among_each (is_job_within p) (told h).actions k (actions_are_numbered h) ∙ by (action_at k (told h).actions)))
  where
    step : (b : Bool) (a : Action) → (b && is_job_within p a.event) ≡ list_any (λ q. q == p) (if b then within_in a.event.what else [])
    step true a = sym (within_told p a.event.what)
    step false a = refl

    by : (o : Option Action) → first_passes (is_job_within p) o ≡ list_any (λ q. q == p) (within_at o)
    by None = refl
    by (Some a) = step (a.number == a.event.number) a
