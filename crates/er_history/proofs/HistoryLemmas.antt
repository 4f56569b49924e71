-- Proofs of the laws of a list of records, and what inductions over its actions cite.
use Rattle.std.proofs.Common.{◌≡◌, ℕ, ◌<◌, ◌≤◌, Bool, true, false, cond, List, [], ◌∷◌, ◌++◌, map, filter, length, refl, sym, ap, subst, ◌∙◌, arith, inl, inr, ◌⊎◌, Option, Some, None}
use Rattle.std.specs.Prelude.{◌-◌, ◌==◌, ◌||◌, ◌&&◌, nat_lt, if◌then◌else◌}
use Rattle.std.specs.List.{list_any}
use Rattle.std.proofs.lemmas.Bool.{eqb-true, eq-eqb, ltb-true}
use Rattle.er_trace.specs.declared.record.Record.{Record}
use Rattle.er_trace.specs.declared.record.Record.TheVariants.{Back}
use Rattle.er_paths.specs.Paths.{joins, is_among, list_of, Leads}
use Rattle.er_paths.specs.Laws.{GoForward}
use Rattle.er_paths.proofs.Paths.{or_cases, or_left, or_right, joins_older, list_newest, list_older, listed_below, forward_more, place_cases, paths_are_steps}
use Rattle.er_history.specs.History.{Dispatch, Event, Unnamed, Action, History, told, begins, find_open, action_at, event_resumed, event_begun, action_begun, actions_after}
use Rattle.er_history.specs.Rules.{Rule, any_holds}
use Rattle.er_history.specs.Edges.{around_inline, of_one_event, up_to, edge, sources, edges, path}
use Rattle.er_history.specs.Laws.{Among, HasNumber, IsNumbered, LeadsByEdges, ActionsAreNumbered, ActionsAreKept, EventsBeginBefore, EventsHaveFirstPieces, EntriesAreCounted, EdgesStay, EdgesGoForward, EdgesAreEdges, EdgesJoinActions, PathsLeadOverEdges, PathsLeadOverActions, PathsStay}

-- counts

pub entries_length : (h : List Record) → length (told h).entries ≡ length h
entries_length [] = refl
entries_length (x ∷ h) = let e = entries_length h in omega arith

pub edges_length : (table : List (ℕ × Rule)) (actions : List Action) → length (edges table actions) ≡ length actions
edges_length table [] = refl
edges_length table (a ∷ older) = let e = edges_length table older in omega arith

pub actions_grow : (t : History) (x : Record) → length t.actions ≤ length (actions_after t x)
actions_grow t x = step (begins x)
  where
    step : (b : Bool) → length t.actions ≤ length (if b then action_begun t x ∷ t.actions else t.actions)
    step true = omega arith
    step false = omega arith

pub actions_stay : (more h : List Record) → length (told h).actions ≤ length (told (more ++ h)).actions
actions_stay [] h = omega arith
actions_stay (x ∷ more) h = let e = actions_stay more h in let f = actions_grow (told (more ++ h)) x in omega arith

-- numbers

-- actions are numbered from the oldest, and no event begins after its action
abbrev pub BeginsBefore : List Action → Type 0
BeginsBefore [] = Unit {0}
BeginsBefore (a ∷ older) = (a.number ≡ length older) × (a.event.number ≤ length older) × BeginsBefore older

some_same : (a x : Action) → Some x ≡ Some a → a ≡ x
some_same a x f = cc

-- an action that is found is one of the list
pub action_at_among : (k : ℕ) (actions : List Action) (a : Action) → action_at k actions ≡ Some a → Among a actions × (a.number ≡ k)
action_at_among k [] a e = absurd (cc)
action_at_among k (x ∷ older) a e = step (x.number == k) refl (action_at_among k older a) e
  where
    step : (b : Bool) → (x.number == k) ≡ b → (action_at k older ≡ Some a → Among a older × (a.number ≡ k)) → (if b then Some x else action_at k older) ≡ Some a → Among a (x ∷ older) × (a.number ≡ k)
    step true t rest f = let same = some_same a x f in (inl same, ap (λ (c : Action). c.number) same ∙ eqb-true x.number k t)
    step false t rest f = let found = rest f in (inr found.0, found.1)

pub event_before : (actions : List Action) (a : Action) → BeginsBefore actions → Among a actions → (a.number < length actions) × (a.event.number ≤ a.number)
event_before [] a n among = absurd among
event_before (x ∷ older) a n (inl same) =
    let at = ap (λ (c : Action). c.number) same in
    let event = ap (λ (c : Action). c.event.number) same in
    (omega (arith, at, n.0), omega (arith, at, event, n.0, n.1))
event_before (x ∷ older) a n (inr deeper) = let found = event_before older a n.2 deeper in (omega (arith, found.0), found.1)

-- a record begins a new event, or a piece of one that has begun
abbrev pub BeginsOrGoesOn : List Action → Event → Type 0
BeginsOrGoesOn actions e = (e.number ≡ length actions) ⊎ ((a : Action) × Among a actions × (e ≡ a.event))

pub event_resumed_from : (t : History) (p : ℕ) → BeginsOrGoesOn t.actions (event_resumed t p)
event_resumed_from t p = of_found (find_open p t.stack)
  where
    event_of : Option Action → Event
    event_of None = record { number = length t.actions; what = Unnamed }
    event_of (Some a) = a.event

    of : Option Dispatch → Event
    of None = event_of None
    of (Some d) = event_of (action_at (d.begin - 1) t.actions)

    at : (k : ℕ) (found : Option Action) → action_at k t.actions ≡ found → BeginsOrGoesOn t.actions (event_of found)
    at k None e = inl refl
    at k (Some a) e = inr (a, (action_at_among k t.actions a e).0, refl)

    of_found : (found : Option Dispatch) → BeginsOrGoesOn t.actions (of found)
    of_found None = inl refl
    of_found (Some d) = at (d.begin - 1) (action_at (d.begin - 1) t.actions) refl

pub event_from : (t : History) (x : Record) → BeginsOrGoesOn t.actions (event_begun t x)
event_from t (Back p) = event_resumed_from t p
event_from t _ = inl refl

pub begun_before : (t : History) (x : Record) → BeginsBefore t.actions → (event_begun t x).number ≤ length t.actions
begun_before t x n =
    elim (event_from t x) [
      | inl new ↦ omega (arith, new)
      | inr found ↦ let older = event_before t.actions found.0 n found.1 in omega (arith, ap (λ (e : Event). e.number) found.2, older.0, older.1)
    ]

pub told_before : (h : List Record) → BeginsBefore (told h).actions
told_before [] = tt
told_before (x ∷ h) = step (told h) (begins x) x (told_before h)
  where
    step : (t : History) (b : Bool) (x : Record) → BeginsBefore t.actions → BeginsBefore (if b then action_begun t x ∷ t.actions else t.actions)
    step t true x n = (refl, begun_before t x n, n)
    step t false x n = n

pub numbered : (actions : List Action) → BeginsBefore actions → IsNumbered actions
numbered [] n = tt
numbered (a ∷ older) n = (n.0, numbered older n.2)

pub actions_are_numbered : ActionsAreNumbered
actions_are_numbered h = numbered (told h).actions (told_before h)

pub events_begin_before : EventsBeginBefore
events_begin_before h a among = (event_before (told h).actions a (told_before h) among).1

-- the action with the number of an event is the first piece of it
abbrev pub FirstPiece : List Action → Event → Type 0
FirstPiece actions e = (b : Action) × Among b actions × (b.number ≡ e.number) × (b.event ≡ e)

first_deeper : (x : Action) (older : List Action) (e : Event) → FirstPiece older e → FirstPiece (x ∷ older) e
first_deeper x older e found = (found.0, inr found.1, found.2, found.3)

pub events_have_first_pieces : EventsHaveFirstPieces
events_have_first_pieces [] a among = absurd among
events_have_first_pieces (x ∷ h) a among = step (told h) (begins x) x (events_have_first_pieces h) a among
  where
    newest : (t : History) (x : Record) → ((a : Action) → Among a t.actions → FirstPiece t.actions a.event) → FirstPiece (action_begun t x ∷ t.actions) (event_begun t x)
    newest t x rest =
        elim (event_from t x) [
          | inl new ↦ (action_begun t x, inl refl, sym new, refl)
          | inr found ↦ subst (FirstPiece (action_begun t x ∷ t.actions)) (sym found.2) (first_deeper (action_begun t x) t.actions found.0.event (rest found.0 found.1))
        ]

    step : (t : History) (b : Bool) (x : Record) → ((a : Action) → Among a t.actions → FirstPiece t.actions a.event)
        → (a : Action) → Among a (if b then action_begun t x ∷ t.actions else t.actions) → FirstPiece (if b then action_begun t x ∷ t.actions else t.actions) a.event
    step t true x rest a (inl same) = subst (λ (c : Action). FirstPiece (action_begun t x ∷ t.actions) c.event) (sym same) (newest t x rest)
    step t true x rest a (inr deeper) = first_deeper (action_begun t x) t.actions a.event (rest a deeper)
    step t false x rest a among = rest a among

pub entries_are_counted : EntriesAreCounted
entries_are_counted h = entries_length h

pub among_below : (actions : List Action) (a : Action) → IsNumbered actions → Among a actions → a.number < length actions
among_below [] a n among = absurd among
among_below (x ∷ older) a n (inl same) = omega (arith, ap (λ (c : Action). c.number) same, n.0)
among_below (x ∷ older) a n (inr deeper) = omega (arith, among_below older a n.1 deeper)

pub event_below : (actions : List Action) (a : Action) → BeginsBefore actions → Among a actions → a.event.number < length actions
event_below [] a n among = absurd among
event_below (x ∷ older) a n (inl same) = omega (arith, ap (λ (c : Action). c.event.number) same, n.1)
event_below (x ∷ older) a n (inr deeper) = omega (arith, event_below older a n.2 deeper)

pub same_action : (actions : List Action) (a b : Action) → IsNumbered actions → Among a actions → Among b actions → a.number ≡ b.number → a ≡ b
same_action [] a b n first second e = absurd first
same_action (x ∷ older) a b n (inl same) (inl other) e = same ∙ sym other
same_action (x ∷ older) a b n (inl same) (inr deeper) e = absurd (omega (arith, ap (λ (c : Action). c.number) same, n.0, among_below older b n.1 deeper))
same_action (x ∷ older) a b n (inr deeper) (inl same) e = absurd (omega (arith, ap (λ (c : Action). c.number) same, n.0, among_below older a n.1 deeper))
same_action (x ∷ older) a b n (inr first) (inr second) e = same_action older a b n.1 first second e

-- each number below the count is that of an action
pub number_taken : (actions : List Action) (i : ℕ) → IsNumbered actions → i < length actions → HasNumber actions i
number_taken [] i n below = absurd (omega arith)
number_taken (a ∷ older) i n below =
    elim (place_cases i (length older)) [
      | inl deeper ↦ let found = number_taken older i n.1 deeper in (found.0, inr found.1, found.2)
      | inr rest ↦ let newest : a.number ≡ i = omega (arith, n.0, below, rest) in (a, inl refl, newest)
    ]

-- the numbers of the actions that pass a test

abbrev pub numbers : List Action → List ℕ
numbers actions = map (λ (a : Action). a.number) actions

-- one that passes, under its number
abbrev pub Passes : (Action → Bool) → List Action → ℕ → Type 0
Passes test actions k = (a : Action) × Among a actions × (a.number ≡ k) × (test a ≡ true)

passes_deeper : (test : Action → Bool) (x : Action) (older : List Action) (k : ℕ) → Passes test older k → Passes test (x ∷ older) k
passes_deeper test x older k found = (found.0, inr found.1, found.2, found.3)

pub among_from : (test : Action → Bool) (actions : List Action) (k : ℕ) → is_among k (numbers (filter test actions)) ≡ true → Passes test actions k
among_from test [] k e = absurd (cc)
among_from test (x ∷ older) k e = step (test x) refl (among_from test older k) e
  where
    step : (b : Bool) → test x ≡ b → (is_among k (numbers (filter test older)) ≡ true → Passes test older k)
        → is_among k (numbers (cond b (x ∷ filter test older) (filter test older))) ≡ true → Passes test (x ∷ older) k
    step true t rest e =
        elim (or_cases (x.number == k) (is_among k (numbers (filter test older))) e) [
          | inl same ↦ (x, inl refl, eqb-true x.number k same, t)
          | inr later ↦ passes_deeper test x older k (rest later)
        ]
    step false t rest e = passes_deeper test x older k (rest e)

pub among_to : (test : Action → Bool) (actions : List Action) (a : Action) → Among a actions → test a ≡ true → is_among a.number (numbers (filter test actions)) ≡ true
among_to test [] a among t = absurd among
among_to test (x ∷ older) a (inl same) t = step (test x) (sym (ap test same) ∙ t)
  where
    step : (b : Bool) → b ≡ true → is_among a.number (numbers (cond b (x ∷ filter test older) (filter test older))) ≡ true
    step true e = or_left (x.number == a.number) (is_among a.number (numbers (filter test older))) (eq-eqb x.number a.number (sym (ap (λ (c : Action). c.number) same)))
    step false e = cc
among_to test (x ∷ older) a (inr deeper) t = step (test x) (among_to test older a deeper t)
  where
    step : (b : Bool) → is_among a.number (numbers (filter test older)) ≡ true → is_among a.number (numbers (cond b (x ∷ filter test older) (filter test older))) ≡ true
    step true e = or_right (x.number == a.number) (is_among a.number (numbers (filter test older))) e
    step false e = e

-- edges

pub forward : (table : List (ℕ × Rule)) (actions : List Action) → IsNumbered actions → GoForward (edges table actions)
forward table [] n = λ i j e. absurd (cc)
forward table (x ∷ older) n = forward_more (sources table (joins (edges table older)) older x) (edges table older) (forward table older n.1) earlier
  where
    earlier : (k : ℕ) → is_among k (sources table (joins (edges table older)) older x) ≡ true → k < length (edges table older)
    earlier k e =
        let found = among_from (λ i. edge table (joins (edges table older)) i x) older k e in
        omega (arith, edges_length table older, among_below older found.0 n.1 found.1, found.2)

pub edges_go_forward : EdgesGoForward
edges_go_forward table h = forward table (told h).actions (actions_are_numbered h)

pub and_same : (b c d : Bool) → (b ≡ true → c ≡ d) → (b && c) ≡ (b && d)
and_same true c d e = e refl
and_same false c d e = refl

pub and_left : (b c : Bool) → (b && c) ≡ true → b ≡ true
and_left true c e = refl
and_left false c e = e

pub same_test : (b c : Bool) → (b ≡ true → c ≡ true) → (c ≡ true → b ≡ true) → b ≡ c
same_test true c e f = sym (e refl)
same_test false true e f = f refl
same_test false false e f = refl

-- the rules are told of the paths among the actions before the later event alone
pub edge_same : (table : List (ℕ × Rule)) (f g : ℕ → ℕ → Bool) (a b : Action) → ((i j : ℕ) → j < b.event.number → f i j ≡ g i j) → edge table f a b ≡ edge table g a b
edge_same table f g a b e = ap (λ (joined : ℕ → ℕ → Bool). nat_lt a.number b.number && (any_holds table joined a.event b.event || (around_inline a b || of_one_event a b))) told_same
  where
    at : (i j : ℕ) → up_to b.event.number f i j ≡ up_to b.event.number g i j
    at i j = and_same (nat_lt j b.event.number) (f i j) (g i j) (λ below. e i j (ltb-true j b.event.number below))

    told_same : up_to b.event.number f ≡ up_to b.event.number g
    told_same = λ k i j. at i j k

-- an edge leads to a later action
pub edge_later : (table : List (ℕ × Rule)) (joined : ℕ → ℕ → Bool) (a b : Action) → edge table joined a b ≡ true → a.number < b.number
edge_later table joined a b e = ltb-true a.number b.number (and_left (nat_lt a.number b.number) (any_holds table (up_to b.event.number joined) a.event b.event || (around_inline a b || of_one_event a b)) e)

-- the paths among the older actions suffice
pub edge_older : (table : List (ℕ × Rule)) (x : Action) (older : List Action) (a b : Action) → b.event.number ≤ length older → edge table (joins (edges table (x ∷ older))) a b ≡ edge table (joins (edges table older)) a b
edge_older table x older a b le =
    let same = edges_length table older in
    edge_same table (joins (edges table (x ∷ older))) (joins (edges table older)) a b (λ i j below. joins_older (sources table (joins (edges table older)) older x) (edges table older) i j (omega (arith, below, le, same)))

pub edge_newest : (table : List (ℕ × Rule)) (joined : ℕ → ℕ → Bool) (older : List Action) (a x : Action) → IsNumbered (x ∷ older) → Among a (x ∷ older)
    → is_among a.number (sources table joined older x) ≡ edge table joined a x
edge_newest table joined older a x n among = same_test (is_among a.number (sources table joined older x)) (edge table joined a x) to from
  where
    to : is_among a.number (sources table joined older x) ≡ true → edge table joined a x ≡ true
    to e =
        let found = among_from (λ i. edge table joined i x) older a.number e in
        ap (λ c. edge table joined c x) (sym (same_action (x ∷ older) found.0 a n (inr found.1) among found.2)) ∙ found.3

    deeper : a.number < x.number → Among a (x ∷ older) → Among a older
    deeper later (inl same) = absurd (omega (arith, ap (λ (c : Action). c.number) same))
    deeper later (inr found) = found

    from : edge table joined a x ≡ true → is_among a.number (sources table joined older x) ≡ true
    from e = among_to (λ i. edge table joined i x) older a (deeper (edge_later table joined a x e) among) e

pub edges_are : (table : List (ℕ × Rule)) (actions : List Action) (a b : Action) → BeginsBefore actions → Among a actions → Among b actions
    → is_among a.number (list_of (edges table actions) b.number) ≡ edge table (joins (edges table actions)) a b
edges_are table [] a b n first second = absurd first
edges_are table (x ∷ older) a b n first (inl newest) =
    let lists = edges table older in
    let p = sources table (joins lists) older x in
    let at : b.number ≡ length lists = ap (λ (c : Action). c.number) newest ∙ (n.0 ∙ sym (edges_length table older)) in
    let event : b.event.number ≤ length older = omega (arith, ap (λ (c : Action). c.event.number) newest, n.1) in
    ap (is_among a.number) (list_newest p lists b.number at)
    ∙ (edge_newest table (joins lists) older a x (n.0, numbered older n.2) first
    ∙ (ap (edge table (joins lists) a) (sym newest) ∙ sym (edge_older table x older a b event)))
edges_are table (x ∷ older) a b n (inr first) (inr second) =
    let lists = edges table older in
    let p = sources table (joins lists) older x in
    let below : b.number < length lists = omega (arith, edges_length table older, among_below older b (numbered older n.2) second) in
    let event : b.event.number ≤ length older = omega (arith, event_below older b n.2 second) in
    ap (is_among a.number) (list_older p lists b.number below) ∙ (edges_are table older a b n.2 first second ∙ sym (edge_older table x older a b event))
edges_are table (x ∷ older) a b n (inl newest) (inr second) = same_test (is_among a.number (list_of (edges table (x ∷ older)) b.number)) (edge table (joins (edges table (x ∷ older))) a b)
    (λ e. absurd (omega (arith, ap (λ (c : Action). c.number) newest, n.0, among_below older b (numbered older n.2) second, forward table (x ∷ older) (numbered (x ∷ older) n) a.number b.number e)))
    (λ e. absurd (omega (arith, ap (λ (c : Action). c.number) newest, n.0, among_below older b (numbered older n.2) second, edge_later table (joins (edges table (x ∷ older))) a b e)))

pub edges_are_edges : EdgesAreEdges
edges_are_edges table h a b first second = edges_are table (told h).actions a b (told_before h) first second

pub edges_join_actions : EdgesJoinActions
edges_join_actions table h i j e =
    let acts = (told h).actions in
    let n = actions_are_numbered h in
    let below : j < length acts = omega (arith, edges_length table acts, listed_below (edges table acts) i j e) in
    let earlier : i < length acts = omega (arith, edges_go_forward table h i j e) in
    (number_taken acts i n earlier, number_taken acts j n below)

-- paths

pub paths_lead_over_edges : PathsLeadOverEdges
paths_lead_over_edges table h i j below = paths_are_steps (edges table (told h).actions) i j (edges_go_forward table h) (omega (arith, edges_length table (told h).actions))

-- a list of numbers, each with an edge to the next, is one of actions
pub actions_from : (table : List (ℕ × Rule)) (h : List Record) (a : Action) (steps : List ℕ) (b : Action) → Among a (told h).actions → Among b (told h).actions
    → Leads (edges table (told h).actions) a.number steps b.number → (taken : List Action) × LeadsByEdges table h a taken b
actions_from table h a [] b first last e = ([], same_action (told h).actions a b (actions_are_numbered h) first last e)
actions_from table h a (k ∷ steps) b first last e =
    let acts = (told h).actions in
    let lists = edges table acts in
    let found = (edges_join_actions table h a.number k e.0).1 in
    let c : Action = found.0 in
    let rest = actions_from table h c steps b found.1 last (subst (λ m. Leads lists m steps b.number) (sym found.2) e.1) in
    let listed : is_among a.number (list_of lists c.number) ≡ true = ap (λ m. is_among a.number (list_of lists m)) found.2 ∙ e.0 in
    let by_edge : edge table (path table h) a c ≡ true = sym (edges_are_edges table h a c first found.1) ∙ listed in
    (c ∷ rest.0, (found.1, by_edge, rest.1))

pub actions_to : (table : List (ℕ × Rule)) (h : List Record) (a : Action) (steps : List Action) (b : Action) → Among a (told h).actions
    → LeadsByEdges table h a steps b → Leads (edges table (told h).actions) a.number (numbers steps) b.number
actions_to table h a [] b first e = ap (λ (c : Action). c.number) e
actions_to table h a (c ∷ steps) b first e = (edges_are_edges table h a c first e.0 ∙ e.1, actions_to table h c steps b e.0 e.2)

pub paths_lead_over_actions : PathsLeadOverActions
paths_lead_over_actions table h a b first last =
    let below = among_below (told h).actions b (actions_are_numbered h) last in
    let steps = paths_lead_over_edges table h a.number b.number below in (
      λ e. let found = steps.0 e in actions_from table h a found.0 b first last found.1,
      λ found. steps.1 (numbers found.0, actions_to table h a found.0 b first found.1),
    )

pub paths_stay : PathsStay
paths_stay table [] h i j below = refl
paths_stay table (x ∷ more) h i j below = step (begins x) ∙ paths_stay table more h i j below
  where
    step : (b : Bool) → joins (edges table (if b then action_begun (told (more ++ h)) x ∷ (told (more ++ h)).actions else (told (more ++ h)).actions)) i j ≡ path table (more ++ h) i j
    step true =
        let acts = (told (more ++ h)).actions in
        joins_older (sources table (joins (edges table acts)) acts (action_begun (told (more ++ h)) x)) (edges table acts) i j (omega (arith, edges_length table acts, actions_stay more h, below))
    step false = refl

-- lists that only grow

pub actions_are_kept : ActionsAreKept
actions_are_kept [] h = ([], refl)
actions_are_kept (x ∷ more) h = step (told (more ++ h)) (begins x) x (actions_are_kept more h)
  where
    step : (t : History) (b : Bool) (x : Record) → ((new : List Action) × (t.actions ≡ new ++ (told h).actions))
        → (new : List Action) × ((if b then action_begun t x ∷ t.actions else t.actions) ≡ new ++ (told h).actions)
    step t true x rest = (action_begun t x ∷ rest.0, ap (λ actions. action_begun t x ∷ actions) rest.1)
    step t false x rest = rest

pub edges_grow : (table : List (ℕ × Rule)) (new older : List Action) → (lists : List (List ℕ)) × (edges table (new ++ older) ≡ lists ++ edges table older)
edges_grow table [] older = ([], refl)
edges_grow table (x ∷ new) older = let rest = edges_grow table new older in
    let newest : List ℕ = sources table (joins (edges table (new ++ older))) (new ++ older) x in
    (newest ∷ rest.0, ap (λ lists. newest ∷ lists) rest.1)

pub edges_stay : EdgesStay
edges_stay table more h =
    let kept = actions_are_kept more h in
    let rest = edges_grow table kept.0 (told h).actions in
    (rest.0, ap (edges table) kept.1 ∙ rest.1)

-- where no event goes on

abbrev pub goes_on : Record → Bool
goes_on (Back p) = true
goes_on _ = false

-- actions are numbered from the oldest, and so are their events: each is an event of its own
abbrev pub EachIsAnEvent : List Action → Type 0
EachIsAnEvent [] = Unit {0}
EachIsAnEvent (a ∷ older) = (a.number ≡ length older) × (a.event.number ≡ length older) × EachIsAnEvent older

pub event_new : (t : History) (x : Record) → goes_on x ≡ false → (event_begun t x).number ≡ length t.actions
event_new t (Back p) e = absurd (cc)
event_new t _ e = refl

pub each_is_an_event : (h : List Record) → list_any goes_on h ≡ false → EachIsAnEvent (told h).actions
each_is_an_event [] e = tt
each_is_an_event (x ∷ h) e = step (told h) (begins x) (or_none (goes_on x) (list_any goes_on h) e).0 (each_is_an_event h (or_none (goes_on x) (list_any goes_on h) e).1)
  where
    or_none : (b c : Bool) → (b || c) ≡ false → (b ≡ false) × (c ≡ false)
    or_none false c e = (refl, e)
    or_none true c e = absurd (cc)

    step : (t : History) (b : Bool) → goes_on x ≡ false → EachIsAnEvent t.actions → EachIsAnEvent (if b then action_begun t x ∷ t.actions else t.actions)
    step t true e n = (refl, event_new t x e, n)
    step t false e n = n

pub events_before : (actions : List Action) → EachIsAnEvent actions → BeginsBefore actions
events_before [] n = tt
events_before (a ∷ older) n = let tail = events_before older n.2 in (n.0, omega (arith, n.1), tail)
