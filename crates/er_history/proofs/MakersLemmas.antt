-- The makers that look-ups give are actions that have begun.
use Rattle.std.proofs.Common.{◌≡◌, ℕ, ◌<◌, ◌≤◌, Bool, true, false, List, [], ◌∷◌, length, Option, Some, None, refl, subst, arith}
use Rattle.std.specs.Prelude.{◌==◌, if◌then◌else◌}
use Rattle.er_trace.specs.declared.record.Record.{Record}
use Rattle.er_trace.specs.declared.record.Record.TheVariants.{Parse, ParseFrame, New, NewFrame, Set}
use Rattle.er_history.specs.History.{Element, Kinded, Framing, Timeout, Task, Action, Entry, told, or_else, first_to, makes_element, makes_timeout, makes_task, maker_by, element_maker, kind_of, running}
use Rattle.er_history.proofs.HistoryLemmas.{BeginsBefore, told_before, actions_grow}

-- the action of an entry, and its event, began before the n-th action
abbrev pub RunsBelow : ℕ → Option Action → Type 0
RunsBelow n None = Unit {0}
RunsBelow n (Some a) = (a.number < n) × (a.event.number < n)

abbrev pub EntriesBelow : ℕ → List Entry → Type 0
EntriesBelow n [] = Unit {0}
EntriesBelow n (entry ∷ es) = RunsBelow n entry.action × EntriesBelow n es

pub runs_grow : (n m : ℕ) (o : Option Action) → n ≤ m → RunsBelow n o → RunsBelow m o
runs_grow n m None le runs = tt
runs_grow n m (Some a) le runs = (omega (arith, le, runs.0), omega (arith, le, runs.1))

pub entries_grow : (n m : ℕ) (es : List Entry) → n ≤ m → EntriesBelow n es → EntriesBelow m es
entries_grow n m [] le below = tt
entries_grow n m (entry ∷ es) le below = (runs_grow n m entry.action le below.0, entries_grow n m es le below.1)

pub running_below : (actions : List Action) → BeginsBefore actions → RunsBelow (length actions) (running actions)
running_below [] n = tt
running_below (a ∷ older) n = (omega (arith, n.0), omega (arith, n.1))

pub entries_below : (h : List Record) → EntriesBelow (length (told h).actions) (told h).entries
entries_below [] = tt
entries_below (x ∷ h) = (
  running_below (told (x ∷ h)).actions (told_before (x ∷ h)),
  entries_grow (length (told h).actions) (length (told (x ∷ h)).actions) (told h).entries (actions_grow (told h) x) (entries_below h),
)

-- a look-up gives what some entry gives
pub first_gives : {B : Type 0} → (n : ℕ) (f : Entry → Option B) (P : B → Type 0) (es : List Entry)
    → ((entry : Entry) (b : B) → RunsBelow n entry.action → f entry ≡ Some b → P b)
    → EntriesBelow n es → (b : B) → first_to f es ≡ Some b → P b
first_gives n f P [] each below b e = absurd (cc)
first_gives n f P (entry ∷ es) each below b e = step (first_to f es) (first_gives n f P es each below.1) e
  where
    step : (o : Option _) → ((b : _) → o ≡ Some b → P b) → or_else o (f entry) ≡ Some b → P b
    step None rest e = each entry b below.0 e
    step (Some c) rest e = rest b e

-- an element

abbrev pub ElementBelow : ℕ → Element → Type 0
ElementBelow n x = (x.maker < n) × (x.piece < n)

pub made_below : (n : ℕ) (b : Bool) (x y : Element) → ElementBelow n x → (if b then Some x else None) ≡ Some y → ElementBelow n y
made_below n true x y below e = let same : x ≡ y = cc in subst (ElementBelow n) same below
made_below n false x y below e = absurd (cc)

pub element_of : (n number : ℕ) (place : ℕ) (action : Option Action) (read : Record) (y : Element) → RunsBelow n action
    → makes_element number (record { read = read; place = place; action = action }) ≡ Some y → ElementBelow n y
element_of n number place (Some a) (Parse d e k) y below is = made_below n (e == number) (record { doc = d; form = Kinded k; is_static = true; maker = a.event.number; piece = a.number }) y (below.1, below.0) is
element_of n number place (Some a) (ParseFrame d e f) y below is = made_below n (e == number) (record { doc = d; form = Framing f; is_static = true; maker = a.event.number; piece = a.number }) y (below.1, below.0) is
element_of n number place (Some a) (New d e k) y below is = made_below n (e == number) (record { doc = d; form = Kinded (kind_of k); is_static = false; maker = a.event.number; piece = a.number }) y (below.1, below.0) is
element_of n number place (Some a) (NewFrame d e f) y below is = made_below n (e == number) (record { doc = d; form = Framing f; is_static = false; maker = a.event.number; piece = a.number }) y (below.1, below.0) is
element_of n number place _ _ y below is = absurd (cc)

pub element_below : (h : List Record) (number : ℕ) (y : Element) → first_to (makes_element number) (told h).entries ≡ Some y → ElementBelow (length (told h).actions) y
element_below h number y e =
    first_gives (length (told h).actions) (makes_element number) (ElementBelow (length (told h).actions)) (told h).entries
    (λ entry b below is. element_of (length (told h).actions) number entry.place entry.action entry.read b below is) (entries_below h) y e

pub element_maker_below : (h : List Record) (number m : ℕ) → element_maker (told h).entries number ≡ Some m → m < length (told h).actions
element_maker_below h number m e = of (first_to (makes_element number) (told h).entries) (element_below h number) e
  where
    maker_of : Option Element → Option ℕ
    maker_of None = None
    maker_of (Some x) = Some x.maker

    of : (o : Option Element) → ((y : Element) → o ≡ Some y → ElementBelow (length (told h).actions) y) → maker_of o ≡ Some m → m < length (told h).actions
    of None below e = absurd (cc)
    of (Some y) below e = let same : y.maker ≡ m = cc in subst (λ k. k < length (told h).actions) same (below y refl).0

-- a timeout

abbrev pub TimeoutBelow : ℕ → Timeout → Type 0
TimeoutBelow n x = (x.maker < n) × (x.piece < n)

pub timeout_of : (n number : ℕ) (place : ℕ) (action : Option Action) (read : Record) (y : Timeout) → RunsBelow n action
    → makes_timeout number (record { read = read; place = place; action = action }) ≡ Some y → TimeoutBelow n y
timeout_of n number place (Some a) (Set t d) y below is = set_below (t == number) (record { delay = d; place = place; maker = a.event.number; piece = a.number }) (below.1, below.0) is
  where
    set_below : (b : Bool) (x : Timeout) → TimeoutBelow n x → (if b then Some x else None) ≡ Some y → TimeoutBelow n y
    set_below true x below e = let same : x ≡ y = cc in subst (TimeoutBelow n) same below
    set_below false x below e = absurd (cc)
timeout_of n number place _ _ y below is = absurd (cc)

pub timeout_below : (h : List Record) (number : ℕ) (y : Timeout) → first_to (makes_timeout number) (told h).entries ≡ Some y → TimeoutBelow (length (told h).actions) y
timeout_below h number y e =
    first_gives (length (told h).actions) (makes_timeout number) (TimeoutBelow (length (told h).actions)) (told h).entries
    (λ entry b below is. timeout_of (length (told h).actions) number entry.place entry.action entry.read b below is) (entries_below h) y e

-- a message, an animation callback or a job

abbrev pub TaskBelow : ℕ → Task → Type 0
TaskBelow n x = (x.maker < n) × (x.piece < n)

pub task_below : (h : List Record) (test : Record → Bool) (y : Task) → first_to (makes_task test) (told h).entries ≡ Some y → TaskBelow (length (told h).actions) y
task_below h test y e =
    first_gives (length (told h).actions) (makes_task test) (TaskBelow (length (told h).actions)) (told h).entries
    (λ entry b below is. of entry.place entry.action (test entry.read) b below is) (entries_below h) y e
  where
    task_in : ℕ → Option Action → Bool → Option Task
    task_in place (Some a) true = Some (record { place = place; maker = a.event.number; piece = a.number })
    task_in place _ _ = None

    of : (place : ℕ) (o : Option Action) (b : Bool) (z : Task) → RunsBelow (length (told h).actions) o → task_in place o b ≡ Some z → TaskBelow (length (told h).actions) z
    of place (Some a) true z below is =
        let same : record { place = place; maker = a.event.number; piece = a.number } ≡ z = cc in subst (TaskBelow (length (told h).actions)) same (below.1, below.0)
    of place (Some a) false z below is = absurd (cc)
    of place None b z below is = absurd (cc)

-- a document, a handler, an interval or a request

pub maker_below : (h : List Record) (test : Record → Bool) (m : ℕ) → maker_by test (told h).entries ≡ Some m → m < length (told h).actions
maker_below h test m e =
    first_gives (length (told h).actions) (λ (entry : Entry). maker_in entry.action (test entry.read)) (λ k. k < length (told h).actions) (told h).entries
    (λ entry k below is. maker_of entry.action (test entry.read) k below is) (entries_below h) m e
  where
    maker_in : Option Action → Bool → Option ℕ
    maker_in (Some a) true = Some a.event.number
    maker_in _ _ = None

    maker_of : (o : Option Action) (b : Bool) (k : ℕ) → RunsBelow (length (told h).actions) o → maker_in o b ≡ Some k → k < length (told h).actions
    maker_of (Some a) true k below is = let same : a.event.number ≡ k = cc in subst (λ n. n < length (told h).actions) same below.1
    maker_of (Some a) false k below is = absurd (cc)
    maker_of None b k below is = absurd (cc)
