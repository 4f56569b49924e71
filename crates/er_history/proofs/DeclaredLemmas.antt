-- What an earlier record declared, a look-up finds, where naming refuses no record: each record
-- that declares is read while an action runs.
use Rattle.std.proofs.Common.{◌≡◌, ℕ, Bool, true, false, List, [], ◌∷◌, length, Option, Some, None, refl, ap, ◌∙◌, inl, inr, ◌⊎◌}
use Rattle.std.specs.Prelude.{◌==◌, ◌||◌, not, if◌then◌else◌}
use Rattle.std.specs.List.{list_any}
use Rattle.std.proofs.lemmas.Bool.{eqb-true}
use Rattle.er_trace.specs.declared.record.Record.{Record}
use Rattle.er_trace.specs.declared.record.Record.TheVariants.{Parse, ParseFrame, New, NewFrame, Set}
use Rattle.er_paths.proofs.Paths.{or_cases}
use Rattle.er_history.specs.History.{Element, Timeout, Task, Action, Entry, told, or_else, first_to, makes_element, makes_timeout, makes_task, maker_by, element_maker, declares_document, declares_handler, declares_interval, declares_request, actions_after, running}
use Rattle.er_history.specs.Naming.{IsNamed, again, declares_element, sets_timeout, knows_document}
use Rattle.er_history.proofs.NamedLemmas.{none_holds, runs_after}

-- tests that do not hold

pub or_none : (b c : Bool) → (b || c) ≡ false → (b ≡ false) × (c ≡ false)
or_none true c e = absurd (cc)
or_none false c e = (refl, e)

pub is_known : (b : Bool) → not b ≡ false → b ≡ true
is_known true e = refl
is_known false e = absurd (cc)

-- a look-up gives something
abbrev pub Found : {B : Type 0} → Option B → Type 0
Found {B} o = (b : B) × (o ≡ Some b)

-- where it gives something at each record that passes the test, it finds one that an
-- earlier record declared
pub declared_is_found : {B : Type 0} → (f : Entry → Option B) (test : Record → Bool)
    → ((x : Record) (place : ℕ) (a : Action) → test x ≡ true → Found (f (record { read = x; place = place; action = Some a })))
    → (h : List Record) → IsNamed h → list_any test h ≡ true → Found (first_to f (told h).entries)
declared_is_found f test gives [] is e = absurd (cc)
declared_is_found {B} f test gives (x ∷ h) is e =
    let runs = runs_after h x (none_holds h x is.0).placed in
    elim (or_cases (test x) (list_any test h) e) [
      | inl here ↦ now (first_to f (told h).entries) (length (told h).entries) (running (actions_after (told h) x)) runs.0 runs.1 here
      | inr before ↦ later (first_to f (told h).entries) (f (record { read = x; place = length (told h).entries; action = running (actions_after (told h) x) })) (declared_is_found f test gives h is.1 before)
    ]
  where
    later : (o p : Option B) → Found o → Found (or_else o p)
    later None p found = absurd (cc (found.1))
    later (Some b) p found = (b, refl)

    either : (o p : Option B) → Found p → Found (or_else o p)
    either None p found = found
    either (Some b) p found = (b, refl)

    now : (o : Option B) (place : ℕ) (r : Option Action) (a : Action) → r ≡ Some a → test x ≡ true → Found (or_else o (f (record { read = x; place = place; action = r })))
    now o place r a e here = either o (f (record { read = x; place = place; action = r })) (let found = gives x place a here in (found.0, ap (λ s. f (record { read = x; place = place; action = s })) e ∙ found.1))

-- an element
pub declared_element : (h : List Record) (e : ℕ) → IsNamed h → list_any (declares_element e) h ≡ true → Found (first_to (makes_element e) (told h).entries)
declared_element h number is declared = declared_is_found (makes_element number) (declares_element number) gives h is declared
  where
    if_is : (b : Bool) (y : Element) → b ≡ true → Found (if b then Some y else None)
    if_is true y e = (y, refl)
    if_is false y e = absurd (cc)

    gives : (x : Record) (place : ℕ) (a : Action) → declares_element number x ≡ true → Found (makes_element number (record { read = x; place = place; action = Some a }))
    gives (Parse d e k) place a is = if_is (e == number) _ is
    gives (ParseFrame d e f) place a is = if_is (e == number) _ is
    gives (New d e k) place a is = if_is (e == number) _ is
    gives (NewFrame d e f) place a is = if_is (e == number) _ is
    gives _ place a is = absurd (cc)

-- and its maker
pub declared_element_maker : (h : List Record) (e : ℕ) → IsNamed h → list_any (declares_element e) h ≡ true → Found (element_maker (told h).entries e)
declared_element_maker h e is declared = let found = declared_element h e is declared in (found.0.maker, maker found.0 (first_to (makes_element e) (told h).entries) found.1)
  where
    maker_of : Option Element → Option ℕ
    maker_of None = None
    maker_of (Some x) = Some x.maker

    maker : (x : Element) (o : Option Element) → o ≡ Some x → maker_of o ≡ Some x.maker
    maker x o e = ap maker_of e

-- a timeout
pub declared_timeout : (h : List Record) (t : ℕ) → IsNamed h → list_any (sets_timeout t) h ≡ true → Found (first_to (makes_timeout t) (told h).entries)
declared_timeout h number is declared = declared_is_found (makes_timeout number) (sets_timeout number) gives h is declared
  where
    if_is : (b : Bool) (y : Timeout) → b ≡ true → Found (if b then Some y else None)
    if_is true y e = (y, refl)
    if_is false y e = absurd (cc)

    gives : (x : Record) (place : ℕ) (a : Action) → sets_timeout number x ≡ true → Found (makes_timeout number (record { read = x; place = place; action = Some a }))
    gives (Set t n) place a is = if_is (t == number) _ is
    gives _ place a is = absurd (cc)

-- a message, an animation callback or a job
pub declared_task : (h : List Record) (test : Record → Bool) → IsNamed h → list_any test h ≡ true → Found (first_to (makes_task test) (told h).entries)
declared_task h test is declared = declared_is_found (makes_task test) test gives h is declared
  where
    task_in : ℕ → Option Action → Bool → Option Task
    task_in place (Some a) true = Some (record { place = place; maker = a.event.number; piece = a.number })
    task_in place _ _ = None

    gives : (x : Record) (place : ℕ) (a : Action) → test x ≡ true → Found (task_in place (Some a) (test x))
    gives x place a is = (record { place = place; maker = a.event.number; piece = a.number }, ap (task_in place (Some a)) is)

-- what a test tells
pub declared_maker : (h : List Record) (test : Record → Bool) → IsNamed h → list_any test h ≡ true → Found (maker_by test (told h).entries)
declared_maker h test is declared = declared_is_found (λ (entry : Entry). maker_in entry.action (test entry.read)) test gives h is declared
  where
    maker_in : Option Action → Bool → Option ℕ
    maker_in (Some a) true = Some a.event.number
    maker_in _ _ = None

    gives : (x : Record) (place : ℕ) (a : Action) → test x ≡ true → Found (maker_in (Some a) (test x))
    gives x place a is = (a.event.number, ap (maker_in (Some a)) is)

pub declared_handler : (h : List Record) (x : ℕ) → IsNamed h → list_any (declares_handler x) h ≡ true → Found (maker_by (declares_handler x) (told h).entries)
declared_handler h x is declared = declared_maker h (declares_handler x) is declared

pub declared_interval : (h : List Record) (i : ℕ) → IsNamed h → list_any (declares_interval i) h ≡ true → Found (maker_by (declares_interval i) (told h).entries)
declared_interval h i is declared = declared_maker h (declares_interval i) is declared

pub declared_request : (h : List Record) (r : ℕ) → IsNamed h → list_any (declares_request r) h ≡ true → Found (maker_by (declares_request r) (told h).entries)
declared_request h r is declared = declared_maker h (declares_request r) is declared

-- a document other than document 0
pub declared_document : (h : List Record) (d : ℕ) → IsNamed h → list_any (declares_document d) h ≡ true → Found (maker_by (declares_document d) (told h).entries)
declared_document h d is declared = declared_maker h (declares_document d) is declared

pub known_document : (h : List Record) (d : ℕ) → IsNamed h → knows_document h d ≡ true → (d ≡ 0) ⊎ Found (maker_by (declares_document d) (told h).entries)
known_document h d is known =
    elim (or_cases (d == 0) (list_any (declares_document d) h) known) [
      | inl zero ↦ inl (eqb-true d 0 zero)
      | inr declared ↦ inr (declared_document h d is declared)
    ]

-- no record declares document 0

pub not_first : (h : List Record) (x : Record) → again h x ≡ false → declares_document 0 x ≡ false
not_first h (ParseFrame d e f) new = (or_none (f == 0) (list_any (declares_document f) h) (or_none (list_any (declares_element e) h) (knows_document h f) new).1).0
not_first h (NewFrame d e f) new = (or_none (f == 0) (list_any (declares_document f) h) (or_none (list_any (declares_element e) h) (knows_document h f) new).1).0
not_first h _ new = refl

pub first_document : (h : List Record) → IsNamed h → maker_by (declares_document 0) (told h).entries ≡ None
first_document [] is = refl
first_document (x ∷ h) is = step (running (actions_after (told h) x)) (declares_document 0 x) (maker_by (declares_document 0) (told h).entries) (not_first h x (none_holds h x is.0).new) (first_document h is.1)
  where
    maker_in : Option Action → Bool → Option ℕ
    maker_in (Some a) true = Some a.event.number
    maker_in _ _ = None

    step : (r : Option Action) (b : Bool) (o : Option ℕ) → b ≡ false → o ≡ None → or_else o (maker_in r b) ≡ None
    step r b (Some k) e f = f
    step None b None e f = refl
    step (Some a) true None e f = absurd (cc)
    step (Some a) false None e f = refl
