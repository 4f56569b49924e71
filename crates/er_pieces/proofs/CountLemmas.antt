-- How many pieces the families hand. Lists of records stand newest first.
use Rattle.std.proofs.Common.{◌≡◌, ℕ, ◌+◌, ◌≤◌, Bool, true, false, List, [], ◌∷◌, ◌++◌, length, reverse, Option, Some, None, refl, arith}
use Rattle.std.specs.Prelude.{◌==◌, ◌&&◌, if◌then◌else◌}
use Rattle.std.proofs.lemmas.List.{length-append, length-reverse}
use Rattle.er_history.specs.History.{Event, Action}
use Rattle.er_history.specs.Latest.{newest_by, newest, number_of, latest_of_event, latest_of, latest_among, latest_of_each, events_of_each}

-- at most one

pub number_short : (o : Option Action) → length (number_of o) ≤ 1
number_short None = omega (arith)
number_short (Some a) = omega (arith)

pub newest_short : (test : Event → Bool) (actions : List Action) → length (newest test actions) ≤ 1
newest_short test actions = number_short (newest_by test actions)

pub latest_short : (u : ℕ) (actions : List Action) → length (latest_of_event u actions) ≤ 1
latest_short u actions = number_short (newest_by (λ (e : Event). e.number == u) actions)

pub made_short : (o : Option ℕ) (actions : List Action) → length (latest_of o actions) ≤ 1
made_short None actions = omega (arith)
made_short (Some u) actions = latest_short u actions

pub both_short : (xs ys : List ℕ) (m n : ℕ) → length xs ≤ m → length ys ≤ n → length (xs ++ ys) ≤ m + n
both_short xs ys m n first second = omega (arith, length-append xs ys, first, second)

-- one piece an event

among_short : (test : Event → Bool) (all actions : List Action) → length (latest_among test all actions) ≤ length (events_of_each test actions)
among_short test all [] = omega (arith)
among_short test all (a ∷ older) = step ((a.number == a.event.number) && test a.event) (among_short test all older)
  where
    step : (b : Bool) → length (latest_among test all older) ≤ length (events_of_each test older) → length (if b then latest_of_event a.event.number all ++ latest_among test all older else latest_among test all older)
        ≤ length (if b then a.event.number ∷ events_of_each test older else events_of_each test older)
    step true rest = let both = both_short (latest_of_event a.event.number all) (latest_among test all older) 1 (length (events_of_each test older)) (latest_short a.event.number all) rest in omega (arith, both)
    step false rest = rest

-- the look-ups list the events oldest first
pub each_short : (test : Event → Bool) (actions : List Action) → length (latest_of_each test actions) ≤ length (reverse (events_of_each test actions))
each_short test actions = omega (arith, among_short test actions actions, length-reverse (events_of_each test actions))

-- a wider test lists no fewer
pub fewer : (test wider : Event → Bool) (actions : List Action) → ((e : Event) → test e ≡ true → wider e ≡ true) → length (events_of_each test actions) ≤ length (events_of_each wider actions)
fewer test wider [] imply = omega (arith)
fewer test wider (a ∷ older) imply = step (a.number == a.event.number) (test a.event) (wider a.event) (imply a.event) (fewer test wider older imply)
  where
    step : (k b c : Bool) → (b ≡ true → c ≡ true) → length (events_of_each test older) ≤ length (events_of_each wider older)
        → length (if k && b then a.event.number ∷ events_of_each test older else events_of_each test older) ≤ length (if k && c then a.event.number ∷ events_of_each wider older else events_of_each wider older)
    step false b c imply rest = rest
    step true false false imply rest = rest
    step true false true imply rest = omega (arith, rest)
    step true true true imply rest = omega (arith, rest)
    step true true false imply rest = absurd (let e : false ≡ true = imply refl in cc)
