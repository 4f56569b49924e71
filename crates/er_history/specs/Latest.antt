-- What came last among the actions of a list: the newest piece of a kind of event, and the latest
-- piece of an event. Lists stand newest first.
use Rattle.std.specs.Prelude.{ℕ, Bool, ◌==◌, ◌&&◌, nat_lt, if◌then◌else◌, List, [], ◌∷◌, ◌++◌, Option, Some, None}
use Rattle.er_history.specs.History.{What, HandlerOf, Event, Action}

-- the newest action whose event passes
abbrev pub newest_by : (Event → Bool) → List Action → Option Action
newest_by test [] = None
newest_by test (a ∷ older) = if test a.event then Some a else newest_by test older

abbrev pub number_of : Option Action → List ℕ
number_of None = []
number_of (Some a) = a.number ∷ []

-- its number, where there is one
abbrev pub newest : (Event → Bool) → List Action → List ℕ
newest test actions = number_of (newest_by test actions)

-- it is the event of this number
abbrev pub is_event : ℕ → Event → Bool
is_event u e = e.number == u

-- the latest piece of an event
abbrev pub latest_of_event : ℕ → List Action → List ℕ
latest_of_event u actions = newest (is_event u) actions

abbrev pub latest_of : Option ℕ → List Action → List ℕ
latest_of None actions = []
latest_of (Some u) actions = latest_of_event u actions

-- the latest piece of each event that passes and has its first piece among the second list
abbrev pub latest_among : (Event → Bool) → List Action → List Action → List ℕ
latest_among test all [] = []
latest_among test all (a ∷ older) = if (a.number == a.event.number)
    && test a.event then latest_of_event a.event.number all
    ++ latest_among test all older else latest_among test all older

-- the latest piece of each event that passes
abbrev pub latest_of_each : (Event → Bool) → List Action → List ℕ
latest_of_each test actions = latest_among test actions actions

-- the events that pass, newest first: each has its number where its first piece stands
abbrev pub events_of_each : (Event → Bool) → List Action → List ℕ
events_of_each test [] = []
events_of_each test (a ∷ older) = if (a.number == a.event.number)
    && test a.event then a.event.number ∷ events_of_each test older else events_of_each test older

-- the greatest group that passes of the handlers of the dispatch that ran

abbrev pub greater : Option ℕ → Option ℕ → Option ℕ
greater None o = o
greater (Some g) None = Some g
greater (Some g) (Some k) = if nat_lt g k then Some k else Some g

abbrev pub group_of : ℕ → (ℕ → Bool) → What → Option ℕ
group_of p test (HandlerOf q g x m) = if (q.number == p) && test g then Some g else None
group_of p test _ = None

abbrev pub greatest_group : ℕ → (ℕ → Bool) → List Action → Option ℕ
greatest_group p test [] = None
greatest_group p test (a ∷ older) =
    greater (group_of p test a.event.what) (greatest_group p test older)
