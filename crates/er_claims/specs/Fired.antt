-- What the timeouts that have fired stand for.
use Rattle.std.specs.Prelude.{◌≡◌, ℕ, ◌<◌, ◌≤◌, ◌+◌, ◌==◌, if◌then◌else◌, List, [], ◌∷◌, length, get_or, Option, Some, None, IsSomeAnd, option_map, map, nat_eq, vec_len, vec_capacity}
use Rattle.std.specs.List.{All}
use Rattle.indexmap.specs.IndexMap.{get}
use Rattle.er_trace.specs.declared.record.Record.{Record}
use Rattle.er_trace.specs.declared.record.Record.TheVariants.{Timer}
use Rattle.er_claims.specs.declared.fired.Fired.{Fired}
use Rattle.er_claims.specs.declared.fired.Firings.{Firings}
use Rattle.er_claims.specs.declared.claimed.FiredTimeout.{FiredTimeout}
use Rattle.er_claims.specs.declared.claimed.SetTimeout.{SetTimeout}
use Rattle.er_claims.specs.declared.claimed.Timeout.{Timeout}
use Rattle.er_history.specs.LookUps as says

abbrev pub number_of : SetTimeout → ℕ
number_of x = x.timeout

-- the timeout with its number
abbrev pub numbered : ℕ → Timeout → SetTimeout
numbered t x = record {
  timeout = t;
  delay = x.delay;
  maker = x.maker;
  piece = x.piece;
  rank = x.rank;
}

-- it is what is found under its number
abbrev pub IsFound : (ℕ → Option Timeout) → SetTimeout → Type 0
IsFound found x = option_map (numbered x.timeout) (found x.timeout) ≡ Some x

-- these as they were set

abbrev pub set_in : FiredTimeout → SetTimeout
set_in x = x.set

abbrev pub sets : List FiredTimeout → List SetTimeout
sets xs = map set_in xs

-- the second was set in the piece of the first, behind it and with no lesser delay
abbrev pub GoesOn : SetTimeout → SetTimeout → Type 0
GoesOn x y = (x.piece ≡ y.piece) × (x.delay ≤ y.delay) × (x.rank < y.rank)

-- the first has no lesser delay
abbrev pub IsNoShorter : SetTimeout → SetTimeout → Type 0
IsNoShorter x y = y.delay ≤ x.delay

-- the first was set no earlier
abbrev pub IsNoEarlier : SetTimeout → SetTimeout → Type 0
IsNoEarlier x y = y.rank ≤ x.rank

-- so many right before a place stand so to the timeout
abbrev pub StandSo : (SetTimeout → SetTimeout → Type 0) → List FiredTimeout → ℕ → SetTimeout → ℕ
    → Type 0
StandSo so xs place x count = (j : ℕ) (d : FiredTimeout) → j < place → place ≤ j + count
    → so (get_or xs j d).set x

-- so many as it counts stand right before its place
pub record IsCounted (xs : List FiredTimeout) (place : ℕ) (x : FiredTimeout) : Type 0 where
  pub run : StandSo GoesOn xs place x.set x.run
  pub longer : StandSo IsNoShorter xs place x.set x.longer
  pub later : StandSo IsNoEarlier xs place x.set x.later

-- as each of these counts
pub record AreCounted (xs : List FiredTimeout) : Type 0 where
  pub each : (i : ℕ) (d : FiredTimeout) → i < length xs → IsCounted xs i (get_or xs i d)

-- no list is as an empty one

abbrev pub numbers_of : Option Firings → List ℕ
numbers_of None = []
numbers_of (Some list) = list.numbers.items

abbrev pub timeouts_of : Option Firings → List FiredTimeout
timeouts_of None = []
timeouts_of (Some list) = list.timeouts.items

abbrev pub numbers_at : Fired → ℕ → List ℕ
numbers_at fired u = numbers_of (get nat_eq fired.lists u)

abbrev pub timeouts_at : Fired → ℕ → List FiredTimeout
timeouts_at fired u = timeouts_of (get nat_eq fired.lists u)

abbrev pub sets_at : Fired → ℕ → List SetTimeout
sets_at fired u = sets (timeouts_at fired u)

-- the timeouts that have fired: all of them, and under each event those that it set
pub record FiredAre (fired : Fired) (h : List Record) : Type 0 where
  pub all : fired.all.numbers.items ≡ says.fired h
  pub all_timeouts : map number_of (sets fired.all.timeouts.items) ≡ says.fired h
  pub each : (u : ℕ) → numbers_at fired u ≡ says.fired_with h u
  pub each_timeouts : (u : ℕ) → map number_of (sets_at fired u) ≡ says.fired_with h u

-- each stands as it is found, and counts those before it
pub record AreFound (found : ℕ → Option Timeout) (fired : Fired) : Type 0 where
  pub all : All (IsFound found) (sets fired.all.timeouts.items)
  pub each : (u : ℕ) → All (IsFound found) (sets_at fired u)
  pub all_counted : AreCounted fired.all.timeouts.items
  pub each_counted : (u : ℕ) → AreCounted (timeouts_at fired u)

-- the timeout whose callback the record begins
abbrev pub timer_found : (ℕ → Option Timeout) → Record → Option SetTimeout
timer_found found (Timer t) = option_map (numbered t) (found t)
timer_found found _ = None

-- the timeout, where this event set it
abbrev pub timers_of : ℕ → Option SetTimeout → List SetTimeout
timers_of u None = []
timers_of u (Some x) = if x.maker == u then x ∷ [] else []

abbrev pub timer_listed : Option SetTimeout → List ℕ
timer_listed None = []
timer_listed (Some x) = x.timeout ∷ []

-- the list has room for one timeout more
abbrev pub HasPlace : Firings → Type 0
HasPlace list =
    (vec_len list.numbers < vec_capacity list.numbers)
    × (vec_len list.timeouts < vec_capacity list.timeouts)

-- the list of this event has
abbrev pub ListHasPlace : Fired → ℕ → Type 0
ListHasPlace fired event = IsSomeAnd (get nat_eq fired.lists event) HasPlace

abbrev pub HasPlaceFor : Fired → Option SetTimeout → Type 0
HasPlaceFor fired None = Unit {0}
HasPlaceFor fired (Some x) = HasPlace fired.all × ListHasPlace fired x.maker
