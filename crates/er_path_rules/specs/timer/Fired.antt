-- The timeouts whose callbacks have begun and come before another, by the look-ups. Lists of
-- records stand newest first.
use Rattle.std.specs.Prelude.{ℕ, Bool, true, false, ◌&&◌, nat_le, if◌then◌else◌, List, [], ◌∷◌, ◌++◌, reverse, Option, Some, None}
use Rattle.er_trace.specs.declared.record.Record.{Record}
use Rattle.er_trace.specs.declared.version.Version.{Version}
use Rattle.er_trace.specs.declared.version.Version.TheVariants.{One, Two, Three}
use Rattle.er_history.specs.History.{told}
use Rattle.er_history.specs.Rules.{rules, both_some_and}
use Rattle.er_history.specs.Edges.{path}
use Rattle.er_history.specs.Latest.{newest, latest_of_event, latest_of}
use Rattle.er_history.specs.Kinds.{is_tick_of}
use Rattle.er_history.specs.LookUps.{maker_of_timeout, maker_of_interval, set_before, delay_of, setting_piece, fired, fired_with, timer_event}

abbrev pub is_no_longer : Option ℕ → Option ℕ → Bool
is_no_longer delay other = both_some_and (λ (m : ℕ) (n : ℕ). nat_le m n) delay other

-- both are set, the first one first and with no greater delay
abbrev pub goes_off_first : List Record → ℕ → ℕ → Bool
goes_off_first h s t = set_before h s t && is_no_longer (delay_of h s) (delay_of h t)

-- a path leads from the piece that set the first to the piece that set the second
abbrev pub is_joined : (ℕ → ℕ → Bool) → Option ℕ → Option ℕ → Bool
is_joined joined first second = both_some_and joined first second

-- rule 19 of the version asks for a path
abbrev pub asks_for_path : Version → Bool
asks_for_path One = false
asks_for_path Two = true
asks_for_path Three = true

-- in versions 2 and 3 a path must lead to it besides; of version 1 it is asked of timeouts of one
-- event alone (fired_before)
abbrev pub goes_before : Version → List Record → ℕ → ℕ → Bool
goes_before One h s t = goes_off_first h s t
goes_before Two h s t =
    goes_off_first h s t && is_joined (path (rules Two) h) (setting_piece h s) (setting_piece h t)
goes_before Three h s t =
    goes_off_first h s t && is_joined (path (rules Three) h) (setting_piece h s) (setting_piece h t)

-- the timeouts that have fired and that may come before one that this event set
abbrev pub fired_before : Version → List Record → ℕ → List ℕ
fired_before One h u = fired_with h u
fired_before Two h u = fired h
fired_before Three h u = fired h

-- the latest piece of the callback of s, if it is to come before that of t
abbrev pub handed_for : Version → List Record → ℕ → ℕ → List ℕ
handed_for v h t s =
    if goes_before v h s t then latest_of (timer_event h s) (told h).actions else []

-- and those of each of these timeouts
abbrev pub handed_for_each : Version → List Record → ℕ → List ℕ → List ℕ
handed_for_each v h t [] = []
handed_for_each v h t (s ∷ ss) = handed_for v h t s ++ handed_for_each v h t ss

-- of the timeouts that may come before it, from the last that fired to the first
abbrev pub fired_handed : Version → List Record → ℕ → ℕ → List ℕ
fired_handed v h t u = handed_for_each v h t (reverse (fired_before v h u))

-- what comes before the callback of a timeout, by the event that set it
abbrev pub set_by : Version → List Record → ℕ → Option ℕ → List ℕ
set_by v h t None = []
set_by v h t (Some u) = latest_of_event u (told h).actions ++ fired_handed v h t u

-- what comes before a callback of a timeout
abbrev pub callback_handed : Version → List Record → ℕ → List ℕ
callback_handed v h t = set_by v h t (maker_of_timeout h t)

-- what comes before a callback of an interval
abbrev pub tick_handed : List Record → ℕ → List ℕ
tick_handed h i =
    latest_of (maker_of_interval h i) (told h).actions ++ newest (is_tick_of i) (told h).actions
