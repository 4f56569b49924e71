-- How the pieces of one event follow one another. Lists of records stand newest first.
use Rattle.std.specs.Prelude.{◌≡◌, ℕ, ◌<◌, true, List, [], ◌∷◌}
use Rattle.er_trace.specs.declared.record.Record.{Record}
use Rattle.er_history.specs.History.{Action, told}
use Rattle.er_history.specs.Rules.{Rule}
use Rattle.er_history.specs.Edges.{path}
use Rattle.er_history.specs.Laws.{Among}
use Rattle.er_history.specs.Latest.{latest_of_event}

-- By any table, after any list, a piece of an event has a path to each later piece of it.
abbrev pub PiecesInOrder : Type 0
PiecesInOrder = (table : List (ℕ × Rule)) (h : List Record) (a b : Action)
    → Among a (told h).actions → Among b (told h).actions
    → a.event.number ≡ b.event.number → a.number < b.number
    → path table h a.number b.number ≡ true

-- So each piece has a path to the latest.
abbrev pub PiecesReachLatest : Type 0
PiecesReachLatest = (table : List (ℕ × Rule)) (h : List Record) (a : Action)
    → Among a (told h).actions
    → (k : ℕ) × (latest_of_event a.event.number (told h).actions ≡ k ∷ [])
    × (path table h a.number k ≡ true)
