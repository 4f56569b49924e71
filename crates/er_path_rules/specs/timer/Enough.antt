-- What is handed is exactly what the rules of timers of a version hand, sources and enough. Lists
-- of records stand newest first.
use Rattle.std.specs.Prelude.{ℕ, List}
use Rattle.er_trace.specs.declared.record.Record.{Record}
use Rattle.er_trace.specs.declared.version.Version.{Version}
use Rattle.er_history.specs.History.{told}
use Rattle.er_history.specs.Rules.{rules, timer_rules}
use Rattle.er_history.specs.Edges.{path}
use Rattle.er_history.specs.Handed.{HasHanded, HasHandedSome}
use Rattle.er_pieces.specs.Contract.{ComesNext}
use Rattle.er_pieces.specs.HandedPieces.{timer_handed}

-- what is due for the record, by the paths of the version
abbrev pub timer_due : Version → Record → List Record → List ℕ
timer_due v x h = timer_handed v (path (rules v) h) (told h) x

abbrev pub HandsEnoughTimers : Version → (List Record → Type 0) → Record → List ℕ → List ℕ → Type 0
HandsEnoughTimers v stands x old new = (h : List Record) → stands h → ComesNext (rules v) h x
    → HasHanded (timer_rules v) (path (rules v) h) (told h) x old new

abbrev pub HandsSourceTimers : Version → (List Record → Type 0) → Record → List ℕ → List ℕ → Type 0
HandsSourceTimers v stands x old new = (h : List Record) → stands h → ComesNext (rules v) h x
    → HasHandedSome (timer_rules v) (path (rules v) h) (told h) x old new
