-- What is handed is sources by the rules of tasks in version 3, and enough. Lists of records stand
-- newest first.
use Rattle.std.specs.Prelude.{ℕ, List}
use Rattle.er_trace.specs.declared.record.Record.{Record}
use Rattle.er_trace.specs.declared.version.Version.TheVariants.{Three}
use Rattle.er_history.specs.History.{told}
use Rattle.er_history.specs.Rules.{rules, task_rules}
use Rattle.er_history.specs.Edges.{path}
use Rattle.er_history.specs.Handed.{HasHanded, HasHandedSome}
use Rattle.er_pieces.specs.Contract.{ComesNext}

abbrev pub HandsEnoughTasks : (List Record → Type 0) → Record → List ℕ → List ℕ → Type 0
HandsEnoughTasks stands x old new = (h : List Record) → stands h → ComesNext (rules Three) h x
    → HasHanded task_rules (path (rules Three) h) (told h) x old new

abbrev pub HandsSourceTasks : (List Record → Type 0) → Record → List ℕ → List ℕ → Type 0
HandsSourceTasks stands x old new = (h : List Record) → stands h → ComesNext (rules Three) h x
    → HasHandedSome task_rules (path (rules Three) h) (told h) x old new
