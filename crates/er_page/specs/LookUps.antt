-- What an event is, of those that a list of records has begun, and what a record suspends. What the
-- other look-ups answer stands in er_history. Lists of records stand newest first.
use Rattle.std.specs.Prelude.{ℕ, ◌-◌, List, Option, Some, None}
use Rattle.er_trace.specs.declared.record.Record.{Record}
use Rattle.er_trace.specs.declared.record.Record.TheVariants.{Inline}
use Rattle.er_history.specs.History.{told, action_at, Action}
use Rattle.er_page.specs.declared.piece.Begun.{Begun}
use Rattle.er_page.specs.Pieces.{begun_as}

abbrev pub begun_of : List Record → ℕ → Option Begun
begun_of h u = of (action_at u (told h).actions)
  where
    of : Option Action → Option Begun
    of None = None
    of (Some a) = begun_as a.event.what

-- the piece that the record suspends where it begins this action
abbrev pub suspended_at : Record → ℕ → Option ℕ
suspended_at (Inline p e n) k = Some (k - 1)
suspended_at _ k = None
