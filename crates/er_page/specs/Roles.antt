-- The role of an event, by the record that began it and the record that began the dispatch that it
-- serves. Lists of records stand newest first.
use Rattle.std.specs.Prelude.{ℕ, List, Option, Some, None, option_map, slice_get}
use Rattle.std.specs.Borrow.{Bor}
use Rattle.er_trace.specs.declared.record.Record.{Record}
use Rattle.er_trace.specs.declared.record.Record.TheVariants.{Parse, ParseFrame, Exec, Tick, Eload, Fire, Wfire, Reply, Inline, Run, Close}
use Rattle.er_history.specs.LookUps.{element_made}
use Rattle.er_latest.specs.Roles.{Kept, Nothing, StepIn, TickOf, HandlerIn, CloseOfReply, CloseAtElement, CloseAtWindow, script_role, load_role}
use Rattle.er_page.specs.declared.piece.Piece.{Piece}
use Rattle.er_page.specs.declared.piece.Start.{Start}

-- of the close of a dispatch that the record began
abbrev pub close_by : List Record → Record → Kept
close_by h (Eload p e) = load_role (element_made h e)
close_by h (Fire p e n) = CloseAtElement e n
close_by h (Inline p e n) = CloseAtElement e n
close_by h (Wfire p d n) = CloseAtWindow d n
close_by h (Reply p r) = CloseOfReply r
close_by h _ = Nothing

abbrev pub closed_by : List Record → Option Record → Kept
closed_by h None = Nothing
closed_by h (Some x) = close_by h x

-- of an event that the record began
abbrev pub role_by : List Record → Record → Option Record → Kept
role_by h (Parse d e k) served = StepIn d
role_by h (ParseFrame d e f) served = StepIn d
role_by h (Exec e) served = script_role e (element_made h e)
role_by h (Tick i) served = TickOf i
role_by h (Run p g x) served = HandlerIn p g
role_by h (Close p) served = closed_by h served
role_by h _ served = Nothing

-- the record that began the event of a piece: that of its first piece, where there is one, or else
-- the record that begins it now
abbrev pub first_in : List Piece → Record → Start → Record
first_in pieces x start = of (slice_get pieces start.event)
  where
    of : Option Piece → Record
    of None = x
    of (Some p) = p.begin

-- the record that began this action
abbrev pub begin_in : List Piece → Option ℕ → Option Record
begin_in pieces None = None
begin_in pieces (Some k) = option_map (λ (p : Piece). p.begin) (slice_get pieces k)

-- the record that a reference leads to
abbrev pub read : Option (Bor Record) → Option Record
read o = option_map (λ (r : Bor Record). r.now) o
