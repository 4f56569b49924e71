-- What the rules of loads hand, in parts. Lists of records stand newest first.
use Rattle.std.specs.Prelude.{ℕ, List, [], ◌++◌, Option, Some, None}
use Rattle.er_trace.specs.declared.record.Record.{Record}
use Rattle.er_history.specs.History.{Element, History, element_maker, first_to, makes_element}
use Rattle.er_history.specs.Rules.{is_dcl_of}
use Rattle.er_history.specs.Latest.{newest, latest_of, latest_of_each}
use Rattle.er_history.specs.Kinds.{is_run_of, is_static_async, runs_element, closes, is_static_load_of}
use Rattle.er_history.specs.LookUps.{close_event, load_of, inner_of}
use Rattle.er_pieces.specs.HandedPieces.{dcl_handed, inner_close}

-- Before load of the window: the close of DOMContentLoaded, what was parsed and run, the async
-- runs, and the closes of first load events.

abbrev pub dcl_part : ℕ → History → List ℕ
dcl_part d h = newest (closes (is_dcl_of d)) h.actions

abbrev pub async_part : ℕ → History → List ℕ
async_part d h = latest_of_each (is_run_of is_static_async d) h.actions

abbrev pub static_part : ℕ → History → List ℕ
static_part d h = latest_of_each (closes (is_static_load_of d)) h.actions

abbrev pub window_parts : ℕ → History → List ℕ
window_parts d h = dcl_part d h ++ dcl_handed h d ++ async_part d h ++ static_part d h

-- Before the first load event of an element: its maker, the run of it, and the close of load of its
-- inner document.

abbrev pub maker_part : ℕ → History → List ℕ
maker_part e h = latest_of (element_maker h.entries e) h.actions

abbrev pub run_part : ℕ → History → List ℕ
run_part e h = newest (runs_element e) h.actions

abbrev pub inner_part : ℕ → History → List ℕ
inner_part e h = by (first_to (makes_element e) h.entries)
  where
    by : Option Element → List ℕ
    by None = []
    by (Some x) = inner_close h x.form

abbrev pub eload_parts : ℕ → History → List ℕ
eload_parts e h = maker_part e h ++ run_part e h ++ inner_part e h

-- the close of a dispatch that a look-up finds
abbrev pub close_of : List Record → Option ℕ → Option ℕ
close_of h None = None
close_of h (Some p) = close_event h p

-- the close of load of the document in a frame element
abbrev pub inner_close_of : List Record → ℕ → Option ℕ
inner_close_of h e = by (inner_of h e)
  where
    by : Option ℕ → Option ℕ
    by None = None
    by (Some f) = close_of h (load_of h f)
