-- Which records are out of order by rules 8 to 13. Lists of records stand newest first.
use Rattle.std.specs.Prelude.{◌≡◌, ℕ, Bool, false, ◌&&◌, ◌||◌, List, Option, None, is_some}
use Rattle.er_trace.specs.declared.record.Record.{Record}
use Rattle.er_trace.specs.declared.record.Record.TheVariants.{Parse, ParseFrame, Exec, Dcl}
use Rattle.er_history.specs.History.{Element, told}
use Rattle.er_history.specs.Rules.{Rule, is_some_and, is_blocking, is_deferred, load_rules}
use Rattle.er_history.specs.Edges.{path}
use Rattle.er_history.specs.Handed.{HasFamily}
use Rattle.er_history.specs.LookUps.{element_made, dcl_of, load_of, eload_of}
use Rattle.er_history.specs.Naming.{naming}
use Rattle.er_history.specs.Sound.{IsSound, leads_back}

-- DOMContentLoaded of the document has begun
abbrev pub has_dcl : List Record → ℕ → Bool
has_dcl h d = is_some (dcl_of h d)

-- load of it has begun
abbrev pub has_load : List Record → ℕ → Bool
has_load h d = is_some (load_of h d)

-- the first load event of the element has begun
abbrev pub has_eload : List Record → ℕ → Bool
has_eload h e = is_some (eload_of h e)

-- the script runs before DOMContentLoaded: a blocking or a deferred one
abbrev pub runs_before_dcl : Element → Bool
runs_before_dcl x = is_blocking x || is_deferred x

-- the run of a static script comes too late in its document
abbrev pub is_script_late : List Record → Element → Bool
is_script_late h x = (runs_before_dcl x && has_dcl h x.doc) || (x.is_static && has_load h x.doc)

-- or behind its own load event
abbrev pub is_run_late : List Record → ℕ → Option Element → Bool
is_run_late h e made = is_some_and (is_script_late h) made || has_eload h e

-- a parse step comes too late
abbrev pub is_step_late : List Record → ℕ → Bool
is_step_late h d = has_dcl h d || has_load h d

-- record by record
abbrev pub is_late : List Record → Record → Bool
is_late h (Parse d e k) = is_step_late h d
is_late h (ParseFrame d e f) = is_step_late h d
is_late h (Exec e) = is_run_late h e (element_made h e)
is_late h (Dcl p d) = has_load h d
is_late h _ = false

-- In a sound list these are the records from whose event a rule leads back.
abbrev pub LateLoadsLeadBack : Type 0
LateLoadsLeadBack = (table : List (ℕ × Rule)) (h : List Record) (x : Record)
    → HasFamily table load_rules → IsSound table h → naming h x ≡ None
    → leads_back load_rules (path table h) (told h) x ≡ is_late h x
