-- Which records are out of order by rules 3 to 7. Lists of records stand newest first.
use Rattle.std.specs.Prelude.{◌≡◌, ℕ, Bool, false, ◌&&◌, ◌||◌, nat_lt, List, Option, None, is_some}
use Rattle.er_trace.specs.declared.record.Record.{Record}
use Rattle.er_trace.specs.declared.record.Record.TheVariants.{Parse, ParseFrame, Exec}
use Rattle.er_history.specs.History.{Element, told}
use Rattle.er_history.specs.Rules.{Rule, is_some_and, script_rules}
use Rattle.er_history.specs.Edges.{path}
use Rattle.er_history.specs.Naming.{naming}
use Rattle.er_history.specs.Handed.{HasFamily}
use Rattle.er_history.specs.Sound.{IsSound, leads_back}
use Rattle.er_history.specs.LookUps.{element_made, last_parse, last_deferred_run, last_deferred_element}
use Rattle.er_rules.specs.script.Scripts.{blocks, defers, is_parsed_before}

-- a deferred script of the document has run
abbrev pub has_deferred_run : List Record → ℕ → Bool
has_deferred_run h d = is_some (last_deferred_run h d)

-- a parse step made it, and the latest parse step of the document is a later one
abbrev pub is_parsed_past : List Record → ℕ → Option Element → Bool
is_parsed_past h d y =
    is_some_and (λ (x : Element).
    x.is_static && is_some_and (λ (last : ℕ). nat_lt x.piece last) (last_parse h d))
    y

-- the last deferred script of the document that ran was parsed after it
abbrev pub is_passed : List Record → ℕ → Option Element → Bool
is_passed h d y =
    is_some_and (λ (last : ℕ). is_parsed_before y (element_made h last)) (last_deferred_element h d)

-- the run of a blocking script comes too late: the document was parsed on, or one of its deferred
-- scripts has run
abbrev pub is_blocking_late : List Record → ℕ → Option Element → Bool
is_blocking_late h d y = blocks y && (is_parsed_past h d y || has_deferred_run h d)

-- that of a deferred script: another one of the document, parsed later, has run
abbrev pub is_deferred_late : List Record → ℕ → Option Element → Bool
is_deferred_late h d y = defers y && is_passed h d y

abbrev pub is_run_late : List Record → Option Element → Bool
is_run_late h y =
    is_some_and (λ (x : Element). is_blocking_late h x.doc y || is_deferred_late h x.doc y) y

-- record by record
abbrev pub is_late : List Record → Record → Bool
is_late h (Parse d e k) = has_deferred_run h d
is_late h (ParseFrame d e f) = has_deferred_run h d
is_late h (Exec e) = is_run_late h (element_made h e)
is_late h _ = false

-- In a sound list these are the records from whose event a rule leads back.
abbrev pub LateRecordsLeadBack : Type 0
LateRecordsLeadBack = (table : List (ℕ × Rule)) (h : List Record) (x : Record)
    → HasFamily table script_rules → IsSound table h → naming h x ≡ None
    → leads_back script_rules (path table h) (told h) x ≡ is_late h x
