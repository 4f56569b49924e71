-- Which records are out of order by the rules of dispatches. Lists of records stand newest first.
use Rattle.std.specs.Prelude.{◌≡◌, ℕ, Bool, false, nat_lt, List, Option, None}
use Rattle.er_trace.specs.declared.record.Record.{Record}
use Rattle.er_trace.specs.declared.record.Record.TheVariants.{Run}
use Rattle.er_history.specs.History.{told}
use Rattle.er_history.specs.Rules.{Rule, is_some_and, dispatch_rules}
use Rattle.er_history.specs.Edges.{path}
use Rattle.er_history.specs.Naming.{naming, IsNamed}
use Rattle.er_history.specs.Sound.{leads_back}
use Rattle.er_history.specs.LookUps.{last_group}

-- there is such a group, and it is greater
abbrev pub is_greater : ℕ → Option ℕ → Bool
is_greater g group = is_some_and (λ (k : ℕ). nat_lt g k) group

-- A handler comes too late where one of a greater group of its dispatch has run; no other
-- record does.
abbrev pub is_late : List Record → Record → Bool
is_late h (Run p g x) = is_greater g (last_group h p)
is_late h _ = false

-- So it is, after each list that naming accepts.
abbrev pub LateHandlersLeadBack : Type 0
LateHandlersLeadBack = (table : List (ℕ × Rule)) (h : List Record) (x : Record) → IsNamed h
    → naming h x ≡ None → leads_back dispatch_rules (path table h) (told h) x ≡ is_late h x
