-- What the rules of timers hand, by whatever rule a version has in place of rule 19. Lists of
-- records stand newest first.
use Rattle.std.specs.Prelude.{◌≡◌, ℕ, Bool, true, false, List, [], ◌∷◌, Some, None}
use Rattle.er_trace.specs.declared.record.Record.{Record}
use Rattle.er_history.specs.History.{Timeout, TimeoutRun, Event, told}
use Rattle.er_history.specs.Rules.{Rule, set_before_timer, ticks_in_order}
use Rattle.er_history.specs.Edges.{path}
use Rattle.er_history.specs.Naming.{naming}
use Rattle.er_history.specs.Sound.{out_of_order}
use Rattle.er_history.specs.Handed.{HasFamily, AreHanded}
use Rattle.er_pieces.specs.Enough.{IsSteady, NestedFacts}
use Rattle.er_pieces.specs.HandedPieces.{timer_handed_by}

-- rules 18 and 20, and one in place of rule 19
abbrev pub timers_by : Rule → List (ℕ × Rule)
timers_by rule = (18, set_before_timer) ∷ (19, rule) ∷ (20, ticks_in_order) ∷ []

-- the rule leads to callbacks of timeouts alone
abbrev pub OnlyToTimeouts : Rule → Type 0
OnlyToTimeouts rule = (joined : ℕ → ℕ → Bool) (u v : Event) → rule joined u v ≡ true
    → (t : ℕ) × (x : Timeout) × (v.what ≡ TimeoutRun t (Some x))

-- What is handed by it is sources and enough.
abbrev pub HandsTimersBy : Type 0
HandsTimersBy = (rule : Rule) → OnlyToTimeouts rule
    → (table : List (ℕ × Rule)) → HasFamily table (timers_by rule) → NestedFacts table
    → (h : List Record) (x : Record)
    → IsSteady table h → naming h x ≡ None → out_of_order table h x ≡ false
    → AreHanded (timers_by rule) (path table h) (told h) x
    (timer_handed_by rule (path table h) (told h) x)
