-- Which records are out of order, and which lists are sound and legal, by a table of rules. Lists
-- of records stand newest first.
use Rattle.std.specs.Prelude.{◌≡◌, ℕ, Bool, false, ◌&&◌, if◌then◌else◌, List, [], ◌∷◌, Option, Some, None}
use Rattle.std.specs.List.{list_any}
use Rattle.er_text.specs.declared.causes.Cause.{Cause}
use Rattle.er_text.specs.declared.causes.Cause.TheVariants.{OutOfOrder}
use Rattle.er_trace.specs.declared.record.Record.{Record}
use Rattle.er_trace.specs.declared.record.Record.TheVariants.{Back}
use Rattle.er_history.specs.History.{History, Action, begins, event_begun, or_else, told}
use Rattle.er_history.specs.Rules.{Rule, any_holds}
use Rattle.er_history.specs.Edges.{path}
use Rattle.er_history.specs.Naming.{naming, room, IsNamed}

-- One of the rules holds from the event that the record begins to one that has begun.
-- `back` begins no event.
abbrev pub leads_back : List (ℕ × Rule) → (ℕ → ℕ → Bool) → History → Record → Bool
leads_back rules joined h (Back p) = false
leads_back rules joined h x = begins x
    && list_any (λ (i : Action). any_holds rules joined (event_begun h x) i.event) h.actions

abbrev pub out_of_order : List (ℕ × Rule) → List Record → Record → Bool
out_of_order table h x = leads_back table (path table h) (told h) x

-- the first cause for which the record is refused after the earlier ones: by naming and nesting, by
-- order, or by room
abbrev pub cause : List (ℕ × Rule) → List Record → Record → Option Cause
cause table h x =
    or_else (naming h x) (if out_of_order table h x then Some OutOfOrder else room h x)

-- each record has no cause after those before it
abbrev pub IsSound : List (ℕ × Rule) → List Record → Type 0
IsSound table [] = Unit {0}
IsSound table (x ∷ h) = (cause table h x ≡ None) × IsSound table h

-- Naming refuses no record of a sound list.
abbrev pub SoundListsAreNamed : Type 0
SoundListsAreNamed = (table : List (ℕ × Rule)) (h : List Record) → IsSound table h → IsNamed h

-- By these rules no record is out of order, after any list.
abbrev pub NeverLeadBack : List (ℕ × Rule) → Type 0
NeverLeadBack rules = (joined : ℕ → ℕ → Bool) (h : List Record) (x : Record)
    → leads_back rules joined (told h) x ≡ false
