-- Which dispatches are not finished. Lists stand newest first.
use Rattle.std.specs.Prelude.{◌≡◌, ℕ, Bool, false, not, ◌==◌, if◌then◌else◌, List, [], ◌∷◌, map, filter, Option, Some, None}
use Rattle.std.specs.List.{list_any}
use Rattle.er_trace.specs.declared.record.Record.{Record}
use Rattle.er_trace.specs.declared.record.Record.TheVariants.{Dcl, Load, Eload, Fire, Wfire, Reply, Inline, Close, Back}
use Rattle.er_history.specs.History.{Open, told}
use Rattle.er_history.specs.Naming.{IsNamed}

-- the number of the dispatch that a record begins
abbrev pub dispatch_in : Record → Option ℕ
dispatch_in (Dcl p d) = Some p
dispatch_in (Load p d) = Some p
dispatch_in (Eload p e) = Some p
dispatch_in (Fire p e n) = Some p
dispatch_in (Wfire p d n) = Some p
dispatch_in (Reply p r) = Some p
dispatch_in (Inline p e n) = Some p
dispatch_in _ = None

abbrev pub put : Option ℕ → List ℕ → List ℕ
put None numbers = numbers
put (Some p) numbers = p ∷ numbers

-- the numbers of the dispatches that have begun
abbrev pub dispatches_begun : List Record → List ℕ
dispatches_begun [] = []
dispatches_begun (x ∷ h) = put (dispatch_in x) (dispatches_begun h)

abbrev pub begins_inline : ℕ → Record → Bool
begins_inline number (Inline p e n) = p == number
begins_inline number _ = false

abbrev pub begins_close : ℕ → Record → Bool
begins_close number (Close p) = p == number
begins_close number _ = false

abbrev pub begins_back : ℕ → Record → Bool
begins_back number (Back p) = p == number
begins_back number _ = false

-- an inline dispatch is finished by its `back`, another by its close
abbrev pub is_finished : List Record → ℕ → Bool
is_finished h p =
    if list_any (begins_inline p) h then list_any (begins_back p) h else list_any (begins_close p) h

-- Where naming refuses no record, the stack has the numbers of the dispatches that have begun and
-- are not finished, the newest on top.
abbrev pub StackIsUnfinished : Type 0
StackIsUnfinished = (h : List Record) → IsNamed h
    → map (λ (o : Open). o.dispatch.number) (told h).stack
    ≡ filter (λ p. not (is_finished h p)) (dispatches_begun h)
