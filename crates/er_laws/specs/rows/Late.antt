-- Which records are out of order: a list for each case, with records beside it that are in order.
use Rattle.std.specs.Prelude.{◌≡◌, true, false, List, [], ◌∷◌, ◌++◌, map, reverse, codes, None}
use Rattle.er_trace.specs.declared.record.Record.{Record}
use Rattle.er_trace.specs.declared.record.Record.TheVariants.{Parse, ParseFrame, Exec, Dcl, Load, Eload, Fire, Run, Close, New, On}
use Rattle.er_trace.specs.declared.record.Kind.TheVariants as kinds
use Rattle.er_trace.specs.declared.record.NewKind.TheVariants as new_kinds
use Rattle.er_trace.specs.declared.version.Version.TheVariants.{One}
use Rattle.er_history.specs.Rules as tables
use Rattle.er_history.specs.Naming.{naming}
use Rattle.er_history.specs.Sound.{out_of_order}

-- After these records, oldest first, naming accepts each of the others; the late ones are out of
-- order, and those in order are not.
pub record Judges (before late ordered : List Record) : Type 0 where
  pub named : map (naming (reverse before)) (late ++ ordered) ≡ map (λ x. None) (late ++ ordered)
  pub late_ones : map (out_of_order (tables.rules One) (reverse before)) late ≡ map (λ x. true) late
  pub in_order : map (out_of_order (tables.rules One) (reverse before)) ordered
      ≡ map (λ x. false) ordered

-- Rule 5: a parse step after a deferred script of its document has run.
abbrev pub StepAfterDeferredScript : Type 0
StepAfterDeferredScript = Judges
    (Parse 0 1 kinds.Defer ∷ ParseFrame 0 2 1 ∷ Exec 1 ∷ [])
    (Parse 0 3 kinds.Plain ∷ ParseFrame 0 3 2 ∷ [])
    (Parse 1 3 kinds.Plain ∷ ParseFrame 1 3 2 ∷ [])

-- Rule 8: a parse step after DOMContentLoaded of its document has begun.
abbrev pub StepAfterDcl : Type 0
StepAfterDcl = Judges
    (ParseFrame 0 1 1 ∷ Dcl 1 0 ∷ Close 1 ∷ [])
    (Parse 0 2 kinds.Plain ∷ ParseFrame 0 2 2 ∷ [])
    (Parse 1 2 kinds.Plain ∷ [])

-- Rule 10: a parse step after load of its document has begun.
abbrev pub StepAfterLoad : Type 0
StepAfterLoad = Judges
    (ParseFrame 0 1 1 ∷ Load 1 0 ∷ Close 1 ∷ [])
    (Parse 0 2 kinds.Plain ∷ ParseFrame 0 2 2 ∷ [])
    (Parse 1 2 kinds.Plain ∷ [])

-- Rule 4: a blocking script after a later parse step of its document.
abbrev pub BlockingAfterStep : Type 0
BlockingAfterStep = Judges
    (ParseFrame 0 1 1 ∷ Parse 1 2 kinds.Inline ∷ Parse 0 3 kinds.Sync ∷ Parse 0 4 kinds.Async
    ∷ Parse 0 5 kinds.Plain ∷ [])
    (Exec 3 ∷ [])
    (Exec 2 ∷ Exec 4 ∷ [])

-- Rule 6: a blocking script after a deferred script of its document has run.
abbrev pub BlockingAfterDeferred : Type 0
BlockingAfterDeferred = Judges
    (Parse 0 1 kinds.Defer ∷ ParseFrame 0 2 1 ∷ Parse 1 3 kinds.Sync ∷ Parse 0 4 kinds.Sync ∷ Exec 1
    ∷ [])
    (Exec 4 ∷ [])
    (Exec 3 ∷ [])

-- Rule 7: a deferred script after one of its document that was parsed after it.
abbrev pub DeferredExchanged : Type 0
DeferredExchanged = Judges
    (Parse 0 1 kinds.Defer ∷ Parse 0 2 kinds.Defer ∷ Parse 0 3 kinds.Defer ∷ ParseFrame 0 4 1
    ∷ Parse 1 5 kinds.Defer ∷ Exec 2 ∷ [])
    (Exec 1 ∷ [])
    (Exec 3 ∷ Exec 5 ∷ [])

-- Rule 8: a blocking or deferred script after DOMContentLoaded of its document has begun.
abbrev pub ScriptAfterDcl : Type 0
ScriptAfterDcl = Judges
    (Parse 0 1 kinds.Defer ∷ Parse 0 2 kinds.Async ∷ Parse 0 3 kinds.Sync ∷ Dcl 1 0 ∷ Close 1 ∷ [])
    (Exec 1 ∷ Exec 3 ∷ [])
    (Exec 2 ∷ [])

-- Rule 10: a static script after load of its document has begun.
abbrev pub ScriptAfterLoad : Type 0
ScriptAfterLoad = Judges
    (Parse 0 1 kinds.Inline ∷ Exec 1 ∷ New 0 2 new_kinds.Async ∷ ParseFrame 0 3 1
    ∷ Parse 1 4 kinds.Async ∷ Parse 0 5 kinds.Async ∷ Load 1 0 ∷ Close 1 ∷ [])
    (Exec 5 ∷ [])
    (Exec 2 ∷ Exec 4 ∷ [])

-- Rule 12: a script after its own first load event has begun.
abbrev pub ScriptAfterItsLoad : Type 0
ScriptAfterItsLoad = Judges
    (Parse 0 1 kinds.Async ∷ Parse 0 2 kinds.Async ∷ Eload 1 1 ∷ Close 1 ∷ [])
    (Exec 1 ∷ [])
    (Exec 2 ∷ [])

-- Rule 9: DOMContentLoaded after load of the document has begun.
abbrev pub DclAfterLoad : Type 0
DclAfterLoad = Judges
    (ParseFrame 0 1 1 ∷ Load 1 0 ∷ Close 1 ∷ [])
    (Dcl 2 0 ∷ [])
    (Dcl 2 1 ∷ [])

-- Rule 16: a handler after one of a greater group of its dispatch.
abbrev pub HandlerAfterGreaterGroup : Type 0
HandlerAfterGreaterGroup = Judges
    (Parse 0 1 kinds.Plain ∷ On 1 ∷ On 2 ∷ Fire 1 1 (codes "x") ∷ Run 1 3 1 ∷ [])
    (Run 1 2 2 ∷ [])
    (Run 1 3 2 ∷ Run 1 4 2 ∷ Close 1 ∷ [])
