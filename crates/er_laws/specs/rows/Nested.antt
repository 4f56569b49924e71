-- What the definitions say where inline dispatches are nested. Behind each line stands the action
-- that it begins.
use Rattle.std.specs.Prelude.{[], ◌∷◌, codes}
use Rattle.er_trace.specs.declared.record.Record.TheVariants.{Parse, Exec, Timer, Tick, Fire, Inline, Run, Close, Back, New, On, Set, Every, Access}
use Rattle.er_trace.specs.declared.record.Kind.TheVariants as kinds
use Rattle.er_trace.specs.declared.record.NewKind.TheVariants as new_kinds
use Rattle.er_trace.specs.declared.record.Mode.TheVariants as modes
use Rattle.er_trace.specs.declared.record.Loc.TheVariants.{Var}
use Rattle.er_history.specs.Rows.{IsRow}

-- A script calls an inline dispatch, and goes on as action 5, to which no edge leads from
-- action 2, the begin.
abbrev pub SuspendedScript : Type 0
SuspendedScript = IsRow (
    (Parse 0 1 kinds.Inline, []) ∷  -- 0
    (Exec 1, 0 ∷ []) ∷  -- 1
    (Access modes.W (Var 0 (codes "x")), []) ∷
    (On 7, []) ∷
    (New 0 2 new_kinds.Plain, []) ∷
    (Inline 1 2 (codes "click"), 1 ∷ []) ∷  -- 2
    (Run 1 0 7, 2 ∷ 1 ∷ []) ∷  -- 3
    (Access modes.R (Var 0 (codes "x")), []) ∷
    (Close 1, 3 ∷ 2 ∷ []) ∷  -- 4
    (Back 1, 4 ∷ 1 ∷ 0 ∷ []) ∷  -- 5
    (Access modes.W (Var 0 (codes "x")), []) ∷
    [])

-- The same, cut short at the begin.
abbrev pub CutShort : Type 0
CutShort = IsRow (
    (Parse 0 1 kinds.Inline, []) ∷  -- 0
    (Exec 1, 0 ∷ []) ∷  -- 1
    (Access modes.W (Var 0 (codes "x")), []) ∷
    (On 7, []) ∷
    (New 0 2 new_kinds.Plain, []) ∷
    (Inline 1 2 (codes "click"), 1 ∷ []) ∷  -- 2
    [])

-- A handler of an inline dispatch calls another, whose handler calls a third.
abbrev pub InAHandler : Type 0
InAHandler = IsRow (
    (Parse 0 1 kinds.Inline, []) ∷  -- 0
    (Exec 1, 0 ∷ []) ∷  -- 1
    (On 1, []) ∷
    (On 2, []) ∷
    (On 3, []) ∷
    (Inline 1 1 (codes "a"), 1 ∷ 0 ∷ []) ∷  -- 2
    (Run 1 0 1, 2 ∷ 1 ∷ []) ∷  -- 3
    (Inline 2 1 (codes "b"), 3 ∷ 0 ∷ []) ∷  -- 4
    (Run 2 0 2, 4 ∷ 1 ∷ []) ∷  -- 5
    (Inline 3 1 (codes "c"), 5 ∷ 0 ∷ []) ∷  -- 6
    (Run 3 0 3, 6 ∷ 1 ∷ []) ∷  -- 7
    (Close 3, 7 ∷ 6 ∷ []) ∷  -- 8
    (Back 3, 8 ∷ 5 ∷ 4 ∷ 1 ∷ []) ∷  -- 9
    (Run 2 0 3, 4 ∷ 1 ∷ []) ∷  -- 10
    (Close 2, 10 ∷ 9 ∷ 5 ∷ 4 ∷ []) ∷  -- 11
    (Back 2, 11 ∷ 3 ∷ 2 ∷ 1 ∷ []) ∷  -- 12
    (Run 1 0 2, 2 ∷ 1 ∷ []) ∷  -- 13
    (Run 1 1 3, 13 ∷ 12 ∷ 3 ∷ 2 ∷ 1 ∷ []) ∷  -- 14
    (Close 1, 14 ∷ 13 ∷ 12 ∷ 3 ∷ 2 ∷ []) ∷  -- 15
    (Back 1, 15 ∷ 1 ∷ 0 ∷ []) ∷  -- 16
    [])

-- The close of an inline dispatch calls another, and the close of that a third; the close of a
-- dispatch that is not inline calls two.
abbrev pub InAClose : Type 0
InAClose = IsRow (
    (Parse 0 1 kinds.Inline, []) ∷  -- 0
    (Exec 1, 0 ∷ []) ∷  -- 1
    (On 1, []) ∷
    (Inline 1 1 (codes "a"), 1 ∷ 0 ∷ []) ∷  -- 2
    (Run 1 0 1, 2 ∷ 1 ∷ []) ∷  -- 3
    (Close 1, 3 ∷ 2 ∷ []) ∷  -- 4
    (Inline 2 1 (codes "b"), 4 ∷ 0 ∷ []) ∷  -- 5
    (Close 2, 5 ∷ []) ∷  -- 6
    (Inline 3 1 (codes "c"), 6 ∷ 0 ∷ []) ∷  -- 7
    (Close 3, 7 ∷ []) ∷  -- 8
    (Back 3, 8 ∷ 6 ∷ 5 ∷ []) ∷  -- 9
    (Back 2, 9 ∷ 6 ∷ 4 ∷ 3 ∷ 2 ∷ []) ∷  -- 10
    (Back 1, 10 ∷ 4 ∷ 1 ∷ 0 ∷ []) ∷  -- 11
    (Fire 4 1 (codes "a"), 10 ∷ 4 ∷ 0 ∷ []) ∷  -- 12
    (Run 4 2 1, 12 ∷ 11 ∷ 1 ∷ []) ∷  -- 13
    (Close 4, 13 ∷ 12 ∷ []) ∷  -- 14
    (Inline 5 1 (codes "a"), 14 ∷ 10 ∷ 4 ∷ 0 ∷ []) ∷  -- 15
    (Close 5, 15 ∷ []) ∷  -- 16
    (Back 5, 16 ∷ 14 ∷ 13 ∷ 12 ∷ []) ∷  -- 17
    (Inline 6 1 (codes "b"), 17 ∷ 9 ∷ 6 ∷ 0 ∷ []) ∷  -- 18
    (Run 6 0 1, 18 ∷ 11 ∷ 1 ∷ []) ∷  -- 19
    (Close 6, 19 ∷ 18 ∷ []) ∷  -- 20
    (Back 6, 20 ∷ 17 ∷ 14 ∷ 13 ∷ 12 ∷ []) ∷  -- 21
    (Fire 7 1 (codes "a"), 21 ∷ 17 ∷ 16 ∷ 14 ∷ 10 ∷ 4 ∷ 0 ∷ []) ∷  -- 22
    (Close 7, 22 ∷ []) ∷  -- 23
    (Fire 8 1 (codes "b"), 20 ∷ 9 ∷ 6 ∷ 0 ∷ []) ∷  -- 24
    (Close 8, 24 ∷ []) ∷  -- 25
    [])

-- A timeout and a tick call inline dispatches at one element, and timeouts are set in
-- pieces of one event.
abbrev pub InCallbacks : Type 0
InCallbacks = IsRow (
    (Parse 0 1 kinds.Plain, []) ∷  -- 0
    (Parse 0 2 kinds.Inline, 0 ∷ []) ∷  -- 1
    (Exec 2, 1 ∷ []) ∷  -- 2
    (On 1, []) ∷
    (Set 1 5, []) ∷
    (Inline 1 1 (codes "x"), 2 ∷ 0 ∷ []) ∷  -- 3
    (Set 2 5, []) ∷
    (Run 1 0 1, 3 ∷ 2 ∷ []) ∷  -- 4
    (Set 3 4, []) ∷
    (Close 1, 4 ∷ 3 ∷ []) ∷  -- 5
    (Back 1, 5 ∷ 2 ∷ 1 ∷ []) ∷  -- 6
    (Set 4 5, []) ∷
    (Every 1 9, []) ∷
    (Timer 1, 6 ∷ 2 ∷ []) ∷  -- 7
    (Inline 2 1 (codes "x"), 7 ∷ 5 ∷ 0 ∷ []) ∷  -- 8
    (Close 2, 8 ∷ []) ∷  -- 9
    (Back 2, 9 ∷ 7 ∷ 6 ∷ 2 ∷ []) ∷  -- 10
    (Timer 2, 3 ∷ []) ∷  -- 11
    (Timer 3, 4 ∷ []) ∷  -- 12
    (Timer 4, 10 ∷ 7 ∷ 6 ∷ 2 ∷ []) ∷  -- 13
    (Tick 1, 6 ∷ 2 ∷ []) ∷  -- 14
    (Inline 3 1 (codes "x"), 14 ∷ 9 ∷ 5 ∷ 0 ∷ []) ∷  -- 15
    (Run 3 0 1, 15 ∷ 6 ∷ 2 ∷ []) ∷  -- 16
    (Close 3, 16 ∷ 15 ∷ []) ∷  -- 17
    (Back 3, 17 ∷ 14 ∷ 6 ∷ 2 ∷ []) ∷  -- 18
    (Tick 1, 18 ∷ 14 ∷ 6 ∷ 2 ∷ []) ∷  -- 19
    (Set 5 0, []) ∷
    (Inline 4 1 (codes "x"), 19 ∷ 17 ∷ 9 ∷ 5 ∷ 0 ∷ []) ∷  -- 20
    (Close 4, 20 ∷ []) ∷  -- 21
    (Back 4, 21 ∷ 19 ∷ 18 ∷ 14 ∷ 6 ∷ 2 ∷ []) ∷  -- 22
    (Timer 5, 22 ∷ 19 ∷ []) ∷  -- 23
    [])
