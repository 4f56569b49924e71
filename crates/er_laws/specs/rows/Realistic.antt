-- What the definitions say of a page as it is met. Behind each line stands the action
-- that it begins.
use Rattle.std.specs.Prelude.{[], ◌∷◌, codes}
use Rattle.er_trace.specs.declared.record.Record.TheVariants.{Parse, ParseFrame, Exec, Tick, Dcl, Load, Eload, Fire, Reply, Run, Close, On, Every, Send, Access}
use Rattle.er_trace.specs.declared.record.Kind.TheVariants as kinds
use Rattle.er_trace.specs.declared.record.Mode.TheVariants as modes
use Rattle.er_trace.specs.declared.record.Loc.TheVariants.{Var, Elem, Slot}
use Rattle.er_history.specs.Rows.{IsRow}

-- Two frames, a script of each kind, a request, an interval and a handler.
abbrev pub RealisticPage : Type 0
RealisticPage = IsRow (
    (Parse 0 1 kinds.Plain, []) ∷  -- 0
    (Parse 0 2 kinds.Sync, 0 ∷ []) ∷  -- 1
    (Exec 2, 1 ∷ []) ∷  -- 2
    (Access modes.W (Var 0 (codes "app")), []) ∷
    (Parse 0 3 kinds.Defer, 2 ∷ 1 ∷ 0 ∷ []) ∷  -- 3
    (Parse 0 4 kinds.Async, 3 ∷ 2 ∷ 1 ∷ 0 ∷ []) ∷  -- 4
    (ParseFrame 0 5 1, 4 ∷ 3 ∷ 2 ∷ 1 ∷ 0 ∷ []) ∷  -- 5
    (ParseFrame 0 6 2, 5 ∷ 4 ∷ 3 ∷ 2 ∷ 1 ∷ 0 ∷ []) ∷  -- 6
    (Parse 1 7 kinds.Plain, 5 ∷ []) ∷  -- 7
    (Exec 4, 4 ∷ []) ∷  -- 8
    (Access modes.R (Var 0 (codes "app")), []) ∷
    (Access modes.W (Var 0 (codes "count")), []) ∷
    (Parse 2 8 kinds.Inline, 6 ∷ []) ∷  -- 9
    (Exec 8, 9 ∷ []) ∷  -- 10
    (Access modes.W (Var 2 (codes "ready")), []) ∷
    (Parse 0 9 kinds.Plain, 6 ∷ 5 ∷ 4 ∷ 3 ∷ 2 ∷ 1 ∷ 0 ∷ []) ∷  -- 11
    (Access modes.W (Elem 0 (codes "buy")), []) ∷
    (Exec 3, 11 ∷ 6 ∷ 5 ∷ 4 ∷ 3 ∷ 2 ∷ 1 ∷ 0 ∷ []) ∷  -- 12
    (Access modes.R (Elem 0 (codes "buy")), []) ∷
    (On 1, []) ∷
    (Access modes.W (Slot 9 (codes "click")), []) ∷
    (Send 1, []) ∷
    (On 2, []) ∷
    (Every 1 50, []) ∷
    (Dcl 1 0, 12 ∷ 11 ∷ 6 ∷ 5 ∷ 4 ∷ 3 ∷ 2 ∷ 1 ∷ 0 ∷ []) ∷  -- 13
    (Close 1, 13 ∷ []) ∷  -- 14
    (Dcl 2 1, 7 ∷ 5 ∷ []) ∷  -- 15
    (Close 2, 15 ∷ []) ∷  -- 16
    (Load 3 1, 16 ∷ 15 ∷ 7 ∷ 5 ∷ []) ∷  -- 17
    (Close 3, 17 ∷ []) ∷  -- 18
    (Eload 4 5, 18 ∷ 5 ∷ []) ∷  -- 19
    (Close 4, 19 ∷ []) ∷  -- 20
    (Dcl 5 2, 10 ∷ 9 ∷ 6 ∷ []) ∷  -- 21
    (Close 5, 21 ∷ []) ∷  -- 22
    (Load 6 2, 22 ∷ 21 ∷ 10 ∷ 9 ∷ 6 ∷ []) ∷  -- 23
    (Close 6, 23 ∷ []) ∷  -- 24
    (Eload 7 6, 24 ∷ 6 ∷ []) ∷  -- 25
    (Close 7, 25 ∷ []) ∷  -- 26
    (Tick 1, 12 ∷ []) ∷  -- 27
    (Access modes.R (Var 0 (codes "count")), []) ∷
    (Reply 8 1, 12 ∷ []) ∷  -- 28
    (Run 8 0 2, 28 ∷ 12 ∷ []) ∷  -- 29
    (Access modes.W (Var 0 (codes "count")), []) ∷
    (Close 8, 29 ∷ 28 ∷ []) ∷  -- 30
    (Load 9 0, 26 ∷ 20 ∷ 14 ∷ 13 ∷ 12 ∷ 11 ∷ 8 ∷ 6 ∷ 5 ∷ 4 ∷ 3 ∷ 2 ∷ 1 ∷ 0 ∷ []) ∷  -- 31
    (Close 9, 31 ∷ []) ∷  -- 32
    (Fire 10 9 (codes "click"), 11 ∷ []) ∷  -- 33
    (Access modes.R (Slot 9 (codes "click")), []) ∷
    (Run 10 0 1, 33 ∷ 12 ∷ []) ∷  -- 34
    (Access modes.R (Var 0 (codes "count")), []) ∷
    (Close 10, 34 ∷ 33 ∷ []) ∷  -- 35
    (Tick 1, 27 ∷ 12 ∷ []) ∷  -- 36
    (Access modes.R (Var 0 (codes "count")), []) ∷
    [])
