-- What the definitions say, in version 2, of pages that were drawn at random and have many
-- timeouts. Behind each line stands the action that it begins.
use Rattle.std.specs.Prelude.{List, [], ◌∷◌, codes}
use Rattle.er_trace.specs.declared.record.Record.{Record}
use Rattle.er_trace.specs.declared.record.Record.TheVariants.{Parse, ParseFrame, Exec, Timer, Tick, Dcl, Load, Eload, Fire, Wfire, Reply, Inline, Run, Close, Back, New, NewFrame, On, Set, Every, Send}
use Rattle.er_trace.specs.declared.record.Kind.TheVariants as kinds
use Rattle.er_trace.specs.declared.record.NewKind.TheVariants as new_kinds
use Rattle.er_trace.specs.declared.version.Version.TheVariants.{Two}
use Rattle.er_history.specs.Rows.{IsRowOf}

abbrev pub FirstTimers : Type 0
FirstTimers = IsRowOf Two (
    (Parse 0 1 kinds.Defer, []) ∷  -- 0
    (Set 1 0, []) ∷
    (Timer 1, 0 ∷ []) ∷  -- 1
    (Inline 1 1 (codes "y"), 1 ∷ 0 ∷ []) ∷  -- 2
    (Set 2 2, []) ∷
    (Close 1, 2 ∷ []) ∷  -- 3
    (NewFrame 0 2 1, []) ∷
    (Back 1, 3 ∷ 1 ∷ 0 ∷ []) ∷  -- 4
    (Every 1 8, []) ∷
    (Set 3 3, []) ∷
    (Timer 2, 4 ∷ 2 ∷ 1 ∷ []) ∷  -- 5
    (Timer 3, 5 ∷ 4 ∷ 1 ∷ []) ∷  -- 6
    (Parse 0 3 kinds.Async, 0 ∷ []) ∷  -- 7
    (Fire 2 3 (codes "click"), 7 ∷ []) ∷  -- 8
    (Set 4 3, []) ∷
    (New 0 4 new_kinds.Plain, []) ∷
    (Set 5 2, []) ∷
    (Close 2, 8 ∷ []) ∷  -- 9
    (Timer 5, 8 ∷ 4 ∷ 1 ∷ []) ∷  -- 10
    (Parse 0 5 kinds.Sync, 7 ∷ 0 ∷ []) ∷  -- 11
    (Timer 4, 8 ∷ 4 ∷ 1 ∷ []) ∷  -- 12
    (Parse 0 6 kinds.Sync, 11 ∷ 7 ∷ 0 ∷ []) ∷  -- 13
    (Parse 0 7 kinds.Async, 13 ∷ 11 ∷ 7 ∷ 0 ∷ []) ∷  -- 14
    (Set 6 3, []) ∷
    (Timer 6, 14 ∷ 4 ∷ 1 ∷ []) ∷  -- 15
    (Dcl 3 0, 14 ∷ 13 ∷ 11 ∷ 7 ∷ 0 ∷ []) ∷  -- 16
    (Set 7 1, []) ∷
    (Close 3, 16 ∷ []) ∷  -- 17
    (Set 8 3, []) ∷
    (Timer 7, 16 ∷ 4 ∷ 1 ∷ []) ∷  -- 18
    (Timer 8, 18 ∷ 17 ∷ 15 ∷ 4 ∷ 1 ∷ []) ∷  -- 19
    (Set 9 1, []) ∷
    (Tick 1, 4 ∷ 1 ∷ []) ∷  -- 20
    (Timer 9, 19 ∷ 18 ∷ 4 ∷ 1 ∷ []) ∷  -- 21
    [])

abbrev pub SecondTimers : Type 0
SecondTimers = IsRowOf Two (
    (ParseFrame 0 1 1, []) ∷  -- 0
    (ParseFrame 0 2 2, 0 ∷ []) ∷  -- 1
    (Every 1 1, []) ∷
    (Eload 1 1, 0 ∷ []) ∷  -- 2
    (Close 1, 2 ∷ []) ∷  -- 3
    (Set 1 1, []) ∷
    (Timer 1, 3 ∷ []) ∷  -- 4
    (Set 2 3, []) ∷
    (Inline 4 2 (codes "y"), 4 ∷ 1 ∷ []) ∷  -- 5
    (Set 3 3, []) ∷
    (Close 4, 5 ∷ []) ∷  -- 6
    (NewFrame 0 3 3, []) ∷
    (Back 4, 6 ∷ 4 ∷ 3 ∷ []) ∷  -- 7
    (Timer 2, 7 ∷ 4 ∷ []) ∷  -- 8
    (Eload 5 2, 1 ∷ []) ∷  -- 9
    (Close 5, 9 ∷ []) ∷  -- 10
    (Timer 3, 8 ∷ 7 ∷ 5 ∷ 4 ∷ []) ∷  -- 11
    (Set 4 2, []) ∷
    (Set 5 3, []) ∷
    (ParseFrame 0 4 4, 1 ∷ 0 ∷ []) ∷  -- 12
    (Set 6 1, []) ∷
    (Timer 6, 12 ∷ []) ∷  -- 13
    (Timer 4, 11 ∷ 7 ∷ 4 ∷ []) ∷  -- 14
    (Timer 5, 14 ∷ 11 ∷ 8 ∷ 7 ∷ 4 ∷ []) ∷  -- 15
    (Tick 1, 1 ∷ []) ∷  -- 16
    (Tick 1, 16 ∷ 1 ∷ []) ∷  -- 17
    (ParseFrame 0 5 5, 12 ∷ 1 ∷ 0 ∷ []) ∷  -- 18
    (Tick 1, 17 ∷ 16 ∷ 1 ∷ []) ∷  -- 19
    (Set 7 3, []) ∷
    (Timer 7, 19 ∷ []) ∷  -- 20
    (Tick 1, 19 ∷ 17 ∷ 16 ∷ 1 ∷ []) ∷  -- 21
    (On 1, []) ∷
    (Set 8 2, []) ∷
    (On 2, []) ∷
    [])

abbrev pub ThirdTimers : Type 0
ThirdTimers = IsRowOf Two (
    (ParseFrame 0 1 1, []) ∷  -- 0
    (Set 1 1, []) ∷
    (Timer 1, 0 ∷ []) ∷  -- 1
    (Set 2 0, []) ∷
    (Set 3 3, []) ∷
    (Parse 0 2 kinds.Defer, 0 ∷ []) ∷  -- 2
    (Timer 3, 1 ∷ []) ∷  -- 3
    (Every 1 7, []) ∷
    (Timer 2, 1 ∷ []) ∷  -- 4
    (Exec 2, 2 ∷ 0 ∷ []) ∷  -- 5
    (Set 4 2, []) ∷
    (On 1, []) ∷
    (Set 5 1, []) ∷
    (Timer 5, 5 ∷ 1 ∷ []) ∷  -- 6
    (Send 1, []) ∷
    (Tick 1, 3 ∷ []) ∷  -- 7
    (Fire 1 1 (codes "click"), 0 ∷ []) ∷  -- 8
    (Close 1, 8 ∷ []) ∷  -- 9
    (Send 2, []) ∷
    (Send 3, []) ∷
    (On 2, []) ∷
    (Set 6 2, []) ∷
    (Inline 2 1 (codes "click"), 9 ∷ 0 ∷ []) ∷  -- 10
    (Close 2, 10 ∷ []) ∷  -- 11
    (Back 2, 11 ∷ 9 ∷ 8 ∷ []) ∷  -- 12
    (Timer 6, 12 ∷ 9 ∷ 1 ∷ []) ∷  -- 13
    (Timer 4, 5 ∷ 1 ∷ []) ∷  -- 14
    (On 3, []) ∷
    (Set 7 0, []) ∷
    (Timer 7, 14 ∷ 4 ∷ []) ∷  -- 15
    (Set 8 0, []) ∷
    (Timer 8, 15 ∷ 4 ∷ []) ∷  -- 16
    (Set 9 0, []) ∷
    (On 4, []) ∷
    [])

abbrev pub FourthTimers : Type 0
FourthTimers = IsRowOf Two (
    (Parse 0 1 kinds.Inline, []) ∷  -- 0
    (Parse 0 2 kinds.Defer, 0 ∷ []) ∷  -- 1
    (ParseFrame 0 3 1, 1 ∷ 0 ∷ []) ∷  -- 2
    (Exec 2, 2 ∷ 1 ∷ 0 ∷ []) ∷  -- 3
    (Set 1 0, []) ∷
    (On 1, []) ∷
    (Timer 1, 3 ∷ []) ∷  -- 4
    (Parse 1 7 kinds.Inline, 2 ∷ []) ∷  -- 5
    (Set 2 2, []) ∷
    (Timer 2, 5 ∷ []) ∷  -- 6
    (Inline 2 2 (codes "x"), 6 ∷ 1 ∷ []) ∷  -- 7
    (On 2, []) ∷
    (Every 1 1, []) ∷
    (Every 2 3, []) ∷
    (Close 2, 7 ∷ []) ∷  -- 8
    (New 1 8 new_kinds.Image, []) ∷
    (Set 3 2, []) ∷
    (Set 4 3, []) ∷
    (Back 2, 8 ∷ 6 ∷ 5 ∷ []) ∷  -- 9
    (Tick 2, 7 ∷ []) ∷  -- 10
    (Tick 2, 10 ∷ 7 ∷ []) ∷  -- 11
    (Timer 3, 9 ∷ 8 ∷ 6 ∷ []) ∷  -- 12
    (Timer 4, 12 ∷ 9 ∷ 8 ∷ 6 ∷ []) ∷  -- 13
    (Exec 7, 5 ∷ []) ∷  -- 14
    (Eload 3 7, 14 ∷ 5 ∷ []) ∷  -- 15
    (Close 3, 15 ∷ []) ∷  -- 16
    (Inline 4 2 (codes "x"), 16 ∷ 8 ∷ 1 ∷ []) ∷  -- 17
    (Set 5 3, []) ∷
    (Close 4, 17 ∷ []) ∷  -- 18
    (On 3, []) ∷
    (Inline 6 1 (codes "y"), 18 ∷ 0 ∷ []) ∷  -- 19
    (Close 6, 19 ∷ []) ∷  -- 20
    (Back 6, 20 ∷ 18 ∷ 17 ∷ []) ∷  -- 21
    (Set 6 2, []) ∷
    [])
