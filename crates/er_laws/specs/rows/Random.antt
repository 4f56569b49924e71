-- What the definitions say of pages that were drawn at random, and of the records that may come
-- next. Behind each line stands the action that it begins.
use Rattle.std.specs.Prelude.{◌≡◌, map, List, [], ◌∷◌, codes, Option, Some, None}
use Rattle.er_text.specs.declared.causes.Cause.{Cause}
use Rattle.er_text.specs.declared.causes.Cause.TheVariants.{Unknown, Again, NotScript, Misplaced, OutOfOrder}
use Rattle.er_trace.specs.declared.record.Record.{Record}
use Rattle.er_trace.specs.declared.record.Record.TheVariants.{Parse, ParseFrame, Exec, Timer, Tick, Dcl, Load, Eload, Fire, Wfire, Reply, Inline, Run, Close, Back, New, NewFrame, On, Set, Every, Send, Access}
use Rattle.er_trace.specs.declared.record.Kind.TheVariants as kinds
use Rattle.er_trace.specs.declared.record.NewKind.TheVariants as new_kinds
use Rattle.er_trace.specs.declared.record.Mode.TheVariants as modes
use Rattle.er_trace.specs.declared.record.Loc.TheVariants.{Var, Elem, Slot}
use Rattle.er_trace.specs.declared.version.Version.TheVariants.{One}
use Rattle.er_history.specs.Rules as tables
use Rattle.er_history.specs.Sound as sound
use Rattle.er_history.specs.Rows.{Line, records_in, IsRow}

-- A row, and the cause of each record that may come behind it.
pub record IsRowBefore (lines : List Line) (nexts : List (Record × Option Cause)) : Type 0 where
  pub row : IsRow lines
  pub next :
      map (λ (n : Record × Option Cause).
      sound.cause (tables.rules One) (records_in lines) n.0) nexts
      ≡ map (λ (n : Record × Option Cause). n.1) nexts

abbrev pub FirstPage : Type 0
FirstPage = IsRowBefore (
    (ParseFrame 0 1 1, []) ∷  -- 0
    (Parse 0 2 kinds.Sync, 0 ∷ []) ∷  -- 1
    (Exec 2, 1 ∷ []) ∷  -- 2
    (Inline 1 2 (codes "click"), 2 ∷ 1 ∷ []) ∷  -- 3
    (Close 1, 3 ∷ []) ∷  -- 4
    (On 1, []) ∷
    (NewFrame 0 3 2, []) ∷
    (Set 1 3, []) ∷
    (Back 1, 4 ∷ 2 ∷ 1 ∷ []) ∷  -- 5
    (Parse 0 4 kinds.Inline, 5 ∷ 2 ∷ 1 ∷ 0 ∷ []) ∷  -- 6
    (Timer 1, 4 ∷ []) ∷  -- 7
    (Send 1, []) ∷
    (Exec 4, 6 ∷ []) ∷  -- 8
    (Fire 2 3 (codes "x"), 4 ∷ []) ∷  -- 9
    (Close 2, 9 ∷ []) ∷  -- 10
    (Parse 0 5 kinds.Defer, 8 ∷ 6 ∷ 5 ∷ 2 ∷ 1 ∷ 0 ∷ []) ∷  -- 11
    (Dcl 3 0, 11 ∷ 8 ∷ 6 ∷ 5 ∷ 2 ∷ 1 ∷ 0 ∷ []) ∷  -- 12
    (Send 2, []) ∷
    (Close 3, 12 ∷ []) ∷  -- 13
    (Fire 4 2 (codes "click"), 4 ∷ 1 ∷ []) ∷  -- 14
    (Close 4, 14 ∷ []) ∷  -- 15
    (Eload 5 4, 8 ∷ 6 ∷ []) ∷  -- 16
    (New 0 6 new_kinds.Plain, []) ∷
    (Close 5, 16 ∷ []) ∷  -- 17
    (Set 2 1, []) ∷
    (Send 3, []) ∷
    (Inline 6 3 (codes "x"), 17 ∷ 10 ∷ 4 ∷ []) ∷  -- 18
    (Close 6, 18 ∷ []) ∷  -- 19
    (On 2, []) ∷
    (Inline 7 3 (codes "x"), 19 ∷ 10 ∷ 4 ∷ []) ∷  -- 20
    [])
    (
    (Back 7, Some Misplaced) ∷
    (Inline 4 2 (codes "x"), Some Again) ∷
    (Dcl 1 0, Some Again) ∷
    (On 5, None) ∷
    (Close 7, None) ∷
    (Timer 3, Some Unknown) ∷
    (Inline 11 1 (codes "click"), Some Misplaced) ∷
    (Dcl 1 3, Some Unknown) ∷
    [])

abbrev pub SecondPage : Type 0
SecondPage = IsRowBefore (
    (Parse 0 1 kinds.Sync, []) ∷  -- 0
    (Access modes.R (Var 1 (codes "click")), []) ∷
    (Eload 1 1, 0 ∷ []) ∷  -- 1
    (Close 1, 1 ∷ []) ∷  -- 2
    (Load 2 0, 2 ∷ 0 ∷ []) ∷  -- 3
    (Close 2, 3 ∷ []) ∷  -- 4
    (Set 1 0, []) ∷
    (Send 1, []) ∷
    (On 1, []) ∷
    (On 2, []) ∷
    (Fire 3 1 (codes "z"), 0 ∷ []) ∷  -- 5
    (Every 1 5, []) ∷
    (Every 2 1, []) ∷
    (Close 3, 5 ∷ []) ∷  -- 6
    (Reply 4 1, 4 ∷ []) ∷  -- 7
    (Every 3 6, []) ∷
    (Every 4 3, []) ∷
    (Close 4, 7 ∷ []) ∷  -- 8
    (Timer 1, 4 ∷ []) ∷  -- 9
    (Tick 4, 7 ∷ []) ∷  -- 10
    (Tick 1, 5 ∷ []) ∷  -- 11
    (Set 2 3, []) ∷
    (Reply 5 1, 8 ∷ 4 ∷ []) ∷  -- 12
    (Set 3 3, []) ∷
    (Close 5, 12 ∷ []) ∷  -- 13
    (Set 4 1, []) ∷
    (Every 5 1, []) ∷
    (Set 5 2, []) ∷
    (Set 6 0, []) ∷
    (Send 2, []) ∷
    [])
    (
    (Every 4 5, Some Again) ∷
    (Set 7 1, None) ∷
    (Tick 1, None) ∷
    (Exec 1, Some OutOfOrder) ∷
    (Reply 2 3, Some Unknown) ∷
    (Set 4 5, Some Again) ∷
    (Parse 0 2 kinds.Sync, Some OutOfOrder) ∷
    (Parse 0 3 kinds.Inline, Some OutOfOrder) ∷
    [])

abbrev pub ThirdPage : Type 0
ThirdPage = IsRowBefore (
    (Parse 0 1 kinds.Plain, []) ∷  -- 0
    (Parse 0 2 kinds.Sync, 0 ∷ []) ∷  -- 1
    (Exec 2, 1 ∷ []) ∷  -- 2
    (Parse 0 3 kinds.Async, 2 ∷ 1 ∷ 0 ∷ []) ∷  -- 3
    (Parse 0 4 kinds.Defer, 3 ∷ 2 ∷ 1 ∷ 0 ∷ []) ∷  -- 4
    (Access modes.W (Slot 1 (codes "x")), []) ∷
    (Parse 0 5 kinds.Async, 4 ∷ 3 ∷ 2 ∷ 1 ∷ 0 ∷ []) ∷  -- 5
    (On 1, []) ∷
    (NewFrame 0 6 1, []) ∷
    (Exec 3, 3 ∷ []) ∷  -- 6
    (Access modes.W (Slot 0 (codes "x")), []) ∷
    (Wfire 1 1 (codes "x"), 5 ∷ []) ∷  -- 7
    (Every 1 6, []) ∷
    (Access modes.R (Slot 1 (codes "x")), []) ∷
    (On 2, []) ∷
    (Access modes.W (Elem 1 (codes "x")), []) ∷
    (Access modes.W (Var 0 (codes "click")), []) ∷
    (On 3, []) ∷
    (Access modes.W (Slot 0 (codes "x")), []) ∷
    (Every 2 2, []) ∷
    (Close 1, 7 ∷ []) ∷  -- 8
    (Access modes.R (Var 1 (codes "x")), []) ∷
    (Every 3 8, []) ∷
    (Exec 5, 5 ∷ []) ∷  -- 9
    (Parse 0 7 kinds.Plain, 5 ∷ 4 ∷ 3 ∷ 2 ∷ 1 ∷ 0 ∷ []) ∷  -- 10
    (Exec 4, 10 ∷ 5 ∷ 4 ∷ 3 ∷ 2 ∷ 1 ∷ 0 ∷ []) ∷  -- 11
    (Inline 2 2 (codes "x"), 11 ∷ 1 ∷ []) ∷  -- 12
    (Run 2 1 1, 12 ∷ 5 ∷ []) ∷  -- 13
    (Close 2, 13 ∷ 12 ∷ []) ∷  -- 14
    (Access modes.W (Elem 1 (codes "x")), []) ∷
    [])
    (
    (On 1, Some Again) ∷
    (Access modes.R (Var 0 (codes "x")), None) ∷
    (Fire 0 0 (codes "x"), Some Unknown) ∷
    (Every 5 0, None) ∷
    (Every 1 4, Some Again) ∷
    (NewFrame 4 2 1, Some Unknown) ∷
    (Eload 4 1, Some Misplaced) ∷
    (Exec 1, Some NotScript) ∷
    [])

abbrev pub FourthPage : Type 0
FourthPage = IsRowBefore (
    (Parse 0 1 kinds.Defer, []) ∷  -- 0
    (Exec 1, 0 ∷ []) ∷  -- 1
    (Access modes.R (Var 0 (codes "x")), []) ∷
    (Dcl 1 0, 1 ∷ 0 ∷ []) ∷  -- 2
    (Close 1, 2 ∷ []) ∷  -- 3
    (Wfire 2 0 (codes "z"), []) ∷  -- 4
    (Close 2, 4 ∷ []) ∷  -- 5
    (Load 3 0, 3 ∷ 2 ∷ 1 ∷ 0 ∷ []) ∷  -- 6
    (Close 3, 6 ∷ []) ∷  -- 7
    (Inline 4 1 (codes "z"), 7 ∷ 0 ∷ []) ∷  -- 8
    (Close 4, 8 ∷ []) ∷  -- 9
    (Back 4, 9 ∷ 7 ∷ 6 ∷ []) ∷  -- 10
    (Wfire 5 0 (codes "x"), []) ∷  -- 11
    (Every 1 4, []) ∷
    (New 0 2 new_kinds.Image, []) ∷
    (Close 5, 11 ∷ []) ∷  -- 12
    (New 0 3 new_kinds.Async, []) ∷
    (Wfire 6 0 (codes "z"), 5 ∷ []) ∷  -- 13
    (Close 6, 13 ∷ []) ∷  -- 14
    (New 0 4 new_kinds.Async, []) ∷
    (Exec 3, 12 ∷ []) ∷  -- 15
    (Inline 7 1 (codes "x"), 15 ∷ 0 ∷ []) ∷  -- 16
    (Close 7, 16 ∷ []) ∷  -- 17
    (Back 7, 17 ∷ 15 ∷ 12 ∷ []) ∷  -- 18
    (Exec 4, 14 ∷ []) ∷  -- 19
    (New 0 5 new_kinds.Async, []) ∷
    (New 0 6 new_kinds.Image, []) ∷
    (Exec 5, 19 ∷ []) ∷  -- 20
    (Inline 8 1 (codes "z"), 20 ∷ 9 ∷ 0 ∷ []) ∷  -- 21
    (Every 2 8, []) ∷
    [])
    (
    (Exec 5, Some Again) ∷
    (Eload 3 4, Some Again) ∷
    (New 3 4 new_kinds.Image, Some Unknown) ∷
    (Inline 11 3 (codes "click"), Some Misplaced) ∷
    (Run 8 1 5, Some Unknown) ∷
    (Close 8, None) ∷
    (Access modes.W (Var 0 (codes "x")), None) ∷
    (Inline 17 3 (codes "z"), Some Misplaced) ∷
    [])

abbrev pub FifthPage : Type 0
FifthPage = IsRowBefore (
    (ParseFrame 0 1 1, []) ∷  -- 0
    (Set 1 2, []) ∷
    (Timer 1, 0 ∷ []) ∷  -- 1
    (Set 2 0, []) ∷
    (Timer 2, 1 ∷ []) ∷  -- 2
    (Every 1 2, []) ∷
    (Set 3 0, []) ∷
    (Set 4 0, []) ∷
    (ParseFrame 1 2 2, 0 ∷ []) ∷  -- 3
    (Every 2 0, []) ∷
    (Timer 3, 2 ∷ []) ∷  -- 4
    (Timer 4, 4 ∷ 2 ∷ []) ∷  -- 5
    (Dcl 1 1, 3 ∷ 0 ∷ []) ∷  -- 6
    (Set 5 2, []) ∷
    (Set 6 3, []) ∷
    (Set 7 3, []) ∷
    (Close 1, 6 ∷ []) ∷  -- 7
    (Fire 2 2 (codes "x"), 3 ∷ []) ∷  -- 8
    (Close 2, 8 ∷ []) ∷  -- 9
    (Set 8 1, []) ∷
    (Timer 5, 6 ∷ []) ∷  -- 10
    (Set 9 1, []) ∷
    (Fire 3 1 (codes "z"), 0 ∷ []) ∷  -- 11
    (Set 10 2, []) ∷
    (Close 3, 11 ∷ []) ∷  -- 12
    (Timer 7, 10 ∷ 6 ∷ []) ∷  -- 13
    (Set 11 1, []) ∷
    (Set 12 2, []) ∷
    (Set 13 1, []) ∷
    (Set 14 3, []) ∷
    [])
    (
    (Set 4 2, Some Again) ∷
    (Parse 1 4 kinds.Sync, Some OutOfOrder) ∷
    (ParseFrame 2 1 1, Some Again) ∷
    (Dcl 5 2, None) ∷
    (Set 20 1, None) ∷
    (Parse 1 6 kinds.Sync, Some OutOfOrder) ∷
    (Parse 1 8 kinds.Defer, Some OutOfOrder) ∷
    (Inline 2 0 (codes "x"), Some Unknown) ∷
    [])

abbrev pub SixthPage : Type 0
SixthPage = IsRowBefore (
    (Parse 0 1 kinds.Defer, []) ∷  -- 0
    (Parse 0 2 kinds.Defer, 0 ∷ []) ∷  -- 1
    (Set 1 2, []) ∷
    (Exec 1, 1 ∷ 0 ∷ []) ∷  -- 2
    (Fire 1 1 (codes "click"), 0 ∷ []) ∷  -- 3
    (On 1, []) ∷
    (Run 1 2 1, 3 ∷ []) ∷  -- 4
    (Close 1, 4 ∷ 3 ∷ []) ∷  -- 5
    (Timer 1, 1 ∷ []) ∷  -- 6
    (Access modes.W (Var 0 (codes "x")), []) ∷
    (Exec 2, 2 ∷ 1 ∷ 0 ∷ []) ∷  -- 7
    (Inline 2 1 (codes "x"), 7 ∷ 0 ∷ []) ∷  -- 8
    (Run 2 0 1, 8 ∷ 3 ∷ []) ∷  -- 9
    (Run 2 1 1, 9 ∷ 8 ∷ 3 ∷ []) ∷  -- 10
    (Run 2 1 1, 9 ∷ 8 ∷ 3 ∷ []) ∷  -- 11
    (Run 2 1 1, 9 ∷ 8 ∷ 3 ∷ []) ∷  -- 12
    (Send 1, []) ∷
    (Close 2, 12 ∷ 11 ∷ 10 ∷ 9 ∷ 8 ∷ []) ∷  -- 13
    (Back 2, 13 ∷ 7 ∷ 2 ∷ 1 ∷ 0 ∷ []) ∷  -- 14
    (Wfire 3 0 (codes "click"), []) ∷  -- 15
    (Run 3 0 1, 15 ∷ 3 ∷ []) ∷  -- 16
    (Close 3, 16 ∷ 15 ∷ []) ∷  -- 17
    (Inline 4 1 (codes "x"), 17 ∷ 13 ∷ 0 ∷ []) ∷  -- 18
    (Run 4 0 1, 18 ∷ 3 ∷ []) ∷  -- 19
    (Run 4 1 1, 19 ∷ 18 ∷ 3 ∷ []) ∷  -- 20
    (Inline 5 1 (codes "z"), 20 ∷ 0 ∷ []) ∷  -- 21
    (Run 5 0 1, 21 ∷ 3 ∷ []) ∷  -- 22
    (Run 5 0 1, 21 ∷ 3 ∷ []) ∷  -- 23
    (Send 2, []) ∷
    (Run 5 1 1, 23 ∷ 22 ∷ 21 ∷ 3 ∷ []) ∷  -- 24
    [])
    (
    (Close 5, None) ∷
    (Dcl 5 0, Some Again) ∷
    (Run 5 2 1, None) ∷
    (Dcl 3 0, Some Again) ∷
    (Exec 5, Some Unknown) ∷
    (Run 5 0 1, Some OutOfOrder) ∷
    (Fire 0 3 (codes "x"), Some Unknown) ∷
    (Back 5, Some Misplaced) ∷
    [])

abbrev pub SeventhPage : Type 0
SeventhPage = IsRowBefore (
    (Parse 0 1 kinds.Sync, []) ∷  -- 0
    (Exec 1, 0 ∷ []) ∷  -- 1
    (Every 1 2, []) ∷
    (Parse 0 2 kinds.Plain, 1 ∷ 0 ∷ []) ∷  -- 2
    (Parse 0 3 kinds.Defer, 2 ∷ 1 ∷ 0 ∷ []) ∷  -- 3
    (ParseFrame 0 4 1, 3 ∷ 2 ∷ 1 ∷ 0 ∷ []) ∷  -- 4
    (Dcl 1 0, 4 ∷ 3 ∷ 2 ∷ 1 ∷ 0 ∷ []) ∷  -- 5
    (Close 1, 5 ∷ []) ∷  -- 6
    (Load 2 0, 6 ∷ 5 ∷ 4 ∷ 3 ∷ 2 ∷ 1 ∷ 0 ∷ []) ∷  -- 7
    (Set 1 3, []) ∷
    (Close 2, 7 ∷ []) ∷  -- 8
    (Inline 3 2 (codes "x"), 8 ∷ 2 ∷ []) ∷  -- 9
    (Set 2 0, []) ∷
    (Set 3 3, []) ∷
    (Close 3, 9 ∷ []) ∷  -- 10
    (Inline 4 1 (codes "click"), 10 ∷ 0 ∷ []) ∷  -- 11
    (Close 4, 11 ∷ []) ∷  -- 12
    (Inline 5 3 (codes "click"), 12 ∷ 3 ∷ []) ∷  -- 13
    (NewFrame 0 5 2, []) ∷
    (Access modes.W (Elem 1 (codes "x")), []) ∷
    (Set 4 2, []) ∷
    (Every 2 8, []) ∷
    (Set 5 0, []) ∷
    (Close 5, 13 ∷ []) ∷  -- 14
    (Inline 6 3 (codes "z"), 14 ∷ 3 ∷ []) ∷  -- 15
    (NewFrame 0 6 3, []) ∷
    (Send 1, []) ∷
    (Every 3 8, []) ∷
    (Close 6, 15 ∷ []) ∷  -- 16
    (Back 6, 16 ∷ 14 ∷ 13 ∷ []) ∷  -- 17
    [])
    (
    (Send 2, None) ∷
    (Back 5, None) ∷
    (Exec 4, Some NotScript) ∷
    (Exec 5, Some NotScript) ∷
    (Parse 2 3 kinds.Image, Some Again) ∷
    (Eload 4 1, Some Again) ∷
    (Fire 0 4 (codes "x"), Some Misplaced) ∷
    (Back 3, Some Misplaced) ∷
    [])

abbrev pub EighthPage : Type 0
EighthPage = IsRowBefore (
    (Wfire 1 0 (codes "click"), []) ∷  -- 0
    (NewFrame 0 1 1, []) ∷
    (Every 1 7, []) ∷
    (Close 1, 0 ∷ []) ∷  -- 1
    (Tick 1, 0 ∷ []) ∷  -- 2
    (Parse 1 2 kinds.Sync, 0 ∷ []) ∷  -- 3
    (Parse 0 3 kinds.Sync, []) ∷  -- 4
    (Parse 1 4 kinds.Defer, 3 ∷ 0 ∷ []) ∷  -- 5
    (Every 2 2, []) ∷
    (Parse 1 5 kinds.Inline, 5 ∷ 3 ∷ 0 ∷ []) ∷  -- 6
    (Every 3 7, []) ∷
    (Load 2 0, 4 ∷ []) ∷  -- 7
    (Close 2, 7 ∷ []) ∷  -- 8
    (Access modes.R (Var 1 (codes "x")), []) ∷
    (Inline 3 2 (codes "x"), 8 ∷ 3 ∷ []) ∷  -- 9
    (On 1, []) ∷
    (New 0 6 new_kinds.Async, []) ∷
    (Run 3 1 1, 9 ∷ []) ∷  -- 10
    (Close 3, 10 ∷ 9 ∷ []) ∷  -- 11
    (Back 3, 11 ∷ 8 ∷ 7 ∷ []) ∷  -- 12
    (Every 4 4, []) ∷
    (Tick 2, 5 ∷ []) ∷  -- 13
    (Exec 4, 6 ∷ 5 ∷ 3 ∷ []) ∷  -- 14
    (Inline 4 3 (codes "x"), 14 ∷ 4 ∷ []) ∷  -- 15
    (Close 4, 15 ∷ []) ∷  -- 16
    (New 1 7 new_kinds.Plain, []) ∷
    (On 2, []) ∷
    (New 0 8 new_kinds.Async, []) ∷
    (Access modes.R (Slot 0 (codes "click")), []) ∷
    (Back 4, 16 ∷ 14 ∷ 6 ∷ 5 ∷ 3 ∷ []) ∷  -- 17
    [])
    (
    (Parse 1 9 kinds.Defer, Some OutOfOrder) ∷
    (On 4, None) ∷
    (On 3, None) ∷
    (On 2, Some Again) ∷
    (Parse 1 10 kinds.Sync, Some OutOfOrder) ∷
    (Parse 0 11 kinds.Defer, Some OutOfOrder) ∷
    (Exec 1, Some NotScript) ∷
    (Parse 0 12 kinds.Sync, Some OutOfOrder) ∷
    [])

abbrev pub NinthPage : Type 0
NinthPage = IsRowBefore (
    (Parse 0 1 kinds.Async, []) ∷  -- 0
    (Parse 0 2 kinds.Inline, 0 ∷ []) ∷  -- 1
    (Parse 0 3 kinds.Plain, 1 ∷ 0 ∷ []) ∷  -- 2
    (Exec 1, 0 ∷ []) ∷  -- 3
    (Parse 0 4 kinds.Sync, 2 ∷ 1 ∷ 0 ∷ []) ∷  -- 4
    (Parse 0 5 kinds.Inline, 4 ∷ 2 ∷ 1 ∷ 0 ∷ []) ∷  -- 5
    (Exec 5, 5 ∷ []) ∷  -- 6
    (Set 1 1, []) ∷
    (Parse 0 6 kinds.Async, 6 ∷ 5 ∷ 4 ∷ 2 ∷ 1 ∷ 0 ∷ []) ∷  -- 7
    (New 0 7 new_kinds.Async, []) ∷
    (Eload 1 3, 2 ∷ []) ∷  -- 8
    (Close 1, 8 ∷ []) ∷  -- 9
    (Set 2 1, []) ∷
    (Parse 0 8 kinds.Inline, 7 ∷ 6 ∷ 5 ∷ 4 ∷ 2 ∷ 1 ∷ 0 ∷ []) ∷  -- 10
    (Timer 2, 9 ∷ []) ∷  -- 11
    (Parse 0 9 kinds.Defer, 10 ∷ 7 ∷ 6 ∷ 5 ∷ 4 ∷ 2 ∷ 1 ∷ 0 ∷ []) ∷  -- 12
    (Timer 1, 6 ∷ []) ∷  -- 13
    (Exec 9, 12 ∷ 10 ∷ 7 ∷ 6 ∷ 5 ∷ 4 ∷ 2 ∷ 1 ∷ 0 ∷ []) ∷  -- 14
    (Fire 2 1 (codes "z"), 0 ∷ []) ∷  -- 15
    (Close 2, 15 ∷ []) ∷  -- 16
    (Fire 3 2 (codes "z"), 1 ∷ []) ∷  -- 17
    (On 1, []) ∷
    (Close 3, 17 ∷ []) ∷  -- 18
    (Set 3 2, []) ∷
    (New 0 10 new_kinds.Image, []) ∷
    (Exec 7, 7 ∷ []) ∷  -- 19
    (Dcl 4 0, 14 ∷ 12 ∷ 10 ∷ 7 ∷ 6 ∷ 5 ∷ 4 ∷ 2 ∷ 1 ∷ 0 ∷ []) ∷  -- 20
    (Close 4, 20 ∷ []) ∷  -- 21
    (Fire 5 2 (codes "x"), 1 ∷ []) ∷  -- 22
    (Set 4 1, []) ∷
    [])
    (
    (ParseFrame 5 2 5, Some Unknown) ∷
    (Eload 4 3, Some Again) ∷
    (Exec 1, Some Again) ∷
    (Access modes.W (Elem 0 (codes "x")), None) ∷
    (Send 1, None) ∷
    (Dcl 2 4, Some Unknown) ∷
    (Close 1, Some Misplaced) ∷
    (Exec 2, Some Misplaced) ∷
    [])

abbrev pub TenthPage : Type 0
TenthPage = IsRowBefore (
    (Parse 0 1 kinds.Defer, []) ∷  -- 0
    (Eload 1 1, 0 ∷ []) ∷  -- 1
    (On 1, []) ∷
    (Close 1, 1 ∷ []) ∷  -- 2
    (Load 2 0, 2 ∷ 0 ∷ []) ∷  -- 3
    (Set 1 2, []) ∷
    (Close 2, 3 ∷ []) ∷  -- 4
    (Fire 3 1 (codes "x"), 0 ∷ []) ∷  -- 5
    (Close 3, 5 ∷ []) ∷  -- 6
    (Fire 4 1 (codes "x"), 6 ∷ 0 ∷ []) ∷  -- 7
    (Set 2 2, []) ∷
    (Close 4, 7 ∷ []) ∷  -- 8
    (NewFrame 0 2 1, []) ∷
    (Inline 5 1 (codes "z"), 8 ∷ 0 ∷ []) ∷  -- 9
    (Close 5, 9 ∷ []) ∷  -- 10
    (New 1 3 new_kinds.Image, []) ∷
    (Back 5, 10 ∷ 8 ∷ 7 ∷ []) ∷  -- 11
    (New 0 4 new_kinds.Async, []) ∷
    (Set 3 0, []) ∷
    (ParseFrame 1 5 2, 11 ∷ 8 ∷ []) ∷  -- 12
    (Fire 6 3 (codes "x"), 10 ∷ []) ∷  -- 13
    (Close 6, 13 ∷ []) ∷  -- 14
    (Send 1, []) ∷
    (Inline 7 2 (codes "z"), 14 ∷ 11 ∷ 8 ∷ []) ∷  -- 15
    (Close 7, 15 ∷ []) ∷  -- 16
    (Set 4 0, []) ∷
    (Back 7, 16 ∷ 14 ∷ 13 ∷ []) ∷  -- 17
    (Send 2, []) ∷
    (ParseFrame 2 6 3, 12 ∷ []) ∷  -- 18
    (Exec 4, 11 ∷ 8 ∷ []) ∷  -- 19
    [])
    (
    (NewFrame 1 4 5, Some Again) ∷
    (Eload 8 1, Some Again) ∷
    (Inline 10 3 (codes "z"), None) ∷
    (Access modes.R (Var 2 (codes "x")), None) ∷
    (Exec 1, Some OutOfOrder) ∷
    (Exec 2, Some NotScript) ∷
    (Tick 3, Some Unknown) ∷
    (Parse 0 9 kinds.Defer, Some OutOfOrder) ∷
    [])

abbrev pub EleventhPage : Type 0
EleventhPage = IsRowBefore (
    (Parse 0 1 kinds.Defer, []) ∷  -- 0
    (Eload 1 1, 0 ∷ []) ∷  -- 1
    (On 1, []) ∷
    (Access modes.W (Var 0 (codes "x")), []) ∷
    (Close 1, 1 ∷ []) ∷  -- 2
    (ParseFrame 0 2 1, 0 ∷ []) ∷  -- 3
    (Parse 0 3 kinds.Defer, 3 ∷ 0 ∷ []) ∷  -- 4
    (Load 2 1, 3 ∷ []) ∷  -- 5
    (Access modes.W (Var 0 (codes "x")), []) ∷
    (Access modes.W (Var 0 (codes "x")), []) ∷
    (Access modes.W (Var 0 (codes "x")), []) ∷
    (Close 2, 5 ∷ []) ∷  -- 6
    (Load 3 0, 4 ∷ 3 ∷ 2 ∷ 0 ∷ []) ∷  -- 7
    (Access modes.W (Var 0 (codes "x")), []) ∷
    (Close 3, 7 ∷ []) ∷  -- 8
    (Eload 4 2, 6 ∷ 3 ∷ []) ∷  -- 9
    (New 0 4 new_kinds.Image, []) ∷
    (Close 4, 9 ∷ []) ∷  -- 10
    (Access modes.W (Var 0 (codes "x")), []) ∷
    (New 1 5 new_kinds.Image, []) ∷
    (Access modes.R (Var 0 (codes "x")), []) ∷
    (Eload 5 3, 4 ∷ []) ∷  -- 11
    (New 1 6 new_kinds.Image, []) ∷
    (New 0 7 new_kinds.Async, []) ∷
    (Access modes.W (Var 0 (codes "x")), []) ∷
    (Close 5, 11 ∷ []) ∷  -- 12
    (Inline 6 2 (codes "click"), 12 ∷ 3 ∷ []) ∷  -- 13
    (Close 6, 13 ∷ []) ∷  -- 14
    (Access modes.W (Var 0 (codes "x")), []) ∷
    (Back 6, 14 ∷ 12 ∷ 11 ∷ []) ∷  -- 15
    [])
    (
    (Eload 5 4, Some Again) ∷
    (New 1 8 new_kinds.Plain, None) ∷
    (ParseFrame 0 5 4, Some Again) ∷
    (Access modes.W (Var 0 (codes "x")), None) ∷
    (Load 5 2, Some Unknown) ∷
    (Dcl 7 0, Some OutOfOrder) ∷
    (Parse 0 9 kinds.Defer, Some OutOfOrder) ∷
    (Load 3 3, Some Unknown) ∷
    [])

abbrev pub TwelfthPage : Type 0
TwelfthPage = IsRowBefore (
    (Parse 0 1 kinds.Defer, []) ∷  -- 0
    (Send 1, []) ∷
    (New 0 2 new_kinds.Plain, []) ∷
    (Wfire 1 0 (codes "x"), []) ∷  -- 1
    (Close 1, 1 ∷ []) ∷  -- 2
    (Send 2, []) ∷
    (Parse 0 3 kinds.Defer, 0 ∷ []) ∷  -- 3
    (Exec 3, 3 ∷ 0 ∷ []) ∷  -- 4
    (Wfire 2 0 (codes "z"), []) ∷  -- 5
    (Close 2, 5 ∷ []) ∷  -- 6
    (Inline 3 1 (codes "click"), 6 ∷ 0 ∷ []) ∷  -- 7
    (Close 3, 7 ∷ []) ∷  -- 8
    (Back 3, 8 ∷ 6 ∷ 5 ∷ []) ∷  -- 9
    (Access modes.R (Slot 1 (codes "click")), []) ∷
    (Set 1 3, []) ∷
    (Reply 4 2, 2 ∷ []) ∷  -- 10
    (Every 1 6, []) ∷
    (Close 4, 10 ∷ []) ∷  -- 11
    (Dcl 5 0, 4 ∷ 3 ∷ 0 ∷ []) ∷  -- 12
    (Close 5, 12 ∷ []) ∷  -- 13
    (Access modes.R (Var 0 (codes "click")), []) ∷
    (Load 6 0, 13 ∷ 12 ∷ 4 ∷ 3 ∷ 0 ∷ []) ∷  -- 14
    (Close 6, 14 ∷ []) ∷  -- 15
    (Access modes.W (Var 1 (codes "x")), []) ∷
    (Reply 7 1, 0 ∷ []) ∷  -- 16
    (Close 7, 16 ∷ []) ∷  -- 17
    (Tick 1, 10 ∷ []) ∷  -- 18
    (Send 3, []) ∷
    (Every 2 4, []) ∷
    (Tick 1, 18 ∷ 10 ∷ []) ∷  -- 19
    [])
    (
    (Inline 4 5 (codes "x"), Some Unknown) ∷
    (Exec 1, Some OutOfOrder) ∷
    (Eload 5 3, Some Again) ∷
    (Inline 5 3 (codes "x"), Some Again) ∷
    (NewFrame 2 5 1, Some Unknown) ∷
    (Access modes.R (Var 4 (codes "x")), None) ∷
    (Parse 0 4 kinds.Defer, Some OutOfOrder) ∷
    (Reply 8 2, None) ∷
    [])
