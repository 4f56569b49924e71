-- What the definitions say of small lists of records, and the numbers of the rules. Each rule and
-- each kind of piece is reached.
use Rattle.std.specs.Prelude.{◌≡◌, ℕ, List, [], ◌∷◌, map, filter, reverse, codes, Option, Some, None}
use Rattle.er_text.specs.declared.causes.Cause.{Cause}
use Rattle.er_text.specs.declared.causes.Cause.TheVariants.{Unknown, Again, Misplaced, OutOfOrder}
use Rattle.er_trace.specs.declared.record.Record.{Record}
use Rattle.er_trace.specs.declared.record.Record.TheVariants.{Parse, ParseFrame, Exec, Timer, Tick, Dcl, Load, Eload, Fire, Wfire, Reply, Inline, Run, Close, Back, New, NewFrame, On, Set, Every, Send, Post, Ask, Queue, Message, Anim, Job}
use Rattle.er_trace.specs.declared.record.Kind.TheVariants as kinds
use Rattle.er_trace.specs.declared.record.NewKind.TheVariants as new_kinds
use Rattle.er_trace.specs.declared.version.Version.{Version}
use Rattle.er_trace.specs.declared.version.Version.TheVariants.{One, Two, Three}
use Rattle.er_history.specs.History.{told, begins}
use Rattle.er_history.specs.Rules as tables
use Rattle.er_history.specs.Edges as between
use Rattle.er_history.specs.Sound as sound

-- The rules between events have the numbers 1 to 21 and 24 to 31, in this order, in each version.
abbrev pub RulesAreNumbered : Type 0
RulesAreNumbered = (v : Version) → map (λ r. r.0) (tables.rules v)
    ≡ 1 ∷ 2 ∷ 3 ∷ 4 ∷ 5 ∷ 6 ∷ 7 ∷ 8 ∷ 9 ∷ 10 ∷ 11 ∷ 12 ∷ 13 ∷ 14 ∷ 15 ∷ 16 ∷ 17 ∷ 18 ∷ 19 ∷ 20 ∷ 21
    ∷ 24 ∷ 25 ∷ 26 ∷ 27 ∷ 28 ∷ 29 ∷ 30 ∷ 31 ∷ []

-- A record, and the actions with an edge to the action that it begins, newest first; none where it
-- begins none. A row has its lines oldest first.
abbrev pub Line : Type 0
Line = Record × List ℕ

-- the records of a row, newest first
abbrev pub records_in : List Line → List Record
records_in lines = reverse (map (λ (l : Line). l.0) lines)

-- what a row says of each action, newest first
abbrev pub sources_in : List Line → List (List ℕ)
sources_in lines = map (λ (l : Line). l.1) (filter (λ (l : Line). begins l.0) (reverse lines))

-- the cause of each record after those before it
abbrev pub causes_in : Version → List Record → List (Option Cause)
causes_in v [] = []
causes_in v (x ∷ h) = sound.cause (tables.rules v) h x ∷ causes_in v h

-- By all rules of the version the edges are these, and no record has a cause.
pub record IsRowOf (v : Version) (lines : List Line) : Type 0 where
  pub edges : between.edges (tables.rules v) (told (records_in lines)).actions ≡ sources_in lines
  pub legal : causes_in v (records_in lines) ≡ map (λ (l : Line). None) lines

-- a row of version 1
abbrev pub IsRow : List Line → Type 0
IsRow lines = IsRowOf One lines

-- a row of each version
pub record IsSharedRow (lines : List Line) : Type 0 where
  pub one : IsRowOf One lines
  pub two : IsRowOf Two lines
  pub three : IsRowOf Three lines

-- Each of the rules 1 to 16 and 18 to 21. Behind each line stands the action that it begins.
abbrev pub EachRule : Type 0
EachRule = IsSharedRow (
    (Parse 0 1 kinds.Sync, []) ∷  -- 0
    (Exec 1, 0 ∷ []) ∷  -- 1
    (Parse 0 2 kinds.Defer, 1 ∷ 0 ∷ []) ∷  -- 2
    (Parse 0 3 kinds.Defer, 2 ∷ 1 ∷ 0 ∷ []) ∷  -- 3
    (Parse 0 4 kinds.Async, 3 ∷ 2 ∷ 1 ∷ 0 ∷ []) ∷  -- 4
    (ParseFrame 0 5 1, 4 ∷ 3 ∷ 2 ∷ 1 ∷ 0 ∷ []) ∷  -- 5
    (Parse 1 6 kinds.Plain, 5 ∷ []) ∷  -- 6
    (Exec 2, 5 ∷ 4 ∷ 3 ∷ 2 ∷ 1 ∷ 0 ∷ []) ∷  -- 7
    (Exec 3, 7 ∷ 5 ∷ 4 ∷ 3 ∷ 2 ∷ 1 ∷ 0 ∷ []) ∷  -- 8
    (On 1, []) ∷
    (On 2, []) ∷
    (Send 1, []) ∷
    (Every 1 50, []) ∷
    (Set 1 9, []) ∷
    (Set 2 9, []) ∷
    (Dcl 1 0, 8 ∷ 7 ∷ 5 ∷ 4 ∷ 3 ∷ 2 ∷ 1 ∷ 0 ∷ []) ∷  -- 9
    (Run 1 0 1, 9 ∷ 8 ∷ []) ∷  -- 10
    (Run 1 1 2, 10 ∷ 9 ∷ 8 ∷ []) ∷  -- 11
    (Close 1, 11 ∷ 10 ∷ 9 ∷ []) ∷  -- 12
    (Exec 4, 4 ∷ []) ∷  -- 13
    (Eload 2 4, 13 ∷ 4 ∷ []) ∷  -- 14
    (Close 2, 14 ∷ []) ∷  -- 15
    (Load 3 1, 6 ∷ 5 ∷ []) ∷  -- 16
    (Close 3, 16 ∷ []) ∷  -- 17
    (Eload 4 5, 17 ∷ 5 ∷ []) ∷  -- 18
    (Close 4, 18 ∷ []) ∷  -- 19
    (Load 5 0, 19 ∷ 15 ∷ 13 ∷ 12 ∷ 11 ∷ 10 ∷ 9 ∷ 8 ∷ 7 ∷ 5 ∷ 4 ∷ 3 ∷ 2 ∷ 1 ∷ 0 ∷ []) ∷  -- 20
    (Close 5, 20 ∷ []) ∷  -- 21
    (Tick 1, 8 ∷ []) ∷  -- 22
    (Tick 1, 22 ∷ 8 ∷ []) ∷  -- 23
    (Reply 6 1, 8 ∷ []) ∷  -- 24
    (Close 6, 24 ∷ []) ∷  -- 25
    (Reply 7 1, 25 ∷ 8 ∷ []) ∷  -- 26
    (Close 7, 26 ∷ []) ∷  -- 27
    (Timer 1, 8 ∷ []) ∷  -- 28
    (Timer 2, 28 ∷ 8 ∷ []) ∷  -- 29
    [])

-- Inline dispatches in a handler, in one another's handlers and in closes: rules 22 and 23, and
-- what is of one event.
abbrev pub NestedDispatches : Type 0
NestedDispatches = IsSharedRow (
    (Parse 0 1 kinds.Inline, []) ∷  -- 0
    (Exec 1, 0 ∷ []) ∷  -- 1
    (On 1, []) ∷
    (On 2, []) ∷
    (New 0 2 new_kinds.Plain, []) ∷
    (Wfire 1 0 (codes "x"), []) ∷  -- 2
    (Run 1 3 1, 2 ∷ 1 ∷ []) ∷  -- 3
    (Inline 2 2 (codes "x"), 3 ∷ 1 ∷ []) ∷  -- 4
    (Run 2 0 2, 4 ∷ 1 ∷ []) ∷  -- 5
    (Run 2 0 1, 4 ∷ 1 ∷ []) ∷  -- 6
    (Run 2 1 1, 6 ∷ 5 ∷ 4 ∷ 1 ∷ []) ∷  -- 7
    (Inline 3 1 (codes "x"), 7 ∷ 0 ∷ []) ∷  -- 8
    (Close 3, 8 ∷ []) ∷  -- 9
    (Back 3, 9 ∷ 7 ∷ 6 ∷ 5 ∷ 4 ∷ 1 ∷ []) ∷  -- 10
    (Close 2, 10 ∷ 7 ∷ 6 ∷ 5 ∷ 4 ∷ []) ∷  -- 11
    (Inline 4 2 (codes "y"), 11 ∷ 1 ∷ []) ∷  -- 12
    (Close 4, 12 ∷ []) ∷  -- 13
    (Back 4, 13 ∷ 11 ∷ 10 ∷ 7 ∷ 6 ∷ 5 ∷ 4 ∷ []) ∷  -- 14
    (Back 2, 14 ∷ 11 ∷ 3 ∷ 2 ∷ 1 ∷ []) ∷  -- 15
    (Run 1 4 2, 15 ∷ 3 ∷ 2 ∷ 1 ∷ []) ∷  -- 16
    (Close 1, 16 ∷ 15 ∷ 3 ∷ 2 ∷ []) ∷  -- 17
    (Inline 5 2 (codes "x"), 17 ∷ 14 ∷ 11 ∷ 1 ∷ []) ∷  -- 18
    (Close 5, 18 ∷ []) ∷  -- 19
    (Back 5, 19 ∷ 17 ∷ 16 ∷ 15 ∷ 3 ∷ 2 ∷ []) ∷  -- 20
    (Fire 6 2 (codes "x"), 19 ∷ 14 ∷ 11 ∷ 1 ∷ []) ∷  -- 21
    (Close 6, 21 ∷ []) ∷  -- 22
    (Wfire 7 0 (codes "x"), 20 ∷ 17 ∷ []) ∷  -- 23
    (Close 7, 23 ∷ []) ∷  -- 24
    [])

-- Rule 19 of version 2, whose path may rest on the same rule: action 1 leads to 2, so what was set
-- in 1 fires before what was set in 2.
abbrev pub TimersOnTimers : Type 0
TimersOnTimers = IsRowOf Two (
    (Parse 0 1 kinds.Plain, []) ∷  -- 0
    (Set 1 0, []) ∷
    (Set 2 0, []) ∷
    (Timer 1, 0 ∷ []) ∷  -- 1
    (Set 3 4, []) ∷
    (Timer 2, 1 ∷ 0 ∷ []) ∷  -- 2
    (Set 4 4, []) ∷
    (Timer 3, 2 ∷ 1 ∷ []) ∷  -- 3
    (Timer 4, 3 ∷ 2 ∷ 1 ∷ []) ∷  -- 4
    [])

-- Timeouts set in pieces that a path joins, and in pieces that none does: among them the pieces of
-- a script around an inline dispatch.
abbrev pub TimersOfPieces : Type 0
TimersOfPieces = IsRowOf Two (
    (Parse 0 1 kinds.Inline, []) ∷  -- 0
    (Set 1 5, []) ∷
    (Exec 1, 0 ∷ []) ∷  -- 1
    (Set 2 5, []) ∷
    (Inline 1 1 (codes "x"), 1 ∷ 0 ∷ []) ∷  -- 2
    (Set 3 5, []) ∷
    (Close 1, 2 ∷ []) ∷  -- 3
    (Set 4 4, []) ∷
    (Back 1, 3 ∷ 1 ∷ 0 ∷ []) ∷  -- 4
    (Set 5 5, []) ∷
    (Parse 0 2 kinds.Async, 4 ∷ 1 ∷ 0 ∷ []) ∷  -- 5
    (Exec 2, 5 ∷ []) ∷  -- 6
    (Set 6 9, []) ∷
    (Timer 1, 0 ∷ []) ∷  -- 7
    (Set 8 0, []) ∷
    (Parse 0 3 kinds.Plain, 5 ∷ 4 ∷ 1 ∷ 0 ∷ []) ∷  -- 8
    (Set 7 9, []) ∷
    (Timer 5, 7 ∷ 4 ∷ 1 ∷ []) ∷  -- 9
    (Set 9 0, []) ∷
    (Timer 3, 7 ∷ 2 ∷ []) ∷  -- 10
    (Timer 4, 3 ∷ []) ∷  -- 11
    (Timer 2, 7 ∷ 4 ∷ 1 ∷ []) ∷  -- 12
    (Timer 7, 12 ∷ 11 ∷ 10 ∷ 9 ∷ 8 ∷ 7 ∷ []) ∷  -- 13
    (Timer 6, 12 ∷ 11 ∷ 10 ∷ 9 ∷ 7 ∷ 6 ∷ []) ∷  -- 14
    (Timer 9, 9 ∷ []) ∷  -- 15
    (Timer 8, 7 ∷ []) ∷  -- 16
    [])

-- Rules 24 to 30: tasks of one event and of joined pieces, and of events that no path joins.
abbrev pub JobsAndCallbacks : Type 0
JobsAndCallbacks = IsRowOf Three (
    (Parse 0 1 kinds.Inline, []) ∷  -- 0
    (Post 1, []) ∷
    (Exec 1, 0 ∷ []) ∷  -- 1
    (Post 2, []) ∷
    (Ask 1, []) ∷
    (Set 1 0, []) ∷
    (Every 1 5, []) ∷
    (Queue 1, []) ∷
    (Queue 2, []) ∷
    (Parse 0 2 kinds.Async, 1 ∷ 0 ∷ []) ∷  -- 2
    (Exec 2, 2 ∷ []) ∷  -- 3
    (Post 3, []) ∷
    (Ask 2, []) ∷
    (Queue 3, []) ∷
    (Message 2, 1 ∷ []) ∷  -- 4
    (Queue 4, []) ∷
    (Message 1, 0 ∷ []) ∷  -- 5
    (Job 2, 1 ∷ []) ∷  -- 6
    (Post 4, []) ∷
    (Job 1, 1 ∷ []) ∷  -- 7
    (Anim 1, 7 ∷ 6 ∷ 1 ∷ []) ∷  -- 8
    (Ask 3, []) ∷
    (Job 3, 7 ∷ 6 ∷ 3 ∷ []) ∷  -- 9
    (Message 3, 9 ∷ 5 ∷ 4 ∷ 3 ∷ []) ∷  -- 10
    (Anim 2, 9 ∷ 8 ∷ 3 ∷ []) ∷  -- 11
    (Timer 1, 7 ∷ 6 ∷ 1 ∷ []) ∷  -- 12
    (Tick 1, 7 ∷ 6 ∷ 1 ∷ []) ∷  -- 13
    (Tick 1, 13 ∷ 7 ∷ 6 ∷ 1 ∷ []) ∷  -- 14
    (Job 4, 7 ∷ 6 ∷ 4 ∷ []) ∷  -- 15
    (Message 4, 6 ∷ 5 ∷ 4 ∷ []) ∷  -- 16
    (Anim 3, 8 ∷ []) ∷  -- 17
    [])

-- Rule 31: jobs between the handlers of a dispatch, an inline dispatch of the same type at the same
-- target within one, and closes in recorded order.
abbrev pub JobsInDispatches : Type 0
JobsInDispatches = IsRowOf Three (
    (Parse 0 1 kinds.Plain, []) ∷  -- 0
    (On 1, []) ∷
    (On 2, []) ∷
    (Queue 1, []) ∷
    (Fire 1 1 (codes "click"), 0 ∷ []) ∷  -- 1
    (Job 1, 0 ∷ []) ∷  -- 2
    (Queue 2, []) ∷
    (Inline 2 1 (codes "click"), 2 ∷ 0 ∷ []) ∷  -- 3
    (Run 2 0 1, 3 ∷ 0 ∷ []) ∷  -- 4
    (Close 2, 4 ∷ 3 ∷ []) ∷  -- 5
    (Back 2, 5 ∷ 2 ∷ 0 ∷ []) ∷  -- 6
    (Run 1 0 1, 1 ∷ 0 ∷ []) ∷  -- 7
    (Queue 3, []) ∷
    (Job 2, 6 ∷ 2 ∷ []) ∷  -- 8
    (Inline 3 1 (codes "click"), 8 ∷ 5 ∷ 0 ∷ []) ∷  -- 9
    (Close 3, 9 ∷ []) ∷  -- 10
    (Inline 4 1 (codes "click"), 10 ∷ 5 ∷ 0 ∷ []) ∷  -- 11
    (Close 4, 11 ∷ []) ∷  -- 12
    (Back 4, 12 ∷ 10 ∷ 9 ∷ []) ∷  -- 13
    (Back 3, 13 ∷ 10 ∷ 8 ∷ 6 ∷ 2 ∷ []) ∷  -- 14
    (Job 3, 7 ∷ 6 ∷ 2 ∷ []) ∷  -- 15
    (Run 1 0 2, 1 ∷ 0 ∷ []) ∷  -- 16
    (Close 1, 16 ∷ 15 ∷ 14 ∷ 8 ∷ 7 ∷ 6 ∷ 2 ∷ 1 ∷ []) ∷  -- 17
    (Inline 5 1 (codes "click"), 17 ∷ 13 ∷ 12 ∷ 10 ∷ 5 ∷ 0 ∷ []) ∷  -- 18
    (Close 5, 18 ∷ []) ∷  -- 19
    (Back 5, 19 ∷ 17 ∷ 16 ∷ 15 ∷ 14 ∷ 8 ∷ 7 ∷ 6 ∷ 2 ∷ 1 ∷ []) ∷  -- 20
    (Fire 6 1 (codes "click"), 20 ∷ 19 ∷ 17 ∷ 13 ∷ 12 ∷ 10 ∷ 5 ∷ 0 ∷ []) ∷  -- 21
    (Close 6, 21 ∷ []) ∷  -- 22
    [])

-- Rules 19, 25, 27 and 29 ask for a path from the piece that declared one to the piece
-- that declared the other, not from or to another piece of their events; rules 24, 26 and
-- 28 name the event.
abbrev pub TasksOfLaterPieces : Type 0
TasksOfLaterPieces = IsRowOf Three (
    (Parse 0 1 kinds.Inline, []) ∷  -- 0
    (Exec 1, 0 ∷ []) ∷  -- 1
    (Set 1 0, []) ∷
    (Ask 8, []) ∷
    (Ask 9, []) ∷
    (Inline 1 1 (codes "a"), 1 ∷ 0 ∷ []) ∷  -- 2
    (Set 2 0, []) ∷
    (Set 3 5, []) ∷
    (Post 1, []) ∷
    (Ask 1, []) ∷
    (Queue 1, []) ∷
    (Close 1, 2 ∷ []) ∷  -- 3
    (Back 1, 3 ∷ 1 ∷ 0 ∷ []) ∷  -- 4
    (Set 4 5, []) ∷
    (Post 2, []) ∷
    (Ask 2, []) ∷
    (Queue 2, []) ∷
    (Timer 2, 2 ∷ []) ∷  -- 5
    (Set 5 5, []) ∷
    (Post 3, []) ∷
    (Ask 3, []) ∷
    (Queue 3, []) ∷
    (Post 4, []) ∷
    (Ask 4, []) ∷
    (Queue 4, []) ∷
    (Timer 3, 5 ∷ 2 ∷ []) ∷  -- 6
    (Timer 4, 6 ∷ 5 ∷ 4 ∷ 1 ∷ []) ∷  -- 7
    (Timer 5, 6 ∷ 5 ∷ []) ∷  -- 8
    (Job 1, 2 ∷ []) ∷  -- 9
    (Job 2, 9 ∷ 4 ∷ 1 ∷ []) ∷  -- 10
    (Job 3, 9 ∷ 5 ∷ []) ∷  -- 11
    (Job 4, 11 ∷ 9 ∷ 5 ∷ []) ∷  -- 12
    (Message 1, 9 ∷ 2 ∷ []) ∷  -- 13
    (Message 2, 13 ∷ 10 ∷ 4 ∷ 1 ∷ []) ∷  -- 14
    (Message 3, 13 ∷ 12 ∷ 11 ∷ 5 ∷ []) ∷  -- 15
    (Message 4, 15 ∷ 13 ∷ 12 ∷ 11 ∷ 5 ∷ []) ∷  -- 16
    (Anim 1, 9 ∷ 2 ∷ []) ∷  -- 17
    (Anim 2, 17 ∷ 10 ∷ 4 ∷ 1 ∷ []) ∷  -- 18
    (Anim 3, 17 ∷ 12 ∷ 11 ∷ 5 ∷ []) ∷  -- 19
    (Anim 4, 19 ∷ 17 ∷ 12 ∷ 11 ∷ 5 ∷ []) ∷  -- 20
    (Anim 9, 10 ∷ 4 ∷ 1 ∷ []) ∷  -- 21
    (Anim 8, 10 ∷ 4 ∷ 1 ∷ []) ∷  -- 22
    [])

-- Rule 19 of version 3 is that of version 2: another event set the second timeout.
abbrev pub TimersOfStepsInThree : Type 0
TimersOfStepsInThree = IsRowOf Three (
    (Parse 0 1 kinds.Plain, []) ∷  -- 0
    (Set 1 5, []) ∷
    (Parse 0 2 kinds.Plain, 0 ∷ []) ∷  -- 1
    (Set 2 5, []) ∷
    (Timer 1, 0 ∷ []) ∷  -- 2
    (Timer 2, 2 ∷ 1 ∷ []) ∷  -- 3
    [])

-- Rule 13 counts a frame that a script made, as one that a parse step made, and load of its
-- document if it is closed before.
abbrev pub FramesThatScriptsMade : Type 0
FramesThatScriptsMade = IsRow (
    (Parse 0 1 kinds.Inline, []) ∷  -- 0
    (Exec 1, 0 ∷ []) ∷  -- 1
    (NewFrame 0 2 1, []) ∷
    (Load 1 1, 1 ∷ []) ∷  -- 2
    (Close 1, 2 ∷ []) ∷  -- 3
    (Eload 2 2, 3 ∷ 1 ∷ []) ∷  -- 4
    (Close 2, 4 ∷ []) ∷  -- 5
    (NewFrame 0 3 2, []) ∷
    (Eload 3 3, 5 ∷ []) ∷  -- 6
    (Close 3, 6 ∷ []) ∷  -- 7
    (Load 4 2, 5 ∷ []) ∷  -- 8
    (Close 4, 8 ∷ []) ∷  -- 9
    [])

-- For rule 17 the first load event of an element is no dispatch of the type `load`.
abbrev pub LaterLoadEvent : Type 0
LaterLoadEvent = IsRow (
    (Parse 0 1 kinds.Image, []) ∷  -- 0
    (Eload 1 1, 0 ∷ []) ∷  -- 1
    (Close 1, 1 ∷ []) ∷  -- 2
    (Fire 2 1 (codes "load"), 0 ∷ []) ∷  -- 3
    (Close 2, 3 ∷ []) ∷  -- 4
    [])

-- a list with an inline dispatch on the stack, and a job that its caller queued
abbrev pub within_inline : List Record
within_inline = Inline 1 1 (codes "a") ∷ Queue 1 ∷ Exec 1 ∷ Parse 0 1 kinds.Inline ∷ []

-- A job is misplaced while an inline dispatch is on the stack; a close may follow.
abbrev pub MisplacedJobs : Type 0
MisplacedJobs = map (sound.cause (tables.rules Three) within_inline)
    (Job 1 ∷ Job 2 ∷ Queue 1 ∷ Message 1 ∷ Close 1 ∷ [])
    ≡ Some Misplaced ∷ Some Unknown ∷ Some Again ∷ Some Unknown ∷ None ∷ []

-- the run of the second of three deferred scripts
abbrev pub second_ran : List Record
second_ran = Exec 2 ∷ Parse 0 3 kinds.Defer ∷ Parse 0 2 kinds.Defer ∷ Parse 0 1 kinds.Defer ∷ []

-- Behind it the first is late, and so is a parse step.
abbrev pub LateRecords : Type 0
LateRecords = map (sound.cause (tables.rules One) second_ran)
    (Exec 1 ∷ Exec 3 ∷ Parse 0 4 kinds.Plain ∷ Dcl 1 0 ∷ Back 1 ∷ [])
    ≡ Some OutOfOrder ∷ None ∷ Some OutOfOrder ∷ None ∷ Some Unknown ∷ []
