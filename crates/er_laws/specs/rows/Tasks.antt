-- What the definitions say of messages, animation callbacks and jobs, in version 3. Behind each
-- line stands the action that it begins.
use Rattle.std.specs.Prelude.{List, [], ◌∷◌, codes}
use Rattle.er_trace.specs.declared.record.Record.{Record}
use Rattle.er_trace.specs.declared.record.Record.TheVariants.{Parse, Exec, Timer, Tick, Load, Fire, Wfire, Reply, Inline, Run, Close, Back, On, Set, Every, Send, Post, Ask, Queue, Message, Anim, Job}
use Rattle.er_trace.specs.declared.record.Kind.TheVariants as kinds
use Rattle.er_trace.specs.declared.version.Version.TheVariants.{Three}
use Rattle.er_history.specs.Rows.{IsRowOf}

-- A script queues a job before an inline dispatch, and another when it goes on. Both come before
-- all that the script declared.
abbrev pub JobsOfTwoPieces : Type 0
JobsOfTwoPieces = IsRowOf Three (
    (Parse 0 1 kinds.Inline, []) ∷  -- 0
    (Exec 1, 0 ∷ []) ∷  -- 1
    (Set 1 0, []) ∷
    (Every 1 5, []) ∷
    (Ask 1, []) ∷
    (Queue 1, []) ∷
    (Inline 1 1 (codes "a"), 1 ∷ 0 ∷ []) ∷  -- 2
    (Close 1, 2 ∷ []) ∷  -- 3
    (Back 1, 3 ∷ 1 ∷ 0 ∷ []) ∷  -- 4
    (Post 1, []) ∷
    (Queue 2, []) ∷
    (Job 2, 4 ∷ 1 ∷ []) ∷  -- 5
    (Job 1, 4 ∷ 1 ∷ []) ∷  -- 6
    (Timer 1, 6 ∷ 5 ∷ 4 ∷ 1 ∷ []) ∷  -- 7
    (Tick 1, 6 ∷ 5 ∷ 4 ∷ 1 ∷ []) ∷  -- 8
    (Anim 1, 6 ∷ 5 ∷ 4 ∷ 1 ∷ []) ∷  -- 9
    (Message 1, 6 ∷ 5 ∷ 4 ∷ 1 ∷ []) ∷  -- 10
    [])

-- Pages that were drawn at random, with many such tasks.

abbrev pub FirstTasks : Type 0
FirstTasks = IsRowOf Three (
    (Wfire 17 0 (codes "z"), []) ∷  -- 0
    (Queue 12, []) ∷
    (Queue 13, []) ∷
    (Queue 14, []) ∷
    (Job 12, 0 ∷ []) ∷  -- 1
    (Job 13, 1 ∷ 0 ∷ []) ∷  -- 2
    (Close 17, 2 ∷ 1 ∷ 0 ∷ []) ∷  -- 3
    (Post 5, []) ∷
    (Queue 15, []) ∷
    (Queue 16, []) ∷
    (Message 5, 3 ∷ []) ∷  -- 4
    (Job 14, 2 ∷ 1 ∷ 0 ∷ []) ∷  -- 5
    (Post 7, []) ∷
    (Queue 17, []) ∷
    (Send 17, []) ∷
    (Queue 18, []) ∷
    (Job 16, 5 ∷ 3 ∷ 2 ∷ 1 ∷ []) ∷  -- 6
    (Post 8, []) ∷
    (Job 15, 5 ∷ 3 ∷ 2 ∷ 1 ∷ []) ∷  -- 7
    (Queue 20, []) ∷
    (Ask 7, []) ∷
    (Post 9, []) ∷
    (Queue 21, []) ∷
    (Job 20, 7 ∷ 6 ∷ 5 ∷ 2 ∷ 1 ∷ []) ∷  -- 8
    (Queue 22, []) ∷
    (Message 8, 6 ∷ 4 ∷ []) ∷  -- 9
    (Job 21, 8 ∷ 7 ∷ 6 ∷ 5 ∷ 2 ∷ 1 ∷ []) ∷  -- 10
    (Set 10 0, []) ∷
    (Message 9, 10 ∷ 8 ∷ 7 ∷ 4 ∷ []) ∷  -- 11
    (Queue 23, []) ∷
    (Timer 10, 10 ∷ []) ∷  -- 12
    (Job 18, 5 ∷ 2 ∷ 1 ∷ []) ∷  -- 13
    (Job 22, 13 ∷ 10 ∷ 8 ∷ 7 ∷ 6 ∷ 5 ∷ 2 ∷ 1 ∷ []) ∷  -- 14
    (Anim 7, 10 ∷ 8 ∷ 7 ∷ []) ∷  -- 15
    (Job 17, 5 ∷ 2 ∷ 1 ∷ []) ∷  -- 16
    (Queue 25, []) ∷
    (Ask 8, []) ∷
    (Job 23, 16 ∷ 14 ∷ 13 ∷ 11 ∷ 10 ∷ 8 ∷ 7 ∷ 6 ∷ 5 ∷ 2 ∷ 1 ∷ []) ∷  -- 17
    (Queue 27, []) ∷
    (Queue 28, []) ∷
    (Send 26, []) ∷
    (Anim 8, 16 ∷ []) ∷  -- 18
    (Job 25, 16 ∷ 13 ∷ 5 ∷ 2 ∷ 1 ∷ []) ∷  -- 19
    (Reply 27 17, 5 ∷ []) ∷  -- 20
    (Close 27, 20 ∷ []) ∷  -- 21
    (Ask 9, []) ∷
    [])

abbrev pub SecondTasks : Type 0
SecondTasks = IsRowOf Three (
    (Parse 0 3 kinds.Defer, []) ∷  -- 0
    (Exec 3, 0 ∷ []) ∷  -- 1
    (Set 1 3, []) ∷
    (Queue 3, []) ∷
    (Queue 4, []) ∷
    (Inline 2 3 (codes "z"), 1 ∷ 0 ∷ []) ∷  -- 2
    (Close 2, 2 ∷ []) ∷  -- 3
    (Back 2, 3 ∷ 1 ∷ 0 ∷ []) ∷  -- 4
    (Post 2, []) ∷
    (Queue 5, []) ∷
    (Load 7 0, 4 ∷ 1 ∷ 0 ∷ []) ∷  -- 5
    (Close 7, 5 ∷ []) ∷  -- 6
    (Job 4, 4 ∷ 1 ∷ []) ∷  -- 7
    (Message 2, 7 ∷ 4 ∷ 1 ∷ []) ∷  -- 8
    (Timer 1, 7 ∷ 4 ∷ 1 ∷ []) ∷  -- 9
    (Queue 7, []) ∷
    (Every 5 3, []) ∷
    (Job 7, 9 ∷ 7 ∷ []) ∷  -- 10
    (On 2, []) ∷
    (Job 5, 7 ∷ 4 ∷ 1 ∷ []) ∷  -- 11
    (Ask 6, []) ∷
    (Post 4, []) ∷
    (Anim 6, 11 ∷ []) ∷  -- 12
    (Queue 10, []) ∷
    (On 5, []) ∷
    (Ask 8, []) ∷
    (Queue 11, []) ∷
    (Post 5, []) ∷
    (Job 3, 4 ∷ 1 ∷ []) ∷  -- 13
    (Message 5, 12 ∷ 8 ∷ []) ∷  -- 14
    (Job 10, 13 ∷ 12 ∷ 11 ∷ 7 ∷ []) ∷  -- 15
    (Ask 9, []) ∷
    (Message 4, 11 ∷ 8 ∷ []) ∷  -- 16
    (Inline 17 3 (codes "z"), 16 ∷ 3 ∷ 0 ∷ []) ∷  -- 17
    (Close 17, 17 ∷ []) ∷  -- 18
    (Back 17, 18 ∷ 16 ∷ 11 ∷ 8 ∷ []) ∷  -- 19
    (Anim 8, 15 ∷ 12 ∷ []) ∷  -- 20
    (Inline 18 3 (codes "click"), 20 ∷ 0 ∷ []) ∷  -- 21
    (Close 18, 21 ∷ []) ∷  -- 22
    (Back 18, 22 ∷ 20 ∷ 15 ∷ 12 ∷ []) ∷  -- 23
    [])

abbrev pub ThirdTasks : Type 0
ThirdTasks = IsRowOf Three (
    (Parse 0 6 kinds.Defer, []) ∷  -- 0
    (Exec 6, 0 ∷ []) ∷  -- 1
    (On 1, []) ∷
    (Inline 4 6 (codes "click"), 1 ∷ 0 ∷ []) ∷  -- 2
    (Close 4, 2 ∷ []) ∷  -- 3
    (Inline 5 6 (codes "click"), 3 ∷ 0 ∷ []) ∷  -- 4
    (Post 3, []) ∷
    (Post 4, []) ∷
    (Close 5, 4 ∷ []) ∷  -- 5
    (Back 5, 5 ∷ 3 ∷ 2 ∷ []) ∷  -- 6
    (Post 5, []) ∷
    (Back 4, 6 ∷ 3 ∷ 1 ∷ 0 ∷ []) ∷  -- 7
    (Fire 8 6 (codes "z"), 0 ∷ []) ∷  -- 8
    (Queue 1, []) ∷
    (Job 1, 8 ∷ []) ∷  -- 9
    (On 7, []) ∷
    (Close 8, 9 ∷ 8 ∷ []) ∷  -- 10
    (Message 4, 4 ∷ []) ∷  -- 11
    (On 9, []) ∷
    (Message 3, 4 ∷ []) ∷  -- 12
    (Message 5, 12 ∷ 11 ∷ 6 ∷ 3 ∷ []) ∷  -- 13
    (Every 6 3, []) ∷
    (Post 8, []) ∷
    (Post 9, []) ∷
    (On 10, []) ∷
    (Fire 11 6 (codes "z"), 10 ∷ 0 ∷ []) ∷  -- 14
    (Queue 2, []) ∷
    (Set 7 1, []) ∷
    (Job 2, 14 ∷ 9 ∷ []) ∷  -- 15
    (Queue 3, []) ∷
    (Run 11 2 9, 14 ∷ 11 ∷ []) ∷  -- 16
    (Job 3, 15 ∷ 9 ∷ []) ∷  -- 17
    (Set 8 2, []) ∷
    (Every 7 1, []) ∷
    (Post 12, []) ∷
    (On 15, []) ∷
    (Run 11 2 10, 14 ∷ 13 ∷ []) ∷  -- 18
    (Run 11 2 15, 17 ∷ 14 ∷ []) ∷  -- 19
    (On 17, []) ∷
    (On 19, []) ∷
    (Post 13, []) ∷
    (Post 14, []) ∷
    (Close 11, 19 ∷ 18 ∷ 17 ∷ 16 ∷ 15 ∷ 14 ∷ []) ∷  -- 20
    (Post 17, []) ∷
    (Message 9, 13 ∷ 12 ∷ 11 ∷ []) ∷  -- 21
    (Message 17, 21 ∷ 20 ∷ 13 ∷ 12 ∷ 11 ∷ []) ∷  -- 22
    [])
