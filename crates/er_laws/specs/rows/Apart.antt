-- What is apart: lists in which a rule says nothing of events that are near to what it says. Behind
-- each line stands the action that it begins.
use Rattle.std.specs.Prelude.{[], ◌∷◌, codes}
use Rattle.er_trace.specs.declared.record.Record.TheVariants.{Parse, ParseFrame, Exec, Timer, Load, Eload, Fire, Wfire, Run, Close, New, On, Set}
use Rattle.er_trace.specs.declared.record.Kind.TheVariants as kinds
use Rattle.er_trace.specs.declared.record.NewKind.TheVariants as new_kinds
use Rattle.er_history.specs.Rows.{IsRow}

-- Rule 11: the close of the first load event of a plain element is no source of load, though the
-- element is static.
abbrev pub PlainElementNotForLoad : Type 0
PlainElementNotForLoad = IsRow (
    (Parse 0 1 kinds.Plain, []) ∷  -- 0
    (Eload 1 1, 0 ∷ []) ∷  -- 1
    (Close 1, 1 ∷ []) ∷  -- 2
    (Load 2 0, 0 ∷ []) ∷  -- 3
    [])

-- Rule 11: nor is that of an element that a script made, though it is not plain.
abbrev pub MadeElementNotForLoad : Type 0
MadeElementNotForLoad = IsRow (
    (Parse 0 1 kinds.Inline, []) ∷  -- 0
    (Exec 1, 0 ∷ []) ∷  -- 1
    (New 0 2 new_kinds.Image, []) ∷
    (Eload 1 2, 1 ∷ []) ∷  -- 2
    (Close 1, 2 ∷ []) ∷  -- 3
    (Load 2 0, 1 ∷ 0 ∷ []) ∷  -- 4
    [])

-- Rule 11: that of a static image is one, and its handler and its begin are none.
abbrev pub CloseForLoad : Type 0
CloseForLoad = IsRow (
    (Parse 0 1 kinds.Image, []) ∷  -- 0
    (On 1, []) ∷
    (Eload 1 1, 0 ∷ []) ∷  -- 1
    (Run 1 0 1, 1 ∷ 0 ∷ []) ∷  -- 2
    (Close 1, 2 ∷ 1 ∷ []) ∷  -- 3
    (Load 2 0, 3 ∷ 0 ∷ []) ∷  -- 4
    [])

-- Rule 11: that of an image of another document is none.
abbrev pub OtherDocumentNotForLoad : Type 0
OtherDocumentNotForLoad = IsRow (
    (ParseFrame 0 1 1, []) ∷  -- 0
    (Parse 1 2 kinds.Image, 0 ∷ []) ∷  -- 1
    (Eload 1 2, 1 ∷ []) ∷  -- 2
    (Close 1, 2 ∷ []) ∷  -- 3
    (Load 2 0, 0 ∷ []) ∷  -- 4
    [])

-- Rule 17: dispatches of one type at two windows are in no order.
abbrev pub WindowsApart : Type 0
WindowsApart = IsRow (
    (ParseFrame 0 1 1, []) ∷  -- 0
    (Wfire 1 0 (codes "a"), []) ∷  -- 1
    (Close 1, 1 ∷ []) ∷  -- 2
    (Wfire 2 1 (codes "a"), 0 ∷ []) ∷  -- 3
    (Close 2, 3 ∷ []) ∷  -- 4
    (Wfire 3 0 (codes "a"), 2 ∷ []) ∷  -- 5
    [])

-- Rule 17: nor are those at an element and at the window of the document of its number.
abbrev pub ElementAndWindowApart : Type 0
ElementAndWindowApart = IsRow (
    (ParseFrame 0 1 1, []) ∷  -- 0
    (Fire 1 1 (codes "a"), 0 ∷ []) ∷  -- 1
    (Close 1, 1 ∷ []) ∷  -- 2
    (Wfire 2 1 (codes "a"), 0 ∷ []) ∷  -- 3
    (Close 2, 3 ∷ []) ∷  -- 4
    (Fire 3 1 (codes "a"), 2 ∷ 0 ∷ []) ∷  -- 5
    (Close 3, 5 ∷ []) ∷  -- 6
    (Wfire 4 1 (codes "a"), 4 ∷ 0 ∷ []) ∷  -- 7
    [])

-- Rule 17: nor are those of two types at one element or one window.
abbrev pub TypesApart : Type 0
TypesApart = IsRow (
    (Parse 0 1 kinds.Plain, []) ∷  -- 0
    (Fire 1 1 (codes "a"), 0 ∷ []) ∷  -- 1
    (Close 1, 1 ∷ []) ∷  -- 2
    (Fire 2 1 (codes "b"), 0 ∷ []) ∷  -- 3
    (Close 2, 3 ∷ []) ∷  -- 4
    (Wfire 3 0 (codes "a"), []) ∷  -- 5
    (Close 3, 5 ∷ []) ∷  -- 6
    (Wfire 4 0 (codes "b"), []) ∷  -- 7
    [])

-- Rule 19: a timeout that was set first with the longer delay, and fired first, is no
-- source of the other.
abbrev pub LongerDelaySetFirst : Type 0
LongerDelaySetFirst = IsRow (
    (Parse 0 1 kinds.Inline, []) ∷  -- 0
    (Exec 1, 0 ∷ []) ∷  -- 1
    (Set 1 10, []) ∷
    (Set 2 0, []) ∷
    (Timer 1, 1 ∷ []) ∷  -- 2
    (Timer 2, 1 ∷ []) ∷  -- 3
    [])

-- Rule 19: nor is the other, where that fired first.
abbrev pub ShorterDelaySetLast : Type 0
ShorterDelaySetLast = IsRow (
    (Parse 0 1 kinds.Inline, []) ∷  -- 0
    (Exec 1, 0 ∷ []) ∷  -- 1
    (Set 1 10, []) ∷
    (Set 2 0, []) ∷
    (Timer 2, 1 ∷ []) ∷  -- 2
    (Timer 1, 1 ∷ []) ∷  -- 3
    [])

-- Rule 7: deferred scripts of two documents are in no order, whichever was parsed first.
abbrev pub DeferredOfTwoDocuments : Type 0
DeferredOfTwoDocuments = IsRow (
    (ParseFrame 0 1 1, []) ∷  -- 0
    (Parse 1 2 kinds.Defer, 0 ∷ []) ∷  -- 1
    (Parse 0 3 kinds.Defer, 0 ∷ []) ∷  -- 2
    (Exec 3, 2 ∷ 0 ∷ []) ∷  -- 3
    (Exec 2, 1 ∷ []) ∷  -- 4
    [])
