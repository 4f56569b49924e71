-- What the stack and the events keep of dispatches, against what the records say. Lists of records
-- stand newest first.
use Rattle.std.specs.Prelude.{◌≡◌, ◌⊎◌, ℕ, ◌+◌, true, List, [], ◌∷◌, option_map, Option, Some, None}
use Rattle.std.specs.List.{list_any}
use Rattle.er_trace.specs.declared.record.Record.{Record}
use Rattle.er_trace.specs.declared.record.Record.TheVariants.{Dcl, Load, Eload, Fire, Wfire, Reply, Inline, Run, Close, Back}
use Rattle.er_history.specs.History.{Dispatch, is_inline, What, BeginOf, HandlerOf, CloseOf, Action, Open, told, running, event_begun}
use Rattle.er_history.specs.Laws.{Among}
use Rattle.er_history.specs.Naming.{naming, IsNamed, begins_dispatch}
use Rattle.er_history.specs.Unfinished.{begins_close, begins_inline}

-- it is one of these
abbrev pub IsOn : Open → List Open → Type 0
IsOn o [] = ⊥
IsOn o (p ∷ below) = (o ≡ p) ⊎ IsOn o below

-- Whether the close of a dispatch on the stack has begun, and whether it is inline, is what the
-- records say.
abbrev pub StackIsAsRead : Type 0
StackIsAsRead = (h : List Record) (o : Open) → IsNamed h → IsOn o (told h).stack
    → (o.closing ≡ list_any (begins_close o.dispatch.number) h)
    × (is_inline o.dispatch ≡ list_any (begins_inline o.dispatch.number) h)

-- the action that began the dispatch, and its record
pub record IsBegin (d : Dispatch) (a : Action) : Type 0 where
  pub number : a.number ≡ d.begin
  pub keeps : a.event.what ≡ BeginOf d
  pub read : begins_dispatch d.number a.begin ≡ true

-- one of these actions began it
abbrev pub HasBegin : List Action → Dispatch → Type 0
HasBegin actions d = (a : Action) × Among a actions × IsBegin d a

-- the dispatch of a begin, a handler or a close
abbrev pub dispatch_of : What → Option Dispatch
dispatch_of (BeginOf d) = Some d
dispatch_of (HandlerOf d g x m) = Some d
dispatch_of (CloseOf d) = Some d
dispatch_of _ = None

-- an action of the list keeps the dispatch
abbrev pub KeepsDispatch : List Record → Action → Dispatch → Type 0
KeepsDispatch h a d = Among a (told h).actions × (dispatch_of a.event.what ≡ Some d)

-- A dispatch on the stack was begun by the action that it names as its begin, and that by a record
-- of its number.
abbrev pub OpenHaveBegun : Type 0
OpenHaveBegun = (h : List Record) (o : Open) → IsNamed h → IsOn o (told h).stack
    → HasBegin (told h).actions o.dispatch

-- So was one that an event keeps.
abbrev pub KeptHaveBegun : Type 0
KeptHaveBegun = (h : List Record) (a : Action) (d : Dispatch) → IsNamed h → KeepsDispatch h a d
    → HasBegin (told h).actions d

-- Begin, handlers and close of one number keep one dispatch.
abbrev pub OneDispatchANumber : Type 0
OneDispatchANumber = (h : List Record) (a b : Action) (d e : Dispatch)
    → IsNamed h → KeepsDispatch h a d
    → KeepsDispatch h b e
    → d.number ≡ e.number → d ≡ e

-- It is the one on the stack, while that is not finished.
abbrev pub OpenIsKept : Type 0
OpenIsKept = (h : List Record) (a : Action) (d : Dispatch) (o : Open)
    → IsNamed h → KeepsDispatch h a d
    → IsOn o (told h).stack
    → d.number ≡ o.dispatch.number → d ≡ o.dispatch

-- the number of the dispatch that a record begins, runs a handler of or closes
abbrev pub dispatch_named : Record → Option ℕ
dispatch_named (Dcl p d) = Some p
dispatch_named (Load p d) = Some p
dispatch_named (Eload p e) = Some p
dispatch_named (Fire p e n) = Some p
dispatch_named (Wfire p d n) = Some p
dispatch_named (Reply p r) = Some p
dispatch_named (Inline p e n) = Some p
dispatch_named (Run p g x) = Some p
dispatch_named (Close p) = Some p
dispatch_named _ = None

-- An event keeps a dispatch of the number in the record of its first piece.
abbrev pub KeptAsRead : Type 0
KeptAsRead = (h : List Record) (a : Action) → IsNamed h → Among a (told h).actions
    → a.event.number ≡ a.number
    → option_map (λ (d : Dispatch). d.number) (dispatch_of a.event.what) ≡ dispatch_named a.begin

-- Where naming accepts `back`: the begin of the inline dispatch, and the piece just before it, of
-- whose event is the one that goes on.
pub record GoesOn (h : List Record) (p : ℕ) : Type 0 where
  pub begin : Action
  pub begun : Among begin (told h).actions
  pub read : begins_inline p begin.begin ≡ true
  pub caller : Action
  pub called : Among caller (told h).actions
  pub before : caller.number + 1 ≡ begin.number
  pub event : event_begun (told h) (Back p) ≡ caller.event

abbrev pub BackGoesOn : Type 0
BackGoesOn = (h : List Record) (p : ℕ) → IsNamed h → naming h (Back p) ≡ None → GoesOn h p

abbrev pub IsCloseOf : ℕ → What → Type 0
IsCloseOf p (CloseOf d) = d.number ≡ p
IsCloseOf p _ = ⊥

-- The action that runs before it is a piece of the close.
abbrev pub BackEndsClose : Type 0
BackEndsClose = (h : List Record) (p : ℕ) (c : Action) → IsNamed h → naming h (Back p) ≡ None
    → running (told h).actions ≡ Some c → IsCloseOf p c.event.what
