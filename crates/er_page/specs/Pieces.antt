-- What the pieces of a page stand for.
use Rattle.std.specs.Prelude.{◌≡◌, ℕ, Bool, true, false, if◌then◌else◌, List, [], ◌∷◌, map, length, reverse, Option, Some, None}
use Rattle.er_numbers.specs.Numbers.{found}
use Rattle.er_trace.specs.declared.record.Record.{Record}
use Rattle.er_trace.specs.declared.record.Record.TheVariants.{Parse, ParseFrame, Exec, Timer, Tick, Dcl, Load, Eload, Fire, Wfire, Reply, Inline, Run, Close, Back, New, NewFrame, On, Set, Every, Send, Access, Post, Ask, Queue, Message, Anim, Job}
use Rattle.er_history.specs.History.{told, begins, event_begun, Action, Event, What, ParseStep, ScriptRun, TimeoutRun, TickRun, BeginOf, HandlerOf, CloseOf, MessageRun, AnimRun, JobRun, Unnamed}
use Rattle.er_history.specs.LookUps.{latest_piece}
use Rattle.er_history.specs.declared.firsts.Now.{Now}
use Rattle.er_page.specs.declared.piece.Begun.{Begun}
use Rattle.er_page.specs.declared.piece.Begun.TheVariants as begun
use Rattle.er_page.specs.declared.piece.Piece.{Piece}
use Rattle.er_page.specs.declared.piece.Start.{Start}
use Rattle.er_page.specs.declared.piece.Pieces.{Pieces}
use Rattle.er_page.specs.declared.stack.Level.{Level}

-- what an event is
abbrev pub begun_as : What → Option Begun
begun_as (ParseStep d m) = Some begun.Parse
begun_as (ScriptRun e m) = Some begun.Exec
begun_as (TimeoutRun t m) = Some begun.Timer
begun_as (TickRun i m) = Some begun.Tick
begun_as (BeginOf d) = Some begun.Begin
begun_as (HandlerOf d g x m) = Some begun.Handler
begun_as (CloseOf d) = Some begun.Close
begun_as (MessageRun m made) = Some begun.Message
begun_as (AnimRun a made) = Some begun.Anim
begun_as (JobRun j made within) = Some begun.Job
begun_as Unnamed = None

-- the begin of the dispatch of a handler or a close
abbrev pub serves : What → Option ℕ
serves (HandlerOf d g x m) = Some d.begin
serves (CloseOf d) = Some d.begin
serves _ = None

-- What the event is that a record begins. A note begins none, and `back` a piece of an older one.
abbrev pub begun_by : Record → Option Begun
begun_by (Parse d e k) = Some begun.Parse
begun_by (ParseFrame d e f) = Some begun.Parse
begun_by (Exec e) = Some begun.Exec
begun_by (Timer t) = Some begun.Timer
begun_by (Tick i) = Some begun.Tick
begun_by (Dcl p d) = Some begun.Begin
begun_by (Load p d) = Some begun.Begin
begun_by (Eload p e) = Some begun.Begin
begun_by (Fire p e n) = Some begun.Begin
begun_by (Wfire p d n) = Some begun.Begin
begun_by (Reply p r) = Some begun.Begin
begun_by (Inline p e n) = Some begun.Begin
begun_by (Run p g x) = Some begun.Handler
begun_by (Close p) = Some begun.Close
begun_by (Message m) = Some begun.Message
begun_by (Anim a) = Some begun.Anim
begun_by (Job j) = Some begun.Job
begun_by (Back p) = None
begun_by (New d e k) = None
begun_by (NewFrame d e f) = None
begun_by (On h) = None
begun_by (Set t n) = None
begun_by (Every i n) = None
begun_by (Send r) = None
begun_by (Post m) = None
begun_by (Ask a) = None
begun_by (Queue j) = None
begun_by (Access m l) = None

-- an event of these can call an inline dispatch
abbrev pub calls : Begun → Bool
calls begun.Parse = false
calls begun.Begin = false
calls begun.Exec = true
calls begun.Timer = true
calls begun.Tick = true
calls begun.Handler = true
calls begun.Close = true
calls begun.Message = true
calls begun.Anim = true
calls begun.Job = true

-- what is kept of an event
pub record About : Type 0 where
  pub event : ℕ
  pub begun : Option Begun
  pub serves : Option ℕ

abbrev pub about : Event → About
about e = record { event = e.number; begun = begun_as e.what; serves = serves e.what }

abbrev pub about_start : Start → About
about_start s = record { event = s.event; begun = Some s.begun; serves = s.serves }

-- what is kept of an action
pub record Seen : Type 0 where
  pub begin : Record
  pub about : About

abbrev pub seen : Action → Seen
seen a = record { begin = a.begin; about = about a.event }

abbrev pub kept : Piece → Seen
kept p = record { begin = p.begin; about = about_start p.start }

-- they are the actions, and the latest of each event is known
pub record PiecesAre (pieces : Pieces) (h : List Record) : Type 0 where
  pub all : map kept (reverse pieces.list.items) ≡ map seen (told h).actions
  pub latest : (u : ℕ) → found pieces.latest u ≡ latest_piece h u

abbrev pub start_in : Piece → Start
start_in p = p.start

-- the event of the newest piece
abbrev pub newest_of : List Piece → Option Start
newest_of [] = None
newest_of (p ∷ older) = Some p.start

-- the running action and its event
abbrev pub now_of : List Piece → Option Now
now_of [] = None
now_of (p ∷ older) = Some (record { action = length older; event = p.start.event })

-- the event that a record begins, or goes on with; a note does neither
abbrev pub about_begun : List Record → Record → Option About
about_begun h x = if begins x then Some (about (event_begun (told h) x)) else None

-- the begin of the dispatch on top, for a record that serves it
abbrev pub top_begin : List Level → Option ℕ
top_begin [] = None
top_begin (l ∷ below) = Some l.begin

abbrev pub served : List Level → Record → Option ℕ
served ls (Run p g x) = top_begin ls
served ls (Close p) = top_begin ls
served ls _ = None
