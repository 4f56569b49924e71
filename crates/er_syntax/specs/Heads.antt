-- The first word of a record, and how it goes on.
use Rattle.std.specs.Prelude.{◌≡◌, ℕ, ◌-◌, Bool, true, false, List, map, drop, codes, length, Some, slice_get}
use Rattle.er_syntax.specs.declared.head.Head.{Head}
use Rattle.er_syntax.specs.declared.head.Head.TheVariants as heads
use Rattle.er_trace.specs.declared.record.Record.{Record}
use Rattle.er_trace.specs.declared.record.Record.TheVariants.{Parse, ParseFrame, Exec, Timer, Tick, Dcl, Load, Eload, Fire, Wfire, Reply, Inline, Run, Close, Back, New, NewFrame, On, Set, Every, Send, Post, Ask, Queue, Message, Anim, Job, Access}
use Rattle.er_trace.specs.declared.record.Mode.{Mode}
use Rattle.er_trace.specs.declared.record.Mode.TheVariants as modes
use Rattle.er_trace.specs.Items.{item_spelling}
use Rattle.er_trace.specs.Spelling.{record_items, IsRecord}

abbrev pub head_word : Head → List ℕ
head_word heads.Parse = codes "parse"
head_word heads.Exec = codes "exec"
head_word heads.Timer = codes "timer"
head_word heads.Tick = codes "tick"
head_word heads.Dcl = codes "dcl"
head_word heads.Load = codes "load"
head_word heads.Eload = codes "eload"
head_word heads.Fire = codes "fire"
head_word heads.Wfire = codes "wfire"
head_word heads.Reply = codes "reply"
head_word heads.Inline = codes "inline"
head_word heads.Run = codes "run"
head_word heads.Close = codes "close"
head_word heads.Back = codes "back"
head_word heads.New = codes "new"
head_word heads.On = codes "on"
head_word heads.Set = codes "set"
head_word heads.Every = codes "every"
head_word heads.Send = codes "send"
head_word heads.Post = codes "post"
head_word heads.Ask = codes "ask"
head_word heads.Queue = codes "queue"
head_word heads.Message = codes "message"
head_word heads.Anim = codes "anim"
head_word heads.Job = codes "job"
head_word heads.R = codes "r"
head_word heads.W = codes "w"

-- the word begins with that byte, and ends with that one
abbrev pub HasEnds : Head → ℕ → ℕ → Type 0
HasEnds head first last =
    (slice_get (head_word head) 0 ≡ Some first)
    × (slice_get (head_word head) (length (head_word head) - 1) ≡ Some last)

abbrev pub mode_head : Mode → Head
mode_head modes.R = heads.R
mode_head modes.W = heads.W

abbrev pub record_head : Record → Head
record_head (Parse d e k) = heads.Parse
record_head (ParseFrame d e f) = heads.Parse
record_head (Exec e) = heads.Exec
record_head (Timer t) = heads.Timer
record_head (Tick i) = heads.Tick
record_head (Dcl p d) = heads.Dcl
record_head (Load p d) = heads.Load
record_head (Eload p e) = heads.Eload
record_head (Fire p e n) = heads.Fire
record_head (Wfire p d n) = heads.Wfire
record_head (Reply p r) = heads.Reply
record_head (Inline p e n) = heads.Inline
record_head (Run p g h) = heads.Run
record_head (Close p) = heads.Close
record_head (Back p) = heads.Back
record_head (New d e k) = heads.New
record_head (NewFrame d e f) = heads.New
record_head (On h) = heads.On
record_head (Set t n) = heads.Set
record_head (Every i n) = heads.Every
record_head (Send r) = heads.Send
record_head (Post n) = heads.Post
record_head (Ask n) = heads.Ask
record_head (Queue n) = heads.Queue
record_head (Message n) = heads.Message
record_head (Anim n) = heads.Anim
record_head (Job n) = heads.Job
record_head (Access m l) = mode_head m

-- the first word of a record that declares or begins a message, an animation callback or a job
abbrev pub begins_task : Head → Bool
begins_task heads.Post = true
begins_task heads.Ask = true
begins_task heads.Queue = true
begins_task heads.Message = true
begins_task heads.Anim = true
begins_task heads.Job = true
begins_task _ = false

-- the words of a record after its first
abbrev pub later_words : Record → List (List ℕ)
later_words x = map item_spelling (drop 1 (record_items x))

-- the record begins with that word, and goes on with those
pub record GoesOn (head : Head) (x : Record) (later : List (List ℕ)) : Type 0 where
  pub headed : record_head x ≡ head
  pub is_record : IsRecord x
  pub spelled : later ≡ later_words x
