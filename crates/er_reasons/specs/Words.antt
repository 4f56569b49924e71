-- Parts of the rules: the tests between what two events deliver.
use Rattle.std.specs.Prelude.{ℕ, Bool, false, not, ◌==◌, ◌&&◌, nat_lt, nat_le, List, Option}
use Rattle.er_trace.specs.declared.record.Record.{Record}
use Rattle.er_history.specs.History.{Element, Delivery, LoadOf, EloadOf, FireAt, InlineAt, ReplyOf, What, ScriptRun, TimeoutRun, TickRun, CloseOf, MessageRun, AnimRun, Task, Timeout, Event, Action, is_inline}
use Rattle.er_history.specs.Rules.{is_some_and, both_some_and, is_plain, declared, is_blocking, is_deferred, same_bytes}

-- the run of this script
abbrev pub runs_element : ℕ → What → Bool
runs_element e (ScriptRun f made) = f == e
runs_element e _ = false

-- a blocking script of the document that was parsed before this step
abbrev pub blocks_step : ℕ → ℕ → Element → Bool
blocks_step doc step x = is_blocking x && ((x.doc == doc) && nat_lt x.piece step)

-- a blocking script, and a deferred one of its document
abbrev pub blocks_deferred : Element → Element → Bool
blocks_deferred x y = is_blocking x && (is_deferred y && (x.doc == y.doc))

-- two deferred scripts of one document, the first parsed before the other
abbrev pub deferred_before : Element → Element → Bool
deferred_before x y =
    is_deferred x && (is_deferred y && ((x.doc == y.doc) && nat_lt x.piece y.piece))

-- the first load event of a static element that is not plain, and load of its document
abbrev pub is_static_load_before : Delivery → Delivery → Bool
is_static_load_before (EloadOf x made) (LoadOf d m) =
    is_some_and (λ e. e.is_static && (not (is_plain e) && (e.doc == d))) made
is_static_load_before _ _ = false

-- load of a document, and the first load event of the frame that declared it
abbrev pub is_inner_load_before : Delivery → Delivery → Bool
is_inner_load_before (LoadOf f m) (EloadOf x made) = is_some_and (λ e. declared e.form f) made
is_inner_load_before _ _ = false

-- the close of a reply of this request
abbrev pub closes_reply : ℕ → What → Bool
closes_reply r (CloseOf p) = of p.delivers
  where
    of : Delivery → Bool
    of (ReplyOf s m) = s == r
    of _ = false
closes_reply r _ = false

-- a dispatch of this type at the element
abbrev pub is_at : ℕ → List ℕ → Delivery → Bool
is_at e n (FireAt f k m) = (e == f) && same_bytes n k
is_at e n (InlineAt f k m) = (e == f) && same_bytes n k
is_at e n _ = false

-- the event that set the timeout
abbrev pub is_setter : Option Timeout → ℕ → Bool
is_setter made event = is_some_and (λ x. x.maker == event) made

-- both timeouts were set by one event, the one before the other with no greater delay
abbrev pub fires_in_order : Option Timeout → Option Timeout → Bool
fires_in_order made later =
    both_some_and (λ x y.
    (x.maker == y.maker) && (nat_lt x.place y.place && nat_le x.delay y.delay))
    made later

-- the one timeout was set before the other with no greater delay, and a path leads from the piece
-- that set it to that of the other
abbrev pub fires_behind : (ℕ → ℕ → Bool) → Option Timeout → Option Timeout → Bool
fires_behind joined made later =
    both_some_and (λ x y.
    nat_lt x.place y.place && (nat_le x.delay y.delay && joined x.piece y.piece))
    made later

-- the event that declared the task
abbrev pub is_declarer : Option Task → ℕ → Bool
is_declarer made event = is_some_and (λ (x : Task). x.maker == event) made

-- the callback of a timeout or an interval that this event set, the event of a message that it
-- posted, or an animation callback that it asked for
abbrev pub declares : ℕ → What → Bool
declares maker (TimeoutRun t made) = is_setter made maker
declares maker (TickRun i m) = is_some_and (λ (k : ℕ). k == maker) m
declares maker (MessageRun m made) = is_declarer made maker
declares maker (AnimRun a made) = is_declarer made maker
declares maker _ = false

-- an action of this number, begun by a record, a piece of an event
abbrev pub piece : ℕ → Record → Event → Action
piece i x e = record { number = i; begin = x; event = e }

-- the close of the inline dispatch of this number
abbrev pub closes_inline : ℕ → What → Bool
closes_inline p (CloseOf d) = is_inline d && (d.number == p)
closes_inline p _ = false
