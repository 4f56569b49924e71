-- Which events must come before which.
use Rattle.std.specs.Prelude.{ℕ, Bool, true, false, not, ◌==◌, ◌&&◌, ◌||◌, nat_lt, nat_le, List, [], ◌∷◌, ◌++◌, Option, Some, None}
use Rattle.std.specs.List.{list_any}
use Rattle.er_trace.specs.declared.record.Kind.{Kind}
use Rattle.er_trace.specs.declared.record.Kind.TheVariants as kinds
use Rattle.er_trace.specs.declared.version.Version.{Version}
use Rattle.er_trace.specs.declared.version.Version.TheVariants.{One, Two, Three}
use Rattle.er_history.specs.History.{Form, Kinded, Framing, Element, Task, Delivery, DclOf, LoadOf, EloadOf, FireAt, InlineAt, WindowFire, ReplyOf, What, ParseStep, ScriptRun, TimeoutRun, TickRun, BeginOf, HandlerOf, CloseOf, MessageRun, AnimRun, JobRun, Event}

-- A rule between two events. It is told which earlier actions a path joins. It says nothing of
-- lists in which naming refuses a record.
abbrev pub Rule : Type 0
Rule = (ℕ → ℕ → Bool) → Event → Event → Bool

-- Words of the rules.

-- u was begun first. A rule that asks this never puts a record out of order.
abbrev pub recorded : Event → Event → Bool
recorded u v = nat_lt u.number v.number

-- u is the event that made it
abbrev pub made_by : Option ℕ → Event → Bool
made_by None u = false
made_by (Some m) u = m == u.number

-- there is one, and it passes the test
abbrev pub is_some_and : {A : Type 0} → (A → Bool) → Option A → Bool
is_some_and test None = false
is_some_and test (Some x) = test x

-- there are both, and they pass the test
abbrev pub both_some_and : {A : Type 0} → (A → A → Bool) → Option A → Option A → Bool
both_some_and test (Some x) (Some y) = test x y
both_some_and test _ _ = false

-- it is no frame, and its kind passes the test
abbrev pub has_kind : (Kind → Bool) → Form → Bool
has_kind test (Kinded k) = test k
has_kind test (Framing f) = false

-- a static script for which the parser waits
abbrev pub is_blocking : Element → Bool
is_blocking e = e.is_static && has_kind test e.form
  where
    test : Kind → Bool
    test kinds.Inline = true
    test kinds.Sync = true
    test _ = false

-- a static script that runs when its document has been parsed
abbrev pub is_deferred : Element → Bool
is_deferred e = e.is_static && has_kind test e.form
  where
    test : Kind → Bool
    test kinds.Defer = true
    test _ = false

-- neither a script nor an image nor a frame
abbrev pub is_plain : Element → Bool
is_plain e = has_kind test e.form
  where
    test : Kind → Bool
    test kinds.Plain = true
    test _ = false

-- a frame, which declared this document
abbrev pub declared : Form → ℕ → Bool
declared (Framing f) d = f == d
declared (Kinded k) d = false

abbrev pub same_bytes : List ℕ → List ℕ → Bool
same_bytes [] [] = true
same_bytes (x ∷ xs) (y ∷ ys) = (x == y) && same_bytes xs ys
same_bytes _ _ = false

-- dispatches of one type at one element, or at one window
abbrev pub same_target : Delivery → Delivery → Bool
same_target (WindowFire d n m) (WindowFire c k l) = (d == c) && same_bytes n k
same_target (FireAt e n m) (FireAt f k l) = (e == f) && same_bytes n k
same_target (FireAt e n m) (InlineAt f k l) = (e == f) && same_bytes n k
same_target (InlineAt e n m) (FireAt f k l) = (e == f) && same_bytes n k
same_target (InlineAt e n m) (InlineAt f k l) = (e == f) && same_bytes n k
same_target _ _ = false

abbrev pub is_dcl_of : ℕ → Delivery → Bool
is_dcl_of d (DclOf c m) = c == d
is_dcl_of d _ = false

-- a parse step of the document, or the run of a script of it that passes
abbrev pub step_or_script : (Element → Bool) → ℕ → What → Bool
step_or_script test d (ParseStep c m) = c == d
step_or_script test d (ScriptRun e made) = is_some_and (λ x. test x && (x.doc == d)) made
step_or_script test d _ = false

-- The rules, in the order of their numbers. Each says: u before v. Those alone ask which paths
-- there are that go by the pieces in which two numbers were declared: rule 19 of versions 2 and 3,
-- and rules 25, 27 and 29.

-- 1. A parse step of a document before a later parse step of it (recorded). HTML Standard, "Parsing
--    HTML documents".
abbrev pub parse_steps_in_order : Rule
parse_steps_in_order joined u v = recorded u v && go u.what v.what
  where
    go : What → What → Bool
    go (ParseStep d m) (ParseStep c k) = d == c
    go _ _ = false

-- 2. The event that declared a document before each parse step of it. This project's own.
abbrev pub document_before_its_steps : Rule
document_before_its_steps joined u v = go v.what
  where
    go : What → Bool
    go (ParseStep d m) = made_by m u
    go _ = false

-- 3. The event that made a script before its run. HTML Standard, "The script element".
abbrev pub script_made_before_run : Rule
script_made_before_run joined u v = go v.what
  where
    go : What → Bool
    go (ScriptRun e made) = is_some_and (λ x. x.maker == u.number) made
    go _ = false

-- 4. The run of a blocking script before each parse step of its document behind its own. A parse
--    step is one piece, so its event has its number. HTML Standard, "The script element".
abbrev pub blocking_script_before_later_step : Rule
blocking_script_before_later_step joined u v = go u.what v.what
  where
    go : What → What → Bool
    go (ScriptRun e made) (ParseStep d m) =
        is_some_and (λ x. is_blocking x && ((x.doc == d) && nat_lt x.piece v.number)) made
    go _ _ = false

-- 5. A parse step before the run of a deferred script of its document. HTML Standard, "The end".
abbrev pub step_before_deferred_script : Rule
step_before_deferred_script joined u v = go u.what v.what
  where
    go : What → What → Bool
    go (ParseStep d m) (ScriptRun e made) = is_some_and (λ x. is_deferred x && (x.doc == d)) made
    go _ _ = false

-- 6. The run of a blocking script before the run of a deferred script of its document. HTML
--    Standard, "The end".
abbrev pub blocking_before_deferred_script : Rule
blocking_before_deferred_script joined u v = go u.what v.what
  where
    go : What → What → Bool
    go (ScriptRun e made) (ScriptRun f made2) =
        both_some_and (λ x y. is_blocking x && (is_deferred y && (x.doc == y.doc))) made made2
    go _ _ = false

-- 7. The run of a deferred script before the run of a deferred script of its document that was
--    parsed later. HTML Standard, "The end".
abbrev pub deferred_scripts_as_parsed : Rule
deferred_scripts_as_parsed joined u v = go u.what v.what
  where
    go : What → What → Bool
    go (ScriptRun e made) (ScriptRun f made2) =
        both_some_and (λ x y.
        is_deferred x && (is_deferred y && ((x.doc == y.doc) && nat_lt x.piece y.piece)))
        made made2
    go _ _ = false

-- 8. A parse step, or the run of a blocking or deferred script, before the begin of
--    DOMContentLoaded of its document. HTML Standard, "The end".
abbrev pub parsed_before_dcl : Rule
parsed_before_dcl joined u v = go v.what
  where
    of : Delivery → Bool
    of (DclOf d m) = step_or_script (λ e. is_blocking e || is_deferred e) d u.what
    of _ = false

    go : What → Bool
    go (BeginOf q) = of q.delivers
    go _ = false

-- 9. The begin, a handler or the close of DOMContentLoaded before the begin of load of the
--    document. HTML Standard, "The end".
abbrev pub dcl_before_load : Rule
dcl_before_load joined u v = go v.what
  where
    piece_of : ℕ → What → Bool
    piece_of d (BeginOf p) = is_dcl_of d p.delivers
    piece_of d (HandlerOf p g x m) = is_dcl_of d p.delivers
    piece_of d (CloseOf p) = is_dcl_of d p.delivers
    piece_of d _ = false

    of : Delivery → Bool
    of (LoadOf d m) = piece_of d u.what
    of _ = false

    go : What → Bool
    go (BeginOf q) = of q.delivers
    go _ = false

-- 10. A parse step, or the run of a static script, before the begin of load of its document. HTML
--     Standard, "The end".
abbrev pub parsed_before_load : Rule
parsed_before_load joined u v = go v.what
  where
    of : Delivery → Bool
    of (LoadOf d m) = step_or_script (λ e. e.is_static) d u.what
    of _ = false

    go : What → Bool
    go (BeginOf q) = of q.delivers
    go _ = false

-- 11. The close of the first load event of a static element that is not plain before the begin of
--     load of its document (recorded). This project's own.
abbrev pub static_loads_before_load : Rule
static_loads_before_load joined u v = recorded u v && go u.what v.what
  where
    of : Delivery → Delivery → Bool
    of (EloadOf x made) (LoadOf d m) =
        is_some_and (λ e. e.is_static && (not (is_plain e) && (e.doc == d))) made
    of _ _ = false

    go : What → What → Bool
    go (CloseOf p) (BeginOf q) = of p.delivers q.delivers
    go _ _ = false

-- 12. The event that made an element, and the run of it where it is a script, before the begin of
--     its first load event. For the run HTML Standard, "The script element"; for the rest this
--     project's own.
abbrev pub element_before_its_load : Rule
element_before_its_load joined u v = go v.what
  where
    runs : ℕ → What → Bool
    runs e (ScriptRun f made) = f == e
    runs e _ = false

    of : Delivery → Bool
    of (EloadOf e made) = is_some_and (λ x. x.maker == u.number) made || runs e u.what
    of _ = false

    go : What → Bool
    go (BeginOf q) = of q.delivers
    go _ = false

-- 13. The close of load of a frame's document before the begin of the frame's first load event
--     (recorded). This project's own.
abbrev pub inner_load_before_frame_load : Rule
inner_load_before_frame_load joined u v = recorded u v && go u.what v.what
  where
    of : Delivery → Delivery → Bool
    of (LoadOf f m) (EloadOf x made) = is_some_and (λ e. declared e.form f) made
    of _ _ = false

    go : What → What → Bool
    go (CloseOf p) (BeginOf q) = of p.delivers q.delivers
    go _ _ = false

-- 14. The event that made an element before the begin of a dispatch of a type at it; the event that
--     declared a document before the begin of a dispatch at its window, of DOMContentLoaded and of
--     load. This project's own.
abbrev pub target_before_dispatch : Rule
target_before_dispatch joined u v = go v.what
  where
    of : Delivery → Bool
    of (FireAt e n m) = made_by m u
    of (InlineAt e n m) = made_by m u
    of (WindowFire d n m) = made_by m u
    of (DclOf d m) = made_by m u
    of (LoadOf d m) = made_by m u
    of _ = false

    go : What → Bool
    go (BeginOf q) = of q.delivers
    go _ = false

-- 15. The event that registered a handler before each run of it. This project's own.
abbrev pub registered_before_run : Rule
registered_before_run joined u v = go v.what
  where
    go : What → Bool
    go (HandlerOf p g x m) = made_by m u
    go _ = false

-- 16. The begin of a dispatch before its handlers and its close; a handler before those of a
--     greater group and before the close. Groups are this project's own; between listeners of one
--     target DOM Level 2 Events fixes no order.
abbrev pub dispatch_in_order : Rule
dispatch_in_order joined u v = go u.what v.what
  where
    go : What → What → Bool
    go (BeginOf p) (HandlerOf q g x m) = p.number == q.number
    go (BeginOf p) (CloseOf q) = p.number == q.number
    go (HandlerOf p g x m) (HandlerOf q k y l) = (p.number == q.number) && nat_lt g k
    go (HandlerOf p g x m) (CloseOf q) = p.number == q.number
    go _ _ = false

-- 17. The close of a dispatch before the begin of another of its type at its target (recorded).
--     This project's own.
abbrev pub dispatches_of_one_type_in_order : Rule
dispatches_of_one_type_in_order joined u v = recorded u v && go u.what v.what
  where
    go : What → What → Bool
    go (CloseOf p) (BeginOf q) = same_target p.delivers q.delivers
    go _ _ = false

-- 18. The event that set a timeout before its callback. HTML Standard, "Timers".
abbrev pub set_before_timer : Rule
set_before_timer joined u v = go v.what
  where
    go : What → Bool
    go (TimeoutRun t made) = is_some_and (λ x. x.maker == u.number) made
    go _ = false

-- 19, in version 1. The callback of a timeout before that of another that the same event set later
-- with no lesser delay (recorded). HTML Standard, "Timers"; that delays alone are compared is this
-- project's own.
abbrev pub timers_of_one_event_in_order : Rule
timers_of_one_event_in_order joined u v = recorded u v && go u.what v.what
  where
    go : What → What → Bool
    go (TimeoutRun s made) (TimeoutRun t made2) =
        both_some_and (λ x y.
        (x.maker == y.maker) && (nat_lt x.place y.place && nat_le x.delay y.delay))
        made made2
    go _ _ = false

-- 19, in versions 2 and 3. The callback of a timeout before that of another that was set later with
-- no lesser delay, in a piece to which a path leads from the piece that set the first (recorded).
-- HTML Standard, "Timers"; that delays alone are compared is this project's own.
abbrev pub timers_of_joined_pieces_in_order : Rule
timers_of_joined_pieces_in_order joined u v = recorded u v && go u.what v.what
  where
    go : What → What → Bool
    go (TimeoutRun s made) (TimeoutRun t made2) =
        both_some_and (λ x y.
        nat_lt x.place y.place && (nat_le x.delay y.delay && joined x.piece y.piece))
        made made2
    go _ _ = false

-- rule 19 of a version
abbrev pub timers_in_order : Version → Rule
timers_in_order One = timers_of_one_event_in_order
timers_in_order Two = timers_of_joined_pieces_in_order
timers_in_order Three = timers_of_joined_pieces_in_order

-- 20. The event that set an interval before each callback of it; a callback before a later one of
--     the same interval (recorded). HTML Standard, "Timers".
abbrev pub ticks_in_order : Rule
ticks_in_order joined u v = go u.what v.what
  where
    earlier : ℕ → What → Bool
    earlier i (TickRun k m) = recorded u v && (i == k)
    earlier i _ = false

    go : What → What → Bool
    go x (TickRun i m) = made_by m u || earlier i x
    go _ _ = false

-- 21. The event that sent a request before the begin of each reply of it; the close of a reply
--     before the begin of a later reply of the same request (recorded). This project's own.
abbrev pub replies_in_order : Rule
replies_in_order joined u v = go v.what
  where
    closes : ℕ → What → Bool
    closes r (CloseOf p) = of p.delivers
      where
        of : Delivery → Bool
        of (ReplyOf s m) = s == r
        of _ = false
    closes r _ = false

    of : Delivery → Bool
    of (ReplyOf r m) = made_by m u || (recorded u v && closes r u.what)
    of _ = false

    go : What → Bool
    go (BeginOf q) = of q.delivers
    go _ = false

-- two tasks of one kind, the first declared in an earlier record, and in a piece from which a path
-- leads to the other's
abbrev pub declared_in_order : (ℕ → ℕ → Bool) → Option Task → Option Task → Bool
declared_in_order joined made made2 =
    both_some_and (λ (x : Task) (y : Task).
    nat_lt x.place y.place && joined x.piece y.piece) made made2

-- 24. The event that posted a message before the event of the message. This project's own.
abbrev pub post_before_message : Rule
post_before_message joined u v = go v.what
  where
    go : What → Bool
    go (MessageRun m made) = is_some_and (λ (x : Task). x.maker == u.number) made
    go _ = false

-- 25. The event of a message before that of another that was posted later, in a piece to which a
--     path leads from the piece that posted the first (recorded). This project's own.
abbrev pub messages_in_order : Rule
messages_in_order joined u v = recorded u v && go u.what v.what
  where
    go : What → What → Bool
    go (MessageRun m made) (MessageRun n made2) = declared_in_order joined made made2
    go _ _ = false

-- 26. The event that asked for an animation callback before the callback. This project's own.
abbrev pub ask_before_anim : Rule
ask_before_anim joined u v = go v.what
  where
    go : What → Bool
    go (AnimRun a made) = is_some_and (λ (x : Task). x.maker == u.number) made
    go _ = false

-- 27. An animation callback before another that was asked for later, in a piece to which a path
--     leads from the piece that asked for the first (recorded). This project's own.
abbrev pub anims_in_order : Rule
anims_in_order joined u v = recorded u v && go u.what v.what
  where
    go : What → What → Bool
    go (AnimRun a made) (AnimRun b made2) = declared_in_order joined made made2
    go _ _ = false

-- 28. The event that queued a job before the job. This project's own.
abbrev pub queue_before_job : Rule
queue_before_job joined u v = go v.what
  where
    go : What → Bool
    go (JobRun j made within) = is_some_and (λ (x : Task). x.maker == u.number) made
    go _ = false

-- 29. A job before another that was queued later, in a piece to which a path leads from the piece
--     that queued the first (recorded). This project's own.
abbrev pub jobs_in_order : Rule
jobs_in_order joined u v = recorded u v && go u.what v.what
  where
    go : What → What → Bool
    go (JobRun j made within) (JobRun k made2 around) = declared_in_order joined made made2
    go _ _ = false

-- 30. A job before the callbacks and messages that were declared by the event that queued it: of
--     timeouts and intervals that it set, of messages that it posted and of animation callbacks
--     that it asked for (recorded). This project's own.
abbrev pub jobs_before_callbacks : Rule
jobs_before_callbacks joined u v = recorded u v && go u.what v.what
  where
    to : ℕ → What → Bool
    to maker (TimeoutRun t made) = is_some_and (λ x. x.maker == maker) made
    to maker (TickRun i m) = is_some_and (λ (k : ℕ). k == maker) m
    to maker (MessageRun m made) = is_some_and (λ (x : Task). x.maker == maker) made
    to maker (AnimRun a made) = is_some_and (λ (x : Task). x.maker == maker) made
    to maker _ = false

    go : What → What → Bool
    go (JobRun j made within) w = is_some_and (λ (x : Task). to x.maker w) made
    go _ _ = false

-- 31. A job that began while a dispatch was on the stack before the close of the dispatch
--     (recorded). This project's own.
abbrev pub jobs_before_close : Rule
jobs_before_close joined u v = recorded u v && go u.what v.what
  where
    go : What → What → Bool
    go (JobRun j made within) (CloseOf p) = list_any (λ q. q == p.number) within
    go _ _ = false

-- Each rule between events with its number, in the families of the crates that ask it. Rule 19
-- alone differs by version. Rules 22 and 23 speak of pieces (Edges).
abbrev pub parse_rules : List (ℕ × Rule)
parse_rules =
    (1, parse_steps_in_order)
    ∷ (2, document_before_its_steps)
    ∷ []

abbrev pub script_rules : List (ℕ × Rule)
script_rules =
    (3, script_made_before_run)
    ∷ (4, blocking_script_before_later_step)
    ∷ (5, step_before_deferred_script)
    ∷ (6, blocking_before_deferred_script)
    ∷ (7, deferred_scripts_as_parsed)
    ∷ []

abbrev pub load_rules : List (ℕ × Rule)
load_rules =
    (8, parsed_before_dcl)
    ∷ (9, dcl_before_load)
    ∷ (10, parsed_before_load)
    ∷ (11, static_loads_before_load)
    ∷ (12, element_before_its_load)
    ∷ (13, inner_load_before_frame_load)
    ∷ []

abbrev pub dispatch_rules : List (ℕ × Rule)
dispatch_rules =
    (14, target_before_dispatch)
    ∷ (15, registered_before_run)
    ∷ (16, dispatch_in_order)
    ∷ (17, dispatches_of_one_type_in_order)
    ∷ []

abbrev pub timer_rules : Version → List (ℕ × Rule)
timer_rules v = (18, set_before_timer) ∷ (19, timers_in_order v) ∷ (20, ticks_in_order) ∷ []

abbrev pub request_rules : List (ℕ × Rule)
request_rules = (21, replies_in_order) ∷ []

-- These are in the table of each version: they lead from events or to events that records of
-- version 3 alone begin.
abbrev pub task_rules : List (ℕ × Rule)
task_rules =
    (24, post_before_message)
    ∷ (25, messages_in_order)
    ∷ (26, ask_before_anim)
    ∷ (27, anims_in_order)
    ∷ (28, queue_before_job)
    ∷ (29, jobs_in_order)
    ∷ (30, jobs_before_callbacks)
    ∷ (31, jobs_before_close)
    ∷ []

-- All rules between events of a version, in the order of their numbers.
abbrev pub rules : Version → List (ℕ × Rule)
rules v = parse_rules ++ script_rules ++ load_rules ++ dispatch_rules ++ timer_rules v
    ++ request_rules ++ task_rules

-- one of the rules of a table holds between two events
abbrev pub any_holds : List (ℕ × Rule) → (ℕ → ℕ → Bool) → Event → Event → Bool
any_holds table joined u v =
    not (u.number == v.number) && list_any (λ (r : ℕ × Rule). r.1 joined u v) table
