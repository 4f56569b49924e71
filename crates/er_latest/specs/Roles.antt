-- The role of an event: what it is, as far as the look-ups of what came last ask.
use Rattle.std.specs.Prelude.{ℕ, ◌&&◌, not, if◌then◌else◌, List, Option, Some, None, option_map}
use Rattle.std.specs.Borrow.{Bor}
use Rattle.er_history.specs.History.{Element, Delivery, EloadOf, FireAt, InlineAt, WindowFire, ReplyOf, What, ParseStep, ScriptRun, TickRun, HandlerOf, CloseOf}
use Rattle.er_history.specs.Kinds.{is_static_async}
use Rattle.er_history.specs.Rules.{is_blocking, is_deferred, is_plain}
use Rattle.er_latest.specs.declared.role.Role.{Role}
use Rattle.er_latest.specs.declared.role.Role.TheVariants as roles

-- A role, with a name as the list of its bytes.
pub data Kept : Type 0 where
  Nothing : Kept
  StepIn : (doc : ℕ) → Kept
  BlockingIn : (doc : ℕ) → Kept
  DeferredIn : (doc : ℕ) → (element : ℕ) → Kept
  AsyncIn : (doc : ℕ) → Kept
  TickOf : (interval : ℕ) → Kept
  HandlerIn : (dispatch : ℕ) → (group : ℕ) → Kept
  CloseOfReply : (request : ℕ) → Kept
  CloseOfStaticLoad : (doc : ℕ) → Kept
  CloseAtElement : (element : ℕ) → (name : List ℕ) → Kept
  CloseAtWindow : (doc : ℕ) → (name : List ℕ) → Kept

abbrev pub said_by : Role → Kept
said_by roles.Other = Nothing
said_by (roles.Step d) = StepIn d
said_by (roles.Blocking d) = BlockingIn d
said_by (roles.Deferred d e) = DeferredIn d e
said_by (roles.Async d) = AsyncIn d
said_by (roles.Tick i) = TickOf i
said_by (roles.Handler p g) = HandlerIn p g
said_by (roles.Reply r) = CloseOfReply r
said_by (roles.StaticLoad d) = CloseOfStaticLoad d
said_by (roles.AtElement e n) = CloseAtElement e n.now
said_by (roles.AtWindow d n) = CloseAtWindow d n.now

-- the role of the run of a script
abbrev pub script_role : ℕ → Option Element → Kept
script_role e None = Nothing
script_role e (Some x) =
    if is_blocking x then BlockingIn x.doc
    else (if is_deferred x then DeferredIn x.doc e
    else (if is_static_async x then AsyncIn x.doc
    else Nothing))

-- the role of the close of the first load event of an element
abbrev pub load_role : Option Element → Kept
load_role None = Nothing
load_role (Some x) = if x.is_static && not (is_plain x) then CloseOfStaticLoad x.doc else Nothing

-- the role of the close of a dispatch
abbrev pub close_role : Delivery → Kept
close_role (EloadOf e made) = load_role made
close_role (FireAt e n m) = CloseAtElement e n
close_role (InlineAt e n m) = CloseAtElement e n
close_role (WindowFire d n m) = CloseAtWindow d n
close_role (ReplyOf r m) = CloseOfReply r
close_role _ = Nothing

-- the role of what an event is
abbrev pub role_of : What → Kept
role_of (ParseStep d m) = StepIn d
role_of (ScriptRun e made) = script_role e made
role_of (TickRun i m) = TickOf i
role_of (HandlerOf q g x m) = HandlerIn q.number g
role_of (CloseOf p) = close_role p.delivers
role_of _ = Nothing

-- Under which number, pair or name a role is kept.

abbrev pub step_of : Kept → Option ℕ
step_of (StepIn d) = Some d
step_of _ = None

abbrev pub blocking_of : Kept → Option ℕ
blocking_of (BlockingIn d) = Some d
blocking_of _ = None

abbrev pub deferred_of : Kept → Option ℕ
deferred_of (DeferredIn d e) = Some d
deferred_of _ = None

-- the script that a deferred run runs
abbrev pub script_of : Kept → ℕ
script_of (DeferredIn d e) = e
script_of _ = 0

abbrev pub async_of : Kept → Option ℕ
async_of (AsyncIn d) = Some d
async_of _ = None

abbrev pub tick_of : Kept → Option ℕ
tick_of (TickOf i) = Some i
tick_of _ = None

abbrev pub handler_of : Kept → Option (ℕ × ℕ)
handler_of (HandlerIn p g) = Some (p, g)
handler_of _ = None

abbrev pub dispatch_of : Kept → Option ℕ
dispatch_of (HandlerIn p g) = Some p
dispatch_of _ = None

abbrev pub reply_of : Kept → Option ℕ
reply_of (CloseOfReply r) = Some r
reply_of _ = None

abbrev pub static_of : Kept → Option ℕ
static_of (CloseOfStaticLoad d) = Some d
static_of _ = None

abbrev pub element_of : Kept → Option (ℕ × List ℕ)
element_of (CloseAtElement e n) = Some (e, n)
element_of _ = None

abbrev pub window_of : Kept → Option (ℕ × List ℕ)
window_of (CloseAtWindow d n) = Some (d, n)
window_of _ = None

-- a number with the name that a reference leads to
abbrev pub named : Option (ℕ × Bor (List ℕ)) → Option (ℕ × List ℕ)
named found = option_map (λ (p : ℕ × Bor (List ℕ)). (p.0, p.1.now)) found
