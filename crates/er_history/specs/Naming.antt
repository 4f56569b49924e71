-- Which records naming and nesting accept after the earlier ones, and where room ends. Lists of
-- records stand newest first.
use Rattle.std.specs.Prelude.{◌≡◌, ℕ, Bool, true, false, not, ◌==◌, ◌&&◌, ◌||◌, nat_lt, if◌then◌else◌, List, [], ◌∷◌, length, filter, Option, Some, None}
use Rattle.std.specs.List.{list_any}
use Rattle.er_text.specs.declared.causes.Cause.{Cause}
use Rattle.er_text.specs.declared.causes.Cause.TheVariants.{Unknown, Again, NotScript, Misplaced, TooManyActions, TooDeep}
use Rattle.er_trace.specs.declared.record.Record.{Record}
use Rattle.er_trace.specs.declared.nesting.Nesting.{Nesting}
use Rattle.er_trace.specs.declared.nesting.Nesting.TheVariants.{Note, Alone, OutsideInline, Called, Under, Behind}
use Rattle.er_trace.specs.Signature.{Uses, UsesNone, UsesDocument, UsesElement, UsesTimeout, UsesInterval, UsesRequest, UsesDispatch, UsesDispatchAndHandler, UsesMessage, UsesAnim, UsesJob, Claims, ClaimsNone, MakesElement, MakesFrame, MakesHandler, MakesTimeout, MakesInterval, MakesRequest, MakesMessage, MakesAnim, MakesJob, StartsScript, StartsTimeout, StartsMessage, StartsAnim, StartsJob, StartsDispatch, StartsDcl, StartsLoad, StartsEload, nesting, uses, claims}
use Rattle.er_trace.specs.declared.record.Kind.{Kind}
use Rattle.er_trace.specs.declared.record.Kind.TheVariants as kinds
use Rattle.er_paths.specs.Limits.{most_actions}
use Rattle.er_history.specs.Claimed.{AsElement, AsTimeout, AsScriptRun, AsTimeoutRun, AsMessageRun, AsAnimRun, AsJobRun, AsDispatch, AsDcl, AsLoad, AsEload, claims_as}
use Rattle.er_history.specs.History.{begins, declares_document, declares_handler, declares_interval, declares_request, makes_element, first_to, Form, Kinded, Framing, Element, History, told, Open, is_inline, running, What, ParseStep, ScriptRun, TimeoutRun, TickRun, BeginOf, HandlerOf, CloseOf, Unnamed, MessageRun, AnimRun, JobRun, posts_message, asks_for_anim, queues_job, Action}

-- What a record declares or starts. Seven of these tests are in History, which needs them.

abbrev pub declares_element : ℕ → Record → Bool
declares_element = claims_as AsElement

abbrev pub sets_timeout : ℕ → Record → Bool
sets_timeout = claims_as AsTimeout

abbrev pub begins_dispatch : ℕ → Record → Bool
begins_dispatch = claims_as AsDispatch

abbrev pub runs_script : ℕ → Record → Bool
runs_script = claims_as AsScriptRun

abbrev pub fires_timeout : ℕ → Record → Bool
fires_timeout = claims_as AsTimeoutRun

abbrev pub begins_message : ℕ → Record → Bool
begins_message = claims_as AsMessageRun

abbrev pub begins_anim : ℕ → Record → Bool
begins_anim = claims_as AsAnimRun

abbrev pub begins_job : ℕ → Record → Bool
begins_job = claims_as AsJobRun

abbrev pub is_dcl : ℕ → Record → Bool
is_dcl = claims_as AsDcl

abbrev pub is_load : ℕ → Record → Bool
is_load = claims_as AsLoad

abbrev pub is_eload : ℕ → Record → Bool
is_eload = claims_as AsEload

-- document 0 is known from the start
abbrev pub knows_document : List Record → ℕ → Bool
knows_document h d = (d == 0) || list_any (declares_document d) h

-- the record uses a number that no earlier record declared
abbrev pub unknown : List Record → Record → Bool
unknown h x = by (uses x)
  where
    by : Uses → Bool
    by UsesNone = false
    by (UsesDocument d) = not (knows_document h d)
    by (UsesElement e) = not (list_any (declares_element e) h)
    by (UsesTimeout t) = not (list_any (sets_timeout t) h)
    by (UsesInterval i) = not (list_any (declares_interval i) h)
    by (UsesRequest r) = not (list_any (declares_request r) h)
    by (UsesMessage m) = not (list_any (posts_message m) h)
    by (UsesAnim a) = not (list_any (asks_for_anim a) h)
    by (UsesJob j) = not (list_any (queues_job j) h)
    by (UsesDispatch p) = not (list_any (begins_dispatch p) h)
    by (UsesDispatchAndHandler p x) =
        not (list_any (begins_dispatch p) h) || not (list_any (declares_handler x) h)

-- it declares or starts what was declared or started before
abbrev pub again : List Record → Record → Bool
again h x = by (claims x)
  where
    by : Claims → Bool
    by ClaimsNone = false
    by (MakesElement e) = list_any (declares_element e) h
    by (MakesFrame e f) = list_any (declares_element e) h || knows_document h f
    by (MakesHandler x) = list_any (declares_handler x) h
    by (MakesTimeout t) = list_any (sets_timeout t) h
    by (MakesInterval i) = list_any (declares_interval i) h
    by (MakesRequest r) = list_any (declares_request r) h
    by (MakesMessage m) = list_any (posts_message m) h
    by (MakesAnim a) = list_any (asks_for_anim a) h
    by (MakesJob j) = list_any (queues_job j) h
    by (StartsScript e) = list_any (runs_script e) h
    by (StartsTimeout t) = list_any (fires_timeout t) h
    by (StartsMessage m) = list_any (begins_message m) h
    by (StartsAnim a) = list_any (begins_anim a) h
    by (StartsJob j) = list_any (begins_job j) h
    by (StartsDispatch p) = list_any (begins_dispatch p) h
    by (StartsDcl p d) = list_any (begins_dispatch p) h || list_any (is_dcl d) h
    by (StartsLoad p d) = list_any (begins_dispatch p) h || list_any (is_load d) h
    by (StartsEload p e) = list_any (begins_dispatch p) h || list_any (is_eload e) h

abbrev pub is_script_kind : Kind → Bool
is_script_kind kinds.Plain = false
is_script_kind kinds.Image = false
is_script_kind kinds.Inline = true
is_script_kind kinds.Sync = true
is_script_kind kinds.Async = true
is_script_kind kinds.Defer = true

abbrev pub is_script : Option Element → Bool
is_script None = false
is_script (Some e) = of e.form
  where
    of : Form → Bool
    of (Kinded k) = is_script_kind k
    of (Framing f) = false

-- it runs an element that is no script
abbrev pub not_script : History → Record → Bool
not_script h x = by (claims x)
  where
    by : Claims → Bool
    by (StartsScript e) = not (is_script (first_to (makes_element e) h.entries))
    by _ = false

abbrev pub has_open : List Open → Bool
has_open [] = false
has_open (o ∷ below) = true

-- dispatch p is on top of the stack, and its close has or has not begun
abbrev pub is_top : Bool → ℕ → List Open → Bool
is_top closing p [] = false
is_top true p (o ∷ below) = (o.dispatch.number == p) && o.closing
is_top false p (o ∷ below) = (o.dispatch.number == p) && not o.closing

-- the running action can call an inline dispatch: it is of a script run, a timeout, a tick, a
-- handler, a close, a message, an animation callback or a job
abbrev pub may_call : Option Action → Bool
may_call None = false
may_call (Some a) = by a.event.what
  where
    by : What → Bool
    by (ScriptRun e made) = true
    by (TimeoutRun t made) = true
    by (TickRun i m) = true
    by (HandlerOf p g x m) = true
    by (CloseOf p) = true
    by (MessageRun m made) = true
    by (AnimRun a made) = true
    by (JobRun j made within) = true
    by (ParseStep d m) = false
    by (BeginOf p) = false
    by Unnamed = false

-- some action runs
abbrev pub one_runs : Option Action → Bool
one_runs None = false
one_runs (Some a) = true

-- No record may stand so at this point of the nesting. Most records that begin an action want an
-- empty stack, and a record that begins none wants a running action.
abbrev pub misplaced_at : History → Nesting → Bool
misplaced_at h Note = not (one_runs (running h.actions))
misplaced_at h Alone = has_open h.stack
misplaced_at h OutsideInline = list_any (λ (o : Open). is_inline o.dispatch) h.stack
misplaced_at h Called = not (may_call (running h.actions))
misplaced_at h (Under p) = not (is_top false p h.stack)
misplaced_at h (Behind p) = not (is_top true p h.stack)

-- it is not allowed there
abbrev pub misplaced : History → Record → Bool
misplaced h x = misplaced_at h (nesting x)

abbrev pub first_cause : List (Bool × Cause) → Option Cause
first_cause [] = None
first_cause (c ∷ cs) = if c.0 then Some c.1 else first_cause cs

-- the first cause of naming and nesting
abbrev pub naming : List Record → Record → Option Cause
naming h x = first_cause (
    (unknown h x, Unknown)
    ∷ (again h x, Again)
    ∷ (not_script (told h) x, NotScript)
    ∷ (misplaced (told h) x, Misplaced)
    ∷ [])

-- naming refuses no record of the list after those before it
abbrev pub IsNamed : List Record → Type 0
IsNamed [] = Unit {0}
IsNamed (x ∷ h) = (naming h x ≡ None) × IsNamed h

abbrev pub most_inline : ℕ
most_inline = 256

-- it begins an action that is one too many
abbrev pub too_many_actions : History → Record → Bool
too_many_actions h x = begins x && not (nat_lt (length h.actions) most_actions)

-- the inline dispatches of a stack
abbrev pub inline_open : List Open → List Open
inline_open stack = filter (λ o. is_inline o.dispatch) stack

-- it begins an inline dispatch that is one too many on the stack
abbrev pub too_deep : History → Record → Bool
too_deep h x = by (nesting x)
  where
    by : Nesting → Bool
    by Called = not (nat_lt (length (inline_open h.stack)) most_inline)
    by _ = false

-- the first limit that the record would pass
abbrev pub room : List Record → Record → Option Cause
room h x = first_cause (
    (too_many_actions (told h) x, TooManyActions)
    ∷ (too_deep (told h) x, TooDeep)
    ∷ [])
