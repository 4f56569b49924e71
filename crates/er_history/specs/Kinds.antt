-- Tests of events: what the handed pieces are pieces of.
use Rattle.std.specs.Prelude.{ℕ, Bool, true, false, not, ◌==◌, ◌&&◌}
use Rattle.std.specs.List.{list_any}
use Rattle.er_trace.specs.declared.record.Kind.{Kind}
use Rattle.er_trace.specs.declared.record.Kind.TheVariants as kinds
use Rattle.er_history.specs.History.{Element, Delivery, LoadOf, EloadOf, ReplyOf, What, ParseStep, ScriptRun, TickRun, BeginOf, HandlerOf, CloseOf, JobRun, Event}
use Rattle.er_history.specs.Rules.{is_some_and, has_kind, is_plain, same_target}

-- a parse step of the document
abbrev pub is_step_of : ℕ → Event → Bool
is_step_of d e = by e.what
  where
    by : What → Bool
    by (ParseStep c m) = c == d
    by _ = false

-- the run of a script of the document that passes
abbrev pub is_run_of : (Element → Bool) → ℕ → Event → Bool
is_run_of test d e = by e.what
  where
    by : What → Bool
    by (ScriptRun s made) = is_some_and (λ x. test x && (x.doc == d)) made
    by _ = false

-- a static script of the kind `async`
abbrev pub is_static_async : Element → Bool
is_static_async x = x.is_static && has_kind test x.form
  where
    test : Kind → Bool
    test kinds.Async = true
    test _ = false

-- the run of this script
abbrev pub runs_element : ℕ → Event → Bool
runs_element s e = by e.what
  where
    by : What → Bool
    by (ScriptRun f made) = f == s
    by _ = false

-- a callback of the interval
abbrev pub is_tick_of : ℕ → Event → Bool
is_tick_of i e = by e.what
  where
    by : What → Bool
    by (TickRun k m) = k == i
    by _ = false

-- the close of a dispatch that passes
abbrev pub closes : (Delivery → Bool) → Event → Bool
closes test e = by e.what
  where
    by : What → Bool
    by (CloseOf p) = test p.delivers
    by _ = false

-- the close of a dispatch of this type at the target
abbrev pub is_close_at : Delivery → Event → Bool
is_close_at target = closes (λ y. same_target y target)

abbrev pub is_load_of : ℕ → Delivery → Bool
is_load_of d (LoadOf c m) = c == d
is_load_of d _ = false

abbrev pub is_reply_of : ℕ → Delivery → Bool
is_reply_of r (ReplyOf s m) = s == r
is_reply_of r _ = false

-- the first load event of a static element of the document that is not plain
abbrev pub is_static_load_of : ℕ → Delivery → Bool
is_static_load_of d (EloadOf x made) =
    is_some_and (λ e. e.is_static && (not (is_plain e) && (e.doc == d))) made
is_static_load_of d _ = false

-- the begin of this dispatch
abbrev pub is_begin_of : ℕ → Event → Bool
is_begin_of p e = by e.what
  where
    by : What → Bool
    by (BeginOf q) = q.number == p
    by _ = false

-- a handler of the dispatch in a group that passes
abbrev pub is_handler_of : ℕ → (ℕ → Bool) → Event → Bool
is_handler_of p test e = by e.what
  where
    by : What → Bool
    by (HandlerOf q g x m) = (q.number == p) && test g
    by _ = false

-- a job that began while this dispatch was on the stack
abbrev pub is_job_within : ℕ → Event → Bool
is_job_within p e = by e.what
  where
    by : What → Bool
    by (JobRun j made within) = list_any (λ q. q == p) within
    by _ = false
