-- What an event that is read off a page stands for. A timeout and a task are shown by their
-- numbers: the list says what set or declared them, and under which dispatches a job began.
use Rattle.std.specs.Prelude.{ℕ, Bool, List, Option, option_map}
use Rattle.er_trace.specs.declared.record.Record.{Record}
use Rattle.er_history.specs.History as history
use Rattle.er_history.specs.LookUps.{timeout_made}
use Rattle.er_history.specs.Tasks.{OfMessage, OfAnim, OfJob, task_made}
use Rattle.er_history.specs.Rules.{Rule}
use Rattle.er_claims.specs.Claimed.{element_of}
use Rattle.er_pieces.specs.steps.Steps.{least_rule, rule_of_events}
use Rattle.er_reasons.specs.Read.{within_of}
use Rattle.er_reasons.specs.declared.event.Event.{Event}
use Rattle.er_reasons.specs.declared.event.Dispatch.{Dispatch}
use Rattle.er_reasons.specs.declared.event.Delivery.{Delivery}
use Rattle.er_reasons.specs.declared.event.Delivery.TheVariants.{DclOf, LoadOf, EloadOf, FireAt, InlineAt, WindowFire, ReplyOf}
use Rattle.er_reasons.specs.declared.event.What.{What}
use Rattle.er_reasons.specs.declared.event.What.TheVariants.{ParseStep, ScriptRun, TimeoutRun, TickRun, BeginOf, HandlerOf, CloseOf, MessageRun, AnimRun, JobRun, Unnamed}

abbrev pub delivered : Delivery → history.Delivery
delivered (DclOf d m) = history.DclOf d m
delivered (LoadOf d m) = history.LoadOf d m
delivered (EloadOf e made) = history.EloadOf e (option_map element_of made)
delivered (FireAt e n m) = history.FireAt e n.now m
delivered (InlineAt e n m) = history.InlineAt e n.now m
delivered (WindowFire d n m) = history.WindowFire d n.now m
delivered (ReplyOf r m) = history.ReplyOf r m

abbrev pub dispatched : Dispatch → history.Dispatch
dispatched d = record { number = d.number; begin = d.begin; delivers = delivered d.delivers }

abbrev pub what_shown : List Record → What → history.What
what_shown h (ParseStep d m) = history.ParseStep d m
what_shown h (ScriptRun e made) = history.ScriptRun e (option_map element_of made)
what_shown h (TimeoutRun t) = history.TimeoutRun t (timeout_made h t)
what_shown h (TickRun i m) = history.TickRun i m
what_shown h (BeginOf d) = history.BeginOf (dispatched d)
what_shown h (HandlerOf d g x m) = history.HandlerOf (dispatched d) g x m
what_shown h (CloseOf d) = history.CloseOf (dispatched d)
what_shown h (MessageRun m) = history.MessageRun m (task_made OfMessage h m)
what_shown h (AnimRun a) = history.AnimRun a (task_made OfAnim h a)
what_shown h (JobRun j k) = history.JobRun j (task_made OfJob h j) (within_of h k)
what_shown h Unnamed = history.Unnamed

abbrev pub event_shown : List Record → Event → history.Event
event_shown h e = record { number = e.number; what = what_shown h e.what }

-- the rule holds between these events
abbrev pub holds : Rule → (ℕ → ℕ → Bool) → List Record → Event → Event → Bool
holds rule joined h u v = rule joined (event_shown h u) (event_shown h v)

-- the least number of a rule of the table that does
abbrev pub least : List (ℕ × Rule) → (ℕ → ℕ → Bool) → List Record → Event → Event → Option ℕ
least table joined h u v = least_rule table joined (event_shown h u) (event_shown h v)

-- that of the table, where they are two events
abbrev pub rule_shown : List (ℕ × Rule) → (ℕ → ℕ → Bool) → List Record → Event → Event → Option ℕ
rule_shown table joined h u v = rule_of_events table joined (event_shown h u) (event_shown h v)
