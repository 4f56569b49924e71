-- The most pieces that the rules of tasks hand for a record in version 3. Lists of records stand
-- newest first.
use Rattle.std.specs.Prelude.{ℕ, ◌+◌, ◌||◌, Bool, List, length, Option, Some, None}
use Rattle.er_trace.specs.declared.record.Record.{Record}
use Rattle.er_trace.specs.declared.record.Record.TheVariants.{Timer, Tick, Close, Message, Anim, Job}
use Rattle.er_trace.specs.declared.version.Version.TheVariants.{Three}
use Rattle.er_history.specs.History.{Event, told, event_begun}
use Rattle.er_history.specs.Rules.{rules, messages_in_order, anims_in_order, jobs_in_order}
use Rattle.er_history.specs.Edges.{path, up_to}
use Rattle.er_history.specs.Latest.{events_of_each}
use Rattle.er_history.specs.LookUps.{jobs_queued, jobs_in, maker_of_timeout, maker_of_interval}
use Rattle.er_history.specs.Tasks.{OfMessage, OfAnim, task_made}
use Rattle.er_path_rules.specs.task.Due.{maker_of}

-- rule 25, 27 or 29 leads from the first event to the other
abbrev pub in_order : (ℕ → ℕ → Bool) → Event → Event → Bool
in_order joined u v =
    messages_in_order joined u v || (anims_in_order joined u v || jobs_in_order joined u v)

-- the events from which one of them leads to that which the record begins
abbrev pub earlier_count : List Record → Record → ℕ
earlier_count h x = by (event_begun (told h) x)
  where
    by : Event → ℕ
    by v = length
        (events_of_each (λ (u : Event). in_order (up_to v.number (path (rules Three) h)) u v)
        (told h).actions)

-- the jobs that have begun of those that the event queued
abbrev pub queued_count : List Record → Option ℕ → ℕ
queued_count h None = 0
queued_count h (Some u) = length (jobs_queued h u)

-- what declared the task, those of its kind before it, and for a message or an animation callback
-- the jobs of the event that declared it; before a timeout and a tick these jobs; before a close
-- the jobs that began while the dispatch was on the stack
abbrev pub most_task : List Record → Record → ℕ
most_task h (Message m) =
    1 + earlier_count h (Message m) + queued_count h (maker_of (task_made OfMessage h m))
most_task h (Anim a) =
    1 + earlier_count h (Anim a) + queued_count h (maker_of (task_made OfAnim h a))
most_task h (Job j) = 1 + earlier_count h (Job j)
most_task h (Timer t) = queued_count h (maker_of_timeout h t)
most_task h (Tick i) = queued_count h (maker_of_interval h i)
most_task h (Close p) = length (jobs_in h p)
most_task h _ = 0
