-- What the events of messages, animation callbacks and jobs keep of the records before them. Lists
-- of records stand newest first.
use Rattle.std.specs.Prelude.{◌≡◌, ℕ, ◌<◌, not, List, ◌∷◌, ◌++◌, length, filter, Option, Some}
use Rattle.er_trace.specs.declared.record.Record.{Record}
use Rattle.er_trace.specs.declared.record.Record.TheVariants.{Job}
use Rattle.er_history.specs.History.{Task, MessageRun, AnimRun, JobRun, Event, Action, told}
use Rattle.er_history.specs.Laws.{Among}
use Rattle.er_history.specs.Naming.{IsNamed}
use Rattle.er_history.specs.Unfinished.{dispatches_begun, is_finished}

-- The piece that declared a message, an animation callback or a job comes before its event.
pub record DeclaredBeforeEvent : Type 0 where
  pub messages : (h : List Record) (a : Action) (m : ℕ) (x : Task) → Among a (told h).actions
      → a.event.what ≡ MessageRun m (Some x) → x.piece < a.event.number
  pub anims : (h : List Record) (a : Action) (n : ℕ) (x : Task) → Among a (told h).actions
      → a.event.what ≡ AnimRun n (Some x) → x.piece < a.event.number
  pub jobs : (h : List Record) (a : Action) (j : ℕ) (x : Task) (within : List ℕ)
      → Among a (told h).actions
      → a.event.what ≡ JobRun j (Some x) within → x.piece < a.event.number

-- the dispatches that have begun and are not finished, the newest first
abbrev pub unfinished : List Record → List ℕ
unfinished h = filter (λ p. not (is_finished h p)) (dispatches_begun h)

-- behind these records of the list stands that of the job, which begins the event
pub record IsBegunBehind (h : List Record) (e : Event) (j : ℕ) (before : List Record) : Type 0 where
  pub later : List Record
  pub whole : h ≡ later ++ (Job j ∷ before)
  pub begins : e.number ≡ length (told before).actions

-- Where naming refuses no record, a job began while those dispatches were on the stack that had
-- begun and were not finished before its record.
abbrev pub WithinIsUnfinished : Type 0
WithinIsUnfinished = (h : List Record) (a : Action) (j : ℕ) (made : Option Task) (within : List ℕ)
    → IsNamed h → Among a (told h).actions → a.event.what ≡ JobRun j made within
    → (before : List Record) × IsBegunBehind h a.event j before × (within ≡ unfinished before)
