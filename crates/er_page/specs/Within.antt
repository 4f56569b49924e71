-- What the table of jobs by dispatch stands for. Lists of records stand newest first.
use Rattle.std.specs.Prelude.{◌≡◌, ℕ, ◌==◌, if◌then◌else◌, List, [], ◌∷◌, Option, Some, None, nat_eq}
use Rattle.indexmap.specs.IndexMap.{get}
use Rattle.er_trace.specs.declared.record.Record.{Record}
use Rattle.er_trace.specs.declared.record.Record.TheVariants.{Job}
use Rattle.er_history.specs.LookUps.{jobs_in, open_dispatch}
use Rattle.er_latest.specs.Tables.{items_of}
use Rattle.er_page.specs.declared.within.Within.{Within}

abbrev pub jobs_at : Within → ℕ → List ℕ
jobs_at within p = items_of (get nat_eq within.lists p)

-- under each dispatch the jobs that began while it was on the stack
pub record WithinIs (within : Within) (h : List Record) : Type 0 where
  pub each : (p : ℕ) → jobs_at within p ≡ jobs_in h p

-- the dispatch on top, where the record begins a job
abbrev pub job_dispatch : List Record → Record → Option ℕ
job_dispatch h (Job j) = open_dispatch h
job_dispatch h _ = None

-- the event, where it begins under dispatch p
abbrev pub job_under : ℕ → Option ℕ → ℕ → List ℕ
job_under p None event = []
job_under p (Some q) event = if q == p then event ∷ [] else []
