-- Proof that what declared a task comes before its event, and that a job keeps the dispatches that
-- are not finished before its record. Lists of records stand newest first.
use Rattle.std.proofs.Common.{◌≡◌, ℕ, Bool, true, false, List, [], ◌∷◌, Option, Some, None, refl, sym, ap, subst, ◌∙◌, inl, inr}
use Rattle.std.specs.Prelude.{◌-◌, if◌then◌else◌, length}
use Rattle.er_trace.specs.declared.record.Record.{Record}
use Rattle.er_trace.specs.declared.record.Record.TheVariants.{Run, Close, Back, Job}
use Rattle.er_history.specs.History.{Task, What, HandlerOf, CloseOf, JobRun, Unnamed, Dispatch, Event, Action, History, told, begins, maker_by, declares_handler, find_open, action_at, what_begun, event_resumed, event_begun, action_begun}
use Rattle.er_history.specs.Laws.{Among}
use Rattle.er_history.specs.Naming.{IsNamed}
use Rattle.er_history.proofs.HistoryLemmas.{action_at_among}
use Rattle.er_history.proofs.OrderLemmas.{WhatBefore}
use Rattle.er_history.proofs.UnfinishedLemmas.{stack_is_unfinished}
use Rattle.er_history.proofs.VersionLemmas.{all_know}
use Rattle.er_laws.specs.Tasks.{DeclaredBeforeEvent, unfinished, IsBegunBehind, WithinIsUnfinished}

pub declared_before_event : DeclaredBeforeEvent
declared_before_event = record {
  messages = λ h a m x among is. (subst (WhatBefore a.event.number) is (all_know h a among) x refl).1;
  anims = λ h a n x among is. (subst (WhatBefore a.event.number) is (all_know h a among) x refl).1;
  jobs = λ h a j x within among is. (subst (WhatBefore a.event.number) is (all_know h a among) x refl).1;
}

-- what an event keeps of a job

abbrev job_in : What → ℕ
job_in (JobRun j made within) = j
job_in _ = 0

abbrev within_of : What → List ℕ
within_of (JobRun j made within) = within
within_of _ = []

abbrev is_job : What → Bool
is_job (JobRun j made within) = true
is_job _ = false

never : {A : Type 0} → false ≡ true → A
never e = absurd (cc)

-- an event that is a job has its record in the list, and keeps what was not finished before
abbrev Says : List Record → Event → Type 0
Says h e = (j : ℕ) (made : Option Task) (within : List ℕ) → e.what ≡ JobRun j made within
    → (before : List Record) × IsBegunBehind h e j before × (within ≡ unfinished before)

says_later : (x : Record) (h : List Record) (e : Event) → Says h e → Says (x ∷ h) e
says_later x h e says j made within is =
    let it = says j made within is in
    (it.0, record { later = x ∷ it.1.later; whole = ap (λ older. x ∷ older) it.1.whole; begins = it.1.begins }, it.2)

no_job : (h : List Record) (e : Event) → is_job e.what ≡ false → Says h e
no_job h e none j made within is = never (sym none ∙ ap is_job is)

resumed_says : (h : List Record) (t : History) (p : ℕ) → ((a : Action) → Among a t.actions → Says h a.event) → Says h (event_resumed t p)
resumed_says h t p older = of_found (find_open p t.stack)
  where
    event_of : Option Action → Event
    event_of None = record { number = length t.actions; what = Unnamed }
    event_of (Some a) = a.event

    of : Option Dispatch → Event
    of None = event_of None
    of (Some d) = event_of (action_at (d.begin - 1) t.actions)

    at : (k : ℕ) (found : Option Action) → action_at k t.actions ≡ found → Says h (event_of found)
    at k None e = no_job h (event_of None) refl
    at k (Some a) e = older a (action_at_among k t.actions a e).0

    of_found : (found : Option Dispatch) → Says h (of found)
    of_found None = no_job h (event_of None) refl
    of_found (Some d) = at (d.begin - 1) (action_at (d.begin - 1) t.actions) refl

-- the run of a handler and a close are no job

run_is_none : (t : History) (p g x : ℕ) → is_job (what_begun t (Run p g x)) ≡ false
run_is_none t p g x = by (find_open p t.stack) (maker_by (declares_handler x) t.entries)
  where
    handler : ℕ → ℕ → Option Dispatch → Option ℕ → What
    handler g x (Some d) m = HandlerOf d g x m
    handler g x None m = Unnamed

    by : (o : Option Dispatch) (m : Option ℕ) → is_job (handler g x o m) ≡ false
    by (Some d) m = refl
    by None m = refl

close_is_none : (t : History) (p : ℕ) → is_job (what_begun t (Close p)) ≡ false
close_is_none t p = by (find_open p t.stack)
  where
    close : Option Dispatch → What
    close None = Unnamed
    close (Some d) = CloseOf d

    by : (o : Option Dispatch) → is_job (close o) ≡ false
    by None = refl
    by (Some d) = refl

newest_says : (h : List Record) (x : Record) → IsNamed h → ((a : Action) → Among a (told h).actions → Says h a.event) → Says (x ∷ h) (event_begun (told h) x)
newest_says h (Back p) named older = resumed_says (Back p ∷ h) (told h) p (λ a among. says_later (Back p) h a.event (older a among))
newest_says h (Job i) named older = λ j made within is.
    (h, record { later = []; whole = ap (λ k. Job k ∷ h) (ap job_in is); begins = refl }, sym (ap within_of is) ∙ stack_is_unfinished h named)
newest_says h (Run p g y) named older = no_job (Run p g y ∷ h) (event_begun (told h) (Run p g y)) (run_is_none (told h) p g y)
newest_says h (Close p) named older = no_job (Close p ∷ h) (event_begun (told h) (Close p)) (close_is_none (told h) p)
newest_says h x named older = no_job (x ∷ h) (event_begun (told h) x) refl

all_say : (h : List Record) → IsNamed h → (a : Action) → Among a (told h).actions → Says h a.event
all_say [] named a among = absurd among
all_say (x ∷ h) named a among = step (begins x) (newest_says h x named.1 (all_say h named.1)) (λ b older. says_later x h b.event (all_say h named.1 b older)) a among
  where
    step : (b : Bool) → Says (x ∷ h) (event_begun (told h) x) → ((a : Action) → Among a (told h).actions → Says (x ∷ h) a.event)
        → (a : Action) → Among a (if b then action_begun (told h) x ∷ (told h).actions else (told h).actions) → Says (x ∷ h) a.event
    step true new older a (inl same) = subst (λ (c : Action). Says (x ∷ h) c.event) (sym same) new
    step true new older a (inr deeper) = older a deeper
    step false new older a deeper = older a deeper

pub within_is_unfinished : WithinIsUnfinished
within_is_unfinished h a j made within named among is = all_say h named a among j made within is
