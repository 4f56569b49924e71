-- An access declares and begins no task.
use Rattle.std.proofs.Common.{◌≡◌, ℕ, false, List, [], ◌∷◌, ◌++◌, Some, None, refl, sym, ap, ◌∙◌, arith}
use Rattle.std.proofs.lemmas.List.{append-nil}
use Rattle.er_numbers.specs.Numbers.{found}
use Rattle.er_trace.specs.declared.record.Record.{Record}
use Rattle.er_trace.specs.declared.record.Record.TheVariants.{Access}
use Rattle.er_trace.specs.declared.record.Loc.{Loc}
use Rattle.er_trace.specs.declared.record.Mode.{Mode}
use Rattle.er_history.specs.History.{told, running, actions_after, Action}
use Rattle.er_history.specs.LookUps as says
use Rattle.er_history.specs.Tasks.{TaskKind, OfMessage, OfAnim, OfJob, declares_task, starts_task, started_by, tasks_begun, queued_jobs}
use Rattle.er_history.proofs.FirstLemmas.{or_none, makers_same}
use Rattle.er_tasks.specs.declared.table.TaskTable.{TaskTable}
use Rattle.er_tasks.specs.declared.tasks.Tasks.{Tasks}
use Rattle.er_tasks.specs.Tasks.{TaskGiven, TaskTableIs, TasksAre}
use Rattle.er_tasks.proofs.TaskLemmas.{none_given, declared_more, tasks_ranked_more}

no_task : (kind : TaskKind) (m : Mode) (l : Loc) (k : ℕ) → false ≡ declares_task kind k (Access m l)
no_task OfMessage m l k = refl
no_task OfAnim m l k = refl
no_task OfJob m l k = refl

no_start : (kind : TaskKind) (m : Mode) (l : Loc) (k : ℕ) → starts_task kind k (Access m l) ≡ false
no_start OfMessage m l k = refl
no_start OfAnim m l k = refl
no_start OfJob m l k = refl

none_started : (kind : TaskKind) (h : List Record) (m : Mode) (l : Loc) → [] ≡ started_by kind h (Access m l)
none_started OfMessage h m l = refl
none_started OfAnim h m l = refl
none_started OfJob h m l = refl

table_same : (kind : TaskKind) (table : TaskTable) (h : List Record) (m : Mode) (l : Loc) (a : Action) → running (actions_after (told h) (Access m l)) ≡ Some a
    → TaskTableIs kind table h → TaskTableIs kind table (Access m l ∷ h)
table_same kind table h m l a runs stands = record {
  made = declared_more kind _ _ None h (Access m l) a (λ k. sym (or_none (found table.declared k))) stands.made given runs;
  ranked = tasks_ranked_more kind _ _ None h (Access m l) a _ _ (λ k. sym (or_none (found table.declared k))) (omega arith) tt stands.ranked given tt runs;
  events = makers_same (starts_task kind) _ h (Access m l) (no_start kind m l) stands.events;
  numbers = stands.numbers ∙ none_more;
  same = stands.same ∙ none_more;
  begun = stands.begun;
}
  where
    given : TaskGiven kind None (Access m l) a
    given = none_given kind (Access m l) a (no_task kind m l)

    none_more : tasks_begun kind h ≡ tasks_begun kind (Access m l ∷ h)
    none_more = sym (append-nil (tasks_begun kind h)) ∙ ap (λ (s : List ℕ). tasks_begun kind h ++ s) (none_started kind h m l)

-- where an action runs, an access leaves what the tasks stand for
pub tasks_same : (tasks : Tasks) (h : List Record) (m : Mode) (l : Loc) (a : Action) → running (actions_after (told h) (Access m l)) ≡ Some a
    → TasksAre tasks h → TasksAre tasks (Access m l ∷ h)
tasks_same tasks h m l a runs stands = record {
  messages = table_same OfMessage tasks.messages h m l a runs stands.messages;
  anims = table_same OfAnim tasks.anims h m l a runs stands.anims;
  jobs = table_same OfJob tasks.jobs h m l a runs stands.jobs;
  queued = record {
    events = λ u. stands.queued.events u ∙ sym (append-nil (says.jobs_queued h u));
    same = λ u. stands.queued.same u ∙ sym (append-nil (queued_jobs h u));
  };
  begun = stands.begun;
}
