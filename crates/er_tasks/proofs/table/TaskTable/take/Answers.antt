use Rattle.std.proofs.Common.{◌≡◌, ◌∙◌, sym, ap, subst, ◌++◌, ◌∷◌}
use Rattle.std.specs.Prelude.{IfSome, IsSome, Some}
use Rattle.er_numbers.specs.Numbers.{found}
use Rattle.er_history.specs.Tasks.{starts_task, tasks_begun}
use Rattle.er_tasks.specs.Begun.{AreBegun}
use Rattle.er_history.specs.Taken.{KeepsEach}
use Rattle.er_history.specs.Noted.{is_number}
use Rattle.er_tasks.specs.Tasks.{IsStarted, numbers_in, TasksDeclared, TasksAreRanked}
use Rattle.er_history.specs.Found.{MakersAre}
use Rattle.er_tasks.proofs.TaskLemmas.{made_there, made_found, starts_number, started_listed, still_begun}
use Rattle.er_tasks.proofs.table.TaskTable.take.Goals as goal

pub begin-requires : goal.begin-requires
begin-requires c = record {
  room = c.requires.room.2;
  there = subst (λ o. IfSome o (λ p. IsSome (found c.note_event.new.table p.0))) (sym c.made-made.ensures) (made_there _ c.args.begun (λ k. IsSome (found c.note_event.new.table k)) c.note_event.ensures.there);
  made = subst (λ o. IfSome o (λ p. found c.note_task.new.table p.0 ≡ Some p.1)) (sym c.made-made.ensures) (made_found _ _ c.args.begun c.note_task.ensures.kept);
}

pub returns-clause-taken : goal.returns-clause-taken
returns-clause-taken c = λ kind h x noted stands now.
    let listed = ap numbers_in c.made-made.ensures ∙ started_listed kind h x _ c.args.begun stands.made noted.1 in
    record {
      made = subst (λ t. TasksDeclared kind (found t) (x ∷ h)) (sym c.begin.ensures.declared) (c.note_task.ensures.made kind h x noted.0 now stands.made);
      ranked = subst (λ t. TasksAreRanked kind (found t) t.count (x ∷ h)) (sym c.begin.ensures.declared) (c.note_task.ensures.ranked kind h x noted.0 now stands.ranked);
      events = subst (λ t. MakersAre (starts_task kind) (found t) (x ∷ h)) (sym c.begin.ensures.started)
          (c.note_event.ensures.made (starts_task kind) h x now.running_action stands.events (λ k. ap (is_number k) noted.1 ∙ starts_number kind x k) now.runs now.event);
      numbers = c.begin.ensures.listed ∙ (ap (λ l. l ++ numbers_in c.made-made.result) stands.numbers ∙ ap (λ l. tasks_begun kind h ++ l) listed);
      same = c.begin.ensures.numbers ∙ (ap (λ l. l ++ numbers_in c.made-made.result) stands.same ∙ ap (λ l. tasks_begun kind h ++ l) listed);
      begun = subst (λ t. AreBegun (found t) (found c.begin.new.self.started) c.begin.new.self.begun.tasks.items) (sym c.begin.ensures.declared)
          (subst (λ t. AreBegun (found c.note_task.new.table) (found t) c.begin.new.self.begun.tasks.items) (sym c.begin.ensures.started)
          (c.begin.ensures.begun (still_begun _ _ _ _ _ c.note_task.ensures.kept c.note_event.ensures.kept stands.begun)));
    }

pub returns-clause-declared : goal.returns-clause-declared
returns-clause-declared c = subst (λ t. KeepsEach (found c.args.self.now.declared) (found t)) (sym c.begin.ensures.declared) c.note_task.ensures.kept

pub returns-clause-started : goal.returns-clause-started
returns-clause-started c = subst (λ t. KeepsEach (found c.args.self.now.started) (found t)) (sym c.begin.ensures.started) c.note_event.ensures.kept

pub returns-clause-answers : goal.returns-clause-answers
returns-clause-answers c = c.begin.ensures.answers ∙ c.made-made.ensures

pub returns-clause-found : goal.returns-clause-found
returns-clause-found c =
    subst (λ t. IfSome c.begin.result (IsStarted (found t) (found c.begin.new.self.started))) (sym c.begin.ensures.declared)
    (subst (λ t. IfSome c.begin.result (IsStarted (found c.note_task.new.table) (found t))) (sym c.begin.ensures.started) c.begin.ensures.found)
