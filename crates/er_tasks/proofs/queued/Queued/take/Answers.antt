use Rattle.std.proofs.Common.{sym, subst}
use Rattle.er_tasks.specs.Begun.{AreBegun, AreRuns, IsRunTo, tasks_at}
use Rattle.er_tasks.specs.Tasks.{IsStarted}
use Rattle.er_tasks.proofs.TaskLemmas.{begun_under}
use Rattle.er_tasks.proofs.queued.Queued.take.Goals as goal

pub returns-in-Some-clause-begun : goal.returns-in-Some-clause-begun
returns-in-Some-clause-begun c = λ found started are is u.
    let s = c.in-Some.started in
    let at : IsStarted found started s = rw c.in-Some.is at is in
    let to = subst (λ xs. IsRunTo xs s.task c.run_to-run.result) c.tasks.ensures (c.run_to-run.ensures (subst AreRuns (sym c.tasks.ensures) (are s.task.maker).runs)) in
    subst (AreBegun found started) (sym (c.put.ensures.tasks u)) (begun_under found started (tasks_at c.args.self.now) s c.run_to-run.result u are at to)
