use Rattle.std.proofs.Common.{rules, sym, subst}
use Rattle.er_numbers.specs.Numbers.{found}
use Rattle.er_tasks.specs.declared.begun.Started.{Started}
use Rattle.er_tasks.specs.Begun.{AreBegun, AreRuns, IsRunTo}
use Rattle.er_tasks.specs.Tasks.{IsStarted}
use Rattle.er_tasks.proofs.TaskLemmas.{begun_more}
use Rattle.er_tasks.proofs.table.TaskTable.begin.Goals as goal

pub returns-clause-begun : goal.returns-clause-begun
returns-clause-begun c = λ are.
    let declared = found c.args.self.now.declared in
    let started = found c.args.self.now.started in
    let s : Started = record { number = c.in_ok-number.number; event = c.in-Some.event; task = c.in_ok-number.task } in
    let is : IsStarted declared started s = search rules in
    let to = subst (λ xs. IsRunTo xs c.in_ok-number.task c.run_to-run.result) c.as_slice.ensures.value (c.run_to-run.ensures (subst AreRuns (sym c.as_slice.ensures.value) are.runs)) in
    subst (AreBegun declared started) (sym c.push.ensures.tasks) (begun_more declared started c.args.self.now.begun.tasks.items s c.run_to-run.result are is to)
