use Rattle.std.proofs.Common.{[], ap, is_some, option_map, refl, rules, sym, subst}
use Rattle.er_history.specs.Tasks.{task_place}
use Rattle.er_tasks.specs.Begun.{AreBegun}
use Rattle.er_tasks.specs.Tasks.{declared_of, task_rank}
use Rattle.er_history.proofs.FirstLemmas.{none_made}
use Rattle.er_history.proofs.RankLemmas.{none_ranked}
use Rattle.er_tasks.proofs.TaskLemmas.{none_begun}
use Rattle.er_tasks.proofs.table.TaskTable.new.Goals as goal

pub returns : goal.returns
returns c = λ kind. record {
  made = record { made = λ k. ap (option_map declared_of) (c.new.ensures k); known = λ k. ap is_some (c.new.ensures k) };
  ranked = none_ranked task_rank _ (task_place kind []) _ _ c.new.ensures (λ k. refl);
  events = none_made _ _ c.new-2.ensures;
  numbers = search rules;
  same = search rules;
  begun = subst (AreBegun _ _) (sym c.new-3.ensures.tasks) (none_begun _ _);
}
