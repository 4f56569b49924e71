use Rattle.std.proofs.Common.{◌≡◌, subst}
use Rattle.std.specs.Prelude.{IfSome}
use Rattle.er_history.proofs.FirstLemmas.{note_keeps}
use Rattle.er_tasks.proofs.TaskLemmas.{declared_more, tasks_ranked_more}
use Rattle.er_tasks.proofs.table.note_task.Goals as goal

pub returns-clause-made : goal.returns-clause-made
returns-clause-made c = λ kind h x same now stands.
    let given = c.task_in-pair.ensures.given kind x now.running_action same now.action now.event in
    declared_more kind _ _ c.task_in-pair.result h x now.running_action c.note_pair.ensures.found stands given now.runs

pub returns-clause-ranked : goal.returns-clause-ranked
returns-clause-ranked c = λ kind h x same now stands.
    let given = c.task_in-pair.ensures.given kind x now.running_action same now.action now.event in
    let rank = subst (λ n. IfSome c.task_in-pair.result (λ p. p.1.rank ≡ n)) c.count.ensures c.task_in-pair.ensures.ranked in
    tasks_ranked_more kind _ _ c.task_in-pair.result h x now.running_action _ _ c.note_pair.ensures.found c.note_pair.ensures.longer c.note_pair.ensures.counted
    stands given rank now.runs

pub returns-clause-kept : goal.returns-clause-kept
returns-clause-kept c = note_keeps _ _ c.task_in-pair.result c.note_pair.ensures.found
