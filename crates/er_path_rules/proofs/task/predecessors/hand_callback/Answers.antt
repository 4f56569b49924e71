use Rattle.er_path_rules.specs.task.Kinds.{shown}
use Rattle.er_path_rules.proofs.task.HandLemmas.{callback_whole, callback_first, callback_part}
use Rattle.er_path_rules.proofs.task.predecessors.hand_callback.Goals as goal

pub returns-in_err-hand_task-clause-part : goal.returns-in_err-hand_task-clause-part
returns-in_err-hand_task-clause-part c = callback_first (shown c.args.kind) c.args.page.now c.args.clocks.now c.args.number c.from_residual.result c.args.out.now.items c.hand_task.new.out.items c.in_err-hand_task.ensures.part

pub returns-clause-whole : goal.returns-clause-whole
returns-clause-whole c = callback_whole (shown c.args.kind) c.args.page.now c.args.clocks.now c.args.number c.maker.result c.hand_jobs_of.result c.args.out.now.items c.hand_task.new.out.items c.hand_jobs_of.new.out.items c.maker.ensures
    c.in_ok-hand_task.ensures.whole c.hand_jobs_of.ensures.whole

pub returns-clause-part : goal.returns-clause-part
returns-clause-part c = callback_part (shown c.args.kind) c.args.page.now c.args.clocks.now c.args.number c.maker.result c.hand_jobs_of.result c.args.out.now.items c.hand_task.new.out.items c.hand_jobs_of.new.out.items c.maker.ensures
    c.in_ok-hand_task.ensures.whole c.hand_jobs_of.ensures.part
