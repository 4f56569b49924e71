use Rattle.er_path_rules.specs.task.Kinds.{shown}
use Rattle.er_path_rules.proofs.task.HandLemmas.{list_of, list_events, list_runs, list_joined, maker_events, no_task, task_whole, task_first, task_part}
use Rattle.er_path_rules.proofs.task.TellLemmas.{any_task}
use Rattle.er_path_rules.proofs.task.predecessors.hand_task.Goals as goal

pub returns-in_default-clause-whole : goal.returns-in_default-clause-whole
returns-in_default-clause-whole c = no_task (shown c.args.kind) c.args.page.now c.args.clocks.now c.args.number c.args.out.now.items c.in_default.ensures

pub hand_latest-requires : goal.hand_latest-requires
hand_latest-requires c = record { events = maker_events (shown c.args.kind) c.args.page.now c.args.number c.in-Some.next c.requires.some c.in-Some.ensures }

pub hand_before-requires : goal.hand_before-requires
hand_before-requires c =
    let kind = shown c.args.kind in
    let page = c.args.page.now in
    record {
      events = list_events kind page c.begun.result.now c.requires.some c.begun.ensures.begun;
      runs = list_runs kind page c.begun.result.now c.requires.some c.begun.ensures.begun;
      joined = list_joined kind page c.args.clocks.now any_task c.begun.result.now (list_of kind page c.begun.result.now c.begun.ensures.numbers c.begun.ensures.begun);
    }

pub returns-in_err-hand_latest-clause-part : goal.returns-in_err-hand_latest-clause-part
returns-in_err-hand_latest-clause-part c = task_first (shown c.args.kind) c.args.page.now c.args.clocks.now c.args.number c.in-Some.next c.from_residual.result c.args.out.now.items c.hand_latest.new.out.items c.in-Some.ensures c.in_err-hand_latest.ensures.part

pub returns-clause-whole : goal.returns-clause-whole
returns-clause-whole c = task_whole (shown c.args.kind) c.args.page.now c.args.clocks.now c.args.number c.in-Some.next c.begun.result.now c.hand_before.result c.args.out.now.items c.hand_latest.new.out.items c.hand_before.new.out.items
    c.in-Some.ensures c.begun.ensures.numbers c.begun.ensures.begun c.in_ok-hand_latest.ensures.whole c.hand_before.ensures.whole

pub returns-clause-part : goal.returns-clause-part
returns-clause-part c = task_part (shown c.args.kind) c.args.page.now c.args.clocks.now c.args.number c.in-Some.next c.begun.result.now c.hand_before.result c.args.out.now.items c.hand_latest.new.out.items c.hand_before.new.out.items
    c.in-Some.ensures c.begun.ensures.numbers c.begun.ensures.begun c.in_ok-hand_latest.ensures.whole c.hand_before.ensures.part
