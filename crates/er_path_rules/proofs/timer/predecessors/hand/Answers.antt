use Rattle.er_trace.specs.declared.record.Record.TheVariants.{Timer}
use Rattle.er_page.proofs.HandingLemmas.{named_list}
use Rattle.er_path_rules.specs.timer.Enough.{timer_due}
use Rattle.er_path_rules.specs.timer.Fired.{callback_handed, tick_handed}
use Rattle.er_path_rules.proofs.timer.GrownLemmas.{enough_as, some_as}
use Rattle.er_path_rules.proofs.timer.TimersLemmas.{due_is_handed, tick_stand, whole_timed, part_timed}
use Rattle.er_path_rules.proofs.timer.predecessors.hand.Goals as goal

pub returns-in-Timer-clause-whole : goal.returns-in-Timer-clause-whole
returns-in-Timer-clause-whole c = rw c.in-Timer.is (enough_as c.args.version c.args.page.now c.args.clocks.now (λ h. callback_handed c.args.version h c.in-Timer.timeout) (λ h. timer_due c.args.version (Timer c.in-Timer.timeout) h)
    c.hand_for_timer.result c.args.out.now.items c.hand_for_timer.new.out.items (λ h is. due_is_handed c.args.version h c.in-Timer.timeout (named_list h is.page.accepted)) c.hand_for_timer.ensures.whole)

pub returns-in-Timer-clause-part : goal.returns-in-Timer-clause-part
returns-in-Timer-clause-part c = rw c.in-Timer.is (some_as c.args.version c.args.page.now c.args.clocks.now (λ h. callback_handed c.args.version h c.in-Timer.timeout) (λ h. timer_due c.args.version (Timer c.in-Timer.timeout) h)
    c.hand_for_timer.result c.args.out.now.items c.hand_for_timer.new.out.items (λ h is. due_is_handed c.args.version h c.in-Timer.timeout (named_list h is.page.accepted)) c.hand_for_timer.ensures.part)

pub returns-in-Tick-clause-whole : goal.returns-in-Tick-clause-whole
returns-in-Tick-clause-whole c = rw c.in-Tick.is (whole_timed c.args.version c.args.page.now c.args.clocks.now (λ h. tick_handed h c.in-Tick.interval) c.args.out.now.items c.hand_for_tick.new.out.items c.hand_for_tick.result
    (λ h k. tick_stand c.args.version h c.in-Tick.interval k) c.hand_for_tick.ensures.whole)

pub returns-in-Tick-clause-part : goal.returns-in-Tick-clause-part
returns-in-Tick-clause-part c = rw c.in-Tick.is (part_timed c.args.version c.args.page.now c.args.clocks.now (λ h. tick_handed h c.in-Tick.interval) c.args.out.now.items c.hand_for_tick.new.out.items c.hand_for_tick.result c.hand_for_tick.ensures.part)
