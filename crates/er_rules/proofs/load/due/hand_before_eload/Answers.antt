use Rattle.std.proofs.Common.{◌++◌}
use Rattle.er_trace.proofs.ResultLaws.{on_err}
use Rattle.er_history.specs.History.{History}
use Rattle.er_page.proofs.HandingLemmas.{grew_on, part_first, part_later, on_ok_then, on_err_then}
use Rattle.er_rules.specs.load.Loads.{maker_part, run_part, inner_part}
use Rattle.er_rules.proofs.load.due.hand_before_eload.Goals as goal

pub returns-in_err-hand_maker-clause-part : goal.returns-in_err-hand_maker-clause-part
returns-in_err-hand_maker-clause-part c = on_err c.from_residual.result _ (part_first c.args.page.now (λ (t : History). (maker_part c.args.element) t ++ (run_part c.args.element) t) (inner_part c.args.element) c.args.out.now.items c.hand_maker.new.out.items (part_first c.args.page.now (maker_part c.args.element) (run_part c.args.element) c.args.out.now.items c.hand_maker.new.out.items c.in_err-hand_maker.ensures.part))

pub returns-in_err-hand_run-clause-part : goal.returns-in_err-hand_run-clause-part
returns-in_err-hand_run-clause-part c = on_err c.from_residual-in_err-hand_run.result _ (part_first c.args.page.now (λ (t : History). (maker_part c.args.element) t ++ (run_part c.args.element) t) (inner_part c.args.element) c.args.out.now.items c.hand_run.new.out.items (part_later c.args.page.now (maker_part c.args.element) (run_part c.args.element) c.args.out.now.items c.hand_maker.new.out.items c.hand_run.new.out.items c.in_ok-hand_maker.ensures.whole c.in_err-hand_run.ensures.part))

pub returns-clause-whole : goal.returns-clause-whole
returns-clause-whole c = on_ok_then c.hand_inner.result c.args.page.now (λ (t : History). (maker_part c.args.element) t ++ (run_part c.args.element) t) (inner_part c.args.element) c.args.out.now.items c.hand_run.new.out.items c.hand_inner.new.out.items (grew_on c.args.page.now (maker_part c.args.element) (run_part c.args.element) c.args.out.now.items c.hand_maker.new.out.items c.hand_run.new.out.items c.in_ok-hand_maker.ensures.whole c.in_ok-hand_run.ensures.whole) c.hand_inner.ensures.whole

pub returns-clause-part : goal.returns-clause-part
returns-clause-part c = on_err_then c.hand_inner.result c.args.page.now (λ (t : History). (maker_part c.args.element) t ++ (run_part c.args.element) t) (inner_part c.args.element) c.args.out.now.items c.hand_run.new.out.items c.hand_inner.new.out.items (grew_on c.args.page.now (maker_part c.args.element) (run_part c.args.element) c.args.out.now.items c.hand_maker.new.out.items c.hand_run.new.out.items c.in_ok-hand_maker.ensures.whole c.in_ok-hand_run.ensures.whole) c.hand_inner.ensures.part
