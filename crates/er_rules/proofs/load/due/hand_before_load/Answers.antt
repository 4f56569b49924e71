use Rattle.std.proofs.Common.{◌++◌}
use Rattle.er_trace.proofs.ResultLaws.{on_err}
use Rattle.er_history.specs.History.{History}
use Rattle.er_pieces.specs.HandedPieces.{dcl_handed}
use Rattle.er_page.proofs.HandingLemmas.{grew_on, part_first, part_later, on_ok_then, on_err_then}
use Rattle.er_rules.specs.load.Loads.{dcl_part, async_part, static_part}
use Rattle.er_rules.proofs.load.due.hand_before_load.Goals as goal

pub returns-in_err-hand_dcl-clause-part : goal.returns-in_err-hand_dcl-clause-part
returns-in_err-hand_dcl-clause-part c = on_err c.from_residual.result _ (part_first c.args.page.now (λ (t : History). (dcl_part c.args.doc) t ++ (λ (t : History). dcl_handed t c.args.doc) t ++ (async_part c.args.doc) t) (static_part c.args.doc) c.args.out.now.items c.hand_dcl.new.out.items (part_first c.args.page.now (λ (t : History). (dcl_part c.args.doc) t ++ (λ (t : History). dcl_handed t c.args.doc) t) (async_part c.args.doc) c.args.out.now.items c.hand_dcl.new.out.items (part_first c.args.page.now (dcl_part c.args.doc) (λ (t : History). dcl_handed t c.args.doc) c.args.out.now.items c.hand_dcl.new.out.items c.in_err-hand_dcl.ensures.part)))

pub returns-in_err-hand_parsed-clause-part : goal.returns-in_err-hand_parsed-clause-part
returns-in_err-hand_parsed-clause-part c = on_err c.from_residual-in_err-hand_parsed.result _ (part_first c.args.page.now (λ (t : History). (dcl_part c.args.doc) t ++ (λ (t : History). dcl_handed t c.args.doc) t ++ (async_part c.args.doc) t) (static_part c.args.doc) c.args.out.now.items c.hand_parsed.new.out.items (part_first c.args.page.now (λ (t : History). (dcl_part c.args.doc) t ++ (λ (t : History). dcl_handed t c.args.doc) t) (async_part c.args.doc) c.args.out.now.items c.hand_parsed.new.out.items (part_later c.args.page.now (dcl_part c.args.doc) (λ (t : History). dcl_handed t c.args.doc) c.args.out.now.items c.hand_dcl.new.out.items c.hand_parsed.new.out.items c.in_ok-hand_dcl.ensures.whole c.in_err-hand_parsed.ensures.part)))

pub returns-in_err-hand_async-clause-part : goal.returns-in_err-hand_async-clause-part
returns-in_err-hand_async-clause-part c = on_err c.from_residual-in_err-hand_async.result _ (part_first c.args.page.now (λ (t : History). (dcl_part c.args.doc) t ++ (λ (t : History). dcl_handed t c.args.doc) t ++ (async_part c.args.doc) t) (static_part c.args.doc) c.args.out.now.items c.hand_async.new.out.items (part_later c.args.page.now (λ (t : History). (dcl_part c.args.doc) t ++ (λ (t : History). dcl_handed t c.args.doc) t) (async_part c.args.doc) c.args.out.now.items c.hand_parsed.new.out.items c.hand_async.new.out.items (grew_on c.args.page.now (dcl_part c.args.doc) (λ (t : History). dcl_handed t c.args.doc) c.args.out.now.items c.hand_dcl.new.out.items c.hand_parsed.new.out.items c.in_ok-hand_dcl.ensures.whole c.in_ok-hand_parsed.ensures.whole) c.in_err-hand_async.ensures.part))

pub returns-clause-whole : goal.returns-clause-whole
returns-clause-whole c = on_ok_then c.hand_static.result c.args.page.now (λ (t : History). (dcl_part c.args.doc) t ++ (λ (t : History). dcl_handed t c.args.doc) t ++ (async_part c.args.doc) t) (static_part c.args.doc) c.args.out.now.items c.hand_async.new.out.items c.hand_static.new.out.items (grew_on c.args.page.now (λ (t : History). (dcl_part c.args.doc) t ++ (λ (t : History). dcl_handed t c.args.doc) t) (async_part c.args.doc) c.args.out.now.items c.hand_parsed.new.out.items c.hand_async.new.out.items (grew_on c.args.page.now (dcl_part c.args.doc) (λ (t : History). dcl_handed t c.args.doc) c.args.out.now.items c.hand_dcl.new.out.items c.hand_parsed.new.out.items c.in_ok-hand_dcl.ensures.whole c.in_ok-hand_parsed.ensures.whole) c.in_ok-hand_async.ensures.whole) c.hand_static.ensures.whole

pub returns-clause-part : goal.returns-clause-part
returns-clause-part c = on_err_then c.hand_static.result c.args.page.now (λ (t : History). (dcl_part c.args.doc) t ++ (λ (t : History). dcl_handed t c.args.doc) t ++ (async_part c.args.doc) t) (static_part c.args.doc) c.args.out.now.items c.hand_async.new.out.items c.hand_static.new.out.items (grew_on c.args.page.now (λ (t : History). (dcl_part c.args.doc) t ++ (λ (t : History). dcl_handed t c.args.doc) t) (async_part c.args.doc) c.args.out.now.items c.hand_parsed.new.out.items c.hand_async.new.out.items (grew_on c.args.page.now (dcl_part c.args.doc) (λ (t : History). dcl_handed t c.args.doc) c.args.out.now.items c.hand_dcl.new.out.items c.hand_parsed.new.out.items c.in_ok-hand_dcl.ensures.whole c.in_ok-hand_parsed.ensures.whole) c.in_ok-hand_async.ensures.whole) c.hand_static.ensures.part
