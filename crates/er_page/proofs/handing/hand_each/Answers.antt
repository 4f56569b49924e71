use Rattle.er_pieces.proofs.ContractLemmas.{grew_nothing}
use Rattle.er_page.proofs.HandingLemmas.{each_handed, each_part, each_done, one_of_slice}
use Rattle.er_page.proofs.handing.hand_each.Goals as goal

pub loop-back-init : goal.loop-back-init
loop-back-init c = record { handed = λ h stands. grew_nothing c.args.out.now.items }

pub hand_latest-requires : goal.hand_latest-requires
hand_latest-requires c = record { events = one_of_slice c.args.page.now c.args.events.now c.loop-back.back c.loop-back-test.true c.requires.events }

pub returns-in_err-hand_latest-clause-part : goal.returns-in_err-hand_latest-clause-part
returns-in_err-hand_latest-clause-part c = each_part c.args.page.now c.args.events.now c.loop-back.back c.from_residual.result c.args.out.now.items c.loop-back.out.items c.hand_latest.new.out.items c.loop-back-test.true c.loop-back.invariant.handed c.in_err-hand_latest.ensures.part

pub loop-back-preserved : goal.loop-back-preserved
loop-back-preserved c = record { handed = each_handed c.args.page.now c.args.events.now c.loop-back.back c.args.out.now.items c.loop-back.out.items c.hand_latest.new.out.items c.loop-back-test.true c.loop-back.invariant.handed c.in_ok-hand_latest.ensures.whole }

pub returns-clause-whole : goal.returns-clause-whole
returns-clause-whole c = each_done c.args.page.now c.args.events.now c.loop-back.back c.args.out.now.items c.loop-back.out.items c.loop-back-test.false c.loop-back.invariant.handed
