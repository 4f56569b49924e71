use Rattle.er_page.proofs.HandingLemmas.{latest_in, on_ok_as, on_err_as}
use Rattle.er_rules.specs.load.Loads.{dcl_part}
use Rattle.er_rules.proofs.load.DueLemmas.{dcl_events, dcl_is}
use Rattle.er_rules.proofs.load.due.hand_dcl.Goals as goal

pub hand_latest-requires : goal.hand_latest-requires
hand_latest-requires c = record { events = dcl_events c.args.page.now c.args.doc c.dcl_close.result c.requires.some c.dcl_close.ensures }

pub returns-clause-whole : goal.returns-clause-whole
returns-clause-whole c = on_ok_as c.hand_latest.result c.args.page.now (latest_in c.dcl_close.result) (dcl_part c.args.doc) c.args.out.now.items c.hand_latest.new.out.items (dcl_is c.args.page.now c.args.doc c.dcl_close.result c.dcl_close.ensures) c.hand_latest.ensures.whole

pub returns-clause-part : goal.returns-clause-part
returns-clause-part c = on_err_as c.hand_latest.result c.args.page.now (latest_in c.dcl_close.result) (dcl_part c.args.doc) c.args.out.now.items c.hand_latest.new.out.items (dcl_is c.args.page.now c.args.doc c.dcl_close.result c.dcl_close.ensures) c.hand_latest.ensures.part
