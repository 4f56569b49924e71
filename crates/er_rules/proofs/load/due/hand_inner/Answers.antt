use Rattle.er_page.proofs.HandingLemmas.{latest_in, on_ok_as, on_err_as}
use Rattle.er_rules.specs.load.Loads.{inner_part}
use Rattle.er_rules.proofs.load.DueLemmas.{inner_events, inner_is}
use Rattle.er_rules.proofs.load.due.hand_inner.Goals as goal

pub hand_latest-requires : goal.hand_latest-requires
hand_latest-requires c = record { events = inner_events c.args.page.now c.args.element c.inner_load_close.result c.requires.some c.inner_load_close.ensures }

pub returns-clause-whole : goal.returns-clause-whole
returns-clause-whole c = on_ok_as c.hand_latest.result c.args.page.now (latest_in c.inner_load_close.result) (inner_part c.args.element) c.args.out.now.items c.hand_latest.new.out.items (inner_is c.args.page.now c.args.element c.inner_load_close.result c.inner_load_close.ensures) c.hand_latest.ensures.whole

pub returns-clause-part : goal.returns-clause-part
returns-clause-part c = on_err_as c.hand_latest.result c.args.page.now (latest_in c.inner_load_close.result) (inner_part c.args.element) c.args.out.now.items c.hand_latest.new.out.items (inner_is c.args.page.now c.args.element c.inner_load_close.result c.inner_load_close.ensures) c.hand_latest.ensures.part
