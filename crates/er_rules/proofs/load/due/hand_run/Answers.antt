use Rattle.er_history.specs.Naming.{runs_script}
use Rattle.er_page.proofs.HandingLemmas.{latest_in, made_events, on_ok_as, on_err_as}
use Rattle.er_rules.specs.load.Loads.{run_part}
use Rattle.er_rules.proofs.load.DueLemmas.{run_is}
use Rattle.er_rules.proofs.load.due.hand_run.Goals as goal

pub hand_latest-requires : goal.hand_latest-requires
hand_latest-requires c = record { events = made_events c.args.page.now (runs_script c.args.element) c.run_of.result c.requires.some c.run_of.ensures }

pub returns-clause-whole : goal.returns-clause-whole
returns-clause-whole c = on_ok_as c.hand_latest.result c.args.page.now (latest_in c.run_of.result) (run_part c.args.element) c.args.out.now.items c.hand_latest.new.out.items (run_is c.args.page.now c.args.element c.run_of.result c.run_of.ensures) c.hand_latest.ensures.whole

pub returns-clause-part : goal.returns-clause-part
returns-clause-part c = on_err_as c.hand_latest.result c.args.page.now (latest_in c.run_of.result) (run_part c.args.element) c.args.out.now.items c.hand_latest.new.out.items (run_is c.args.page.now c.args.element c.run_of.result c.run_of.ensures) c.hand_latest.ensures.part
