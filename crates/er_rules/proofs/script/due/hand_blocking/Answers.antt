use Rattle.er_history.specs.Kinds.{is_run_of}
use Rattle.er_history.specs.Rules.{is_blocking}
use Rattle.er_page.proofs.HandingLemmas.{newest_events, on_ok_newest, on_err_newest}
use Rattle.er_rules.proofs.script.due.hand_blocking.Goals as goal

pub hand_latest-requires : goal.hand_latest-requires
hand_latest-requires c = record { events = newest_events c.args.page.now (is_run_of is_blocking c.args.doc) c.last_blocking_run.result c.requires.some c.last_blocking_run.ensures }

pub returns-clause-whole : goal.returns-clause-whole
returns-clause-whole c = on_ok_newest c.hand_latest.result c.args.page.now (is_run_of is_blocking c.args.doc) c.last_blocking_run.result c.args.out.now.items c.hand_latest.new.out.items c.last_blocking_run.ensures c.hand_latest.ensures.whole

pub returns-clause-part : goal.returns-clause-part
returns-clause-part c = on_err_newest c.hand_latest.result c.args.page.now (is_run_of is_blocking c.args.doc) c.last_blocking_run.result c.args.out.now.items c.hand_latest.new.out.items c.last_blocking_run.ensures c.hand_latest.ensures.part
