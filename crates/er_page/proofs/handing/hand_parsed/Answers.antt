use Rattle.std.proofs.Common.{◌++◌}
use Rattle.er_history.specs.History.{History}
use Rattle.er_history.specs.Kinds.{is_step_of, is_run_of}
use Rattle.er_history.specs.Rules.{is_blocking, is_deferred}
use Rattle.er_trace.proofs.ResultLaws.{on_err}
use Rattle.er_page.proofs.HandingLemmas.{newest_events, newest_in, grew_newest, part_newest, grew_on, part_first, part_later, on_ok_then, on_err_then, on_ok_newest, on_err_newest}
use Rattle.er_page.proofs.handing.hand_parsed.Goals as goal

pub hand_latest-requires : goal.hand_latest-requires
hand_latest-requires c = record { events = newest_events c.args.page.now (is_step_of c.args.doc) c.last_parse.result c.requires.some c.last_parse.ensures }

pub hand_latest-requires-2 : goal.hand_latest-requires-2
hand_latest-requires-2 c = record { events = newest_events c.args.page.now (is_run_of is_blocking c.args.doc) c.last_blocking_run.result c.requires.some c.last_blocking_run.ensures }

pub hand_latest-requires-3 : goal.hand_latest-requires-3
hand_latest-requires-3 c = record { events = newest_events c.args.page.now (is_run_of is_deferred c.args.doc) c.last_deferred_run.result c.requires.some c.last_deferred_run.ensures }

pub returns-in_err-hand_latest-clause-part : goal.returns-in_err-hand_latest-clause-part
returns-in_err-hand_latest-clause-part c = on_err c.from_residual.result _
    (part_first c.args.page.now (λ (t : History). newest_in (is_step_of c.args.doc) t ++ newest_in (is_run_of is_blocking c.args.doc) t) (newest_in (is_run_of is_deferred c.args.doc)) c.args.out.now.items c.hand_latest.new.out.items
    (part_first c.args.page.now (newest_in (is_step_of c.args.doc)) (newest_in (is_run_of is_blocking c.args.doc)) c.args.out.now.items c.hand_latest.new.out.items
    (part_newest c.args.page.now (is_step_of c.args.doc) c.last_parse.result c.args.out.now.items c.hand_latest.new.out.items c.last_parse.ensures c.in_err-hand_latest.ensures.part)))

pub returns-in_err-hand_latest-2-clause-part : goal.returns-in_err-hand_latest-2-clause-part
returns-in_err-hand_latest-2-clause-part c = on_err c.from_residual-in_err-hand_latest-2.result _
    (part_first c.args.page.now (λ (t : History). newest_in (is_step_of c.args.doc) t ++ newest_in (is_run_of is_blocking c.args.doc) t) (newest_in (is_run_of is_deferred c.args.doc)) c.args.out.now.items c.hand_latest-2.new.out.items
    (part_later c.args.page.now (newest_in (is_step_of c.args.doc)) (newest_in (is_run_of is_blocking c.args.doc)) c.args.out.now.items c.hand_latest.new.out.items c.hand_latest-2.new.out.items
    (grew_newest c.args.page.now (is_step_of c.args.doc) c.last_parse.result c.args.out.now.items c.hand_latest.new.out.items c.last_parse.ensures c.in_ok-hand_latest.ensures.whole)
    (part_newest c.args.page.now (is_run_of is_blocking c.args.doc) c.last_blocking_run.result c.hand_latest.new.out.items c.hand_latest-2.new.out.items c.last_blocking_run.ensures c.in_err-hand_latest-2.ensures.part)))

pub returns-clause-whole : goal.returns-clause-whole
returns-clause-whole c =
    on_ok_then c.hand_latest-3.result c.args.page.now (λ (t : History). newest_in (is_step_of c.args.doc) t ++ newest_in (is_run_of is_blocking c.args.doc) t) (newest_in (is_run_of is_deferred c.args.doc)) c.args.out.now.items c.hand_latest-2.new.out.items c.hand_latest-3.new.out.items
    (grew_on c.args.page.now (newest_in (is_step_of c.args.doc)) (newest_in (is_run_of is_blocking c.args.doc)) c.args.out.now.items c.hand_latest.new.out.items c.hand_latest-2.new.out.items
    (grew_newest c.args.page.now (is_step_of c.args.doc) c.last_parse.result c.args.out.now.items c.hand_latest.new.out.items c.last_parse.ensures c.in_ok-hand_latest.ensures.whole)
    (grew_newest c.args.page.now (is_run_of is_blocking c.args.doc) c.last_blocking_run.result c.hand_latest.new.out.items c.hand_latest-2.new.out.items c.last_blocking_run.ensures c.in_ok-hand_latest-2.ensures.whole))
    (on_ok_newest c.hand_latest-3.result c.args.page.now (is_run_of is_deferred c.args.doc) c.last_deferred_run.result c.hand_latest-2.new.out.items c.hand_latest-3.new.out.items c.last_deferred_run.ensures c.hand_latest-3.ensures.whole)

pub returns-clause-part : goal.returns-clause-part
returns-clause-part c =
    on_err_then c.hand_latest-3.result c.args.page.now (λ (t : History). newest_in (is_step_of c.args.doc) t ++ newest_in (is_run_of is_blocking c.args.doc) t) (newest_in (is_run_of is_deferred c.args.doc)) c.args.out.now.items c.hand_latest-2.new.out.items c.hand_latest-3.new.out.items
    (grew_on c.args.page.now (newest_in (is_step_of c.args.doc)) (newest_in (is_run_of is_blocking c.args.doc)) c.args.out.now.items c.hand_latest.new.out.items c.hand_latest-2.new.out.items
    (grew_newest c.args.page.now (is_step_of c.args.doc) c.last_parse.result c.args.out.now.items c.hand_latest.new.out.items c.last_parse.ensures c.in_ok-hand_latest.ensures.whole)
    (grew_newest c.args.page.now (is_run_of is_blocking c.args.doc) c.last_blocking_run.result c.hand_latest.new.out.items c.hand_latest-2.new.out.items c.last_blocking_run.ensures c.in_ok-hand_latest-2.ensures.whole))
    (on_err_newest c.hand_latest-3.result c.args.page.now (is_run_of is_deferred c.args.doc) c.last_deferred_run.result c.hand_latest-2.new.out.items c.hand_latest-3.new.out.items c.last_deferred_run.ensures c.hand_latest-3.ensures.part)
