use Rattle.er_trace.proofs.ResultLaws.{on_err}
use Rattle.er_history.specs.History.{History, maker_by, declares_document}
use Rattle.er_history.specs.Kinds.{is_step_of}
use Rattle.er_history.specs.Latest.{latest_of}
use Rattle.er_page.proofs.HandingLemmas.{newest_in, latest_in, newest_events, made_events, look_up_is, grew_newest, part_newest, on_ok_as, on_err_as, part_first, on_ok_then, on_err_then}
use Rattle.er_rules.proofs.parse.due.hand_step.Goals as goal

pub hand_latest-requires : goal.hand_latest-requires
hand_latest-requires c = record { events = newest_events c.args.page.now (is_step_of c.args.doc) c.last_parse.result c.requires.some c.last_parse.ensures }

pub hand_latest-requires-2 : goal.hand_latest-requires-2
hand_latest-requires-2 c = record { events = made_events c.args.page.now (declares_document c.args.doc) c.maker_of_document.result c.requires.some c.maker_of_document.ensures.maker }

pub returns-in_err-hand_latest-clause-part : goal.returns-in_err-hand_latest-clause-part
returns-in_err-hand_latest-clause-part c = on_err c.from_residual.result _
    (part_first c.args.page.now (newest_in (is_step_of c.args.doc)) (λ (t : History). latest_of (maker_by (declares_document c.args.doc) t.entries) t.actions) c.args.out.now.items c.hand_latest.new.out.items
    (part_newest c.args.page.now (is_step_of c.args.doc) c.last_parse.result c.args.out.now.items c.hand_latest.new.out.items c.last_parse.ensures c.in_err-hand_latest.ensures.part))

pub returns-clause-whole : goal.returns-clause-whole
returns-clause-whole c =
    on_ok_then c.hand_latest-2.result c.args.page.now (newest_in (is_step_of c.args.doc)) (λ (t : History). latest_of (maker_by (declares_document c.args.doc) t.entries) t.actions) c.args.out.now.items c.hand_latest.new.out.items c.hand_latest-2.new.out.items
    (grew_newest c.args.page.now (is_step_of c.args.doc) c.last_parse.result c.args.out.now.items c.hand_latest.new.out.items c.last_parse.ensures c.in_ok-hand_latest.ensures.whole)
    (on_ok_as c.hand_latest-2.result c.args.page.now (latest_in c.maker_of_document.result) (λ (t : History). latest_of (maker_by (declares_document c.args.doc) t.entries) t.actions) c.hand_latest.new.out.items c.hand_latest-2.new.out.items
    (look_up_is c.args.page.now (λ (t : History). maker_by (declares_document c.args.doc) t.entries) c.maker_of_document.result c.maker_of_document.ensures.maker) c.hand_latest-2.ensures.whole)

pub returns-clause-part : goal.returns-clause-part
returns-clause-part c =
    on_err_then c.hand_latest-2.result c.args.page.now (newest_in (is_step_of c.args.doc)) (λ (t : History). latest_of (maker_by (declares_document c.args.doc) t.entries) t.actions) c.args.out.now.items c.hand_latest.new.out.items c.hand_latest-2.new.out.items
    (grew_newest c.args.page.now (is_step_of c.args.doc) c.last_parse.result c.args.out.now.items c.hand_latest.new.out.items c.last_parse.ensures c.in_ok-hand_latest.ensures.whole)
    (on_err_as c.hand_latest-2.result c.args.page.now (latest_in c.maker_of_document.result) (λ (t : History). latest_of (maker_by (declares_document c.args.doc) t.entries) t.actions) c.hand_latest.new.out.items c.hand_latest-2.new.out.items
    (look_up_is c.args.page.now (λ (t : History). maker_by (declares_document c.args.doc) t.entries) c.maker_of_document.result c.maker_of_document.ensures.maker) c.hand_latest-2.ensures.part)
