use Rattle.std.proofs.Common.{◌++◌}
use Rattle.er_history.specs.History.{told, declares_request}
use Rattle.er_history.specs.Latest.{newest, latest_of}
use Rattle.er_history.specs.Kinds.{closes, is_reply_of}
use Rattle.er_page.specs.Page.{IsPage}
use Rattle.er_page.proofs.HandingLemmas.{newest_events, made_events}
use Rattle.er_pieces.proofs.SequenceLemmas.{whole_then, part_then, part_first}
use Rattle.er_rules.specs.request.Replies.{reply_handed}
use Rattle.er_rules.proofs.request.RepliesLemmas.{both_are_due}
use Rattle.er_rules.proofs.request.predecessors.hand_for_reply.Goals as goal

pub hand_latest-requires : goal.hand_latest-requires
hand_latest-requires c = record { events = made_events c.args.page.now (declares_request c.args.request) c.maker_of_request.result c.requires.some c.maker_of_request.ensures }

pub hand_latest-requires-2 : goal.hand_latest-requires-2
hand_latest-requires-2 c = record { events = newest_events c.args.page.now (closes (is_reply_of c.args.request)) c.last_reply_close.result c.requires.some c.last_reply_close.ensures }

pub returns-in_err-hand_latest-clause-part : goal.returns-in_err-hand_latest-clause-part
returns-in_err-hand_latest-clause-part c = part_first (IsPage c.args.page.now) (λ h. latest_of c.maker_of_request.result (told h).actions) (λ h. newest (closes (is_reply_of c.args.request)) (told h).actions) (λ h. reply_handed (told h) c.args.request)
    c.args.out.now.items c.hand_latest.new.out.items c.from_residual.result
    (λ h is i. latest_of (c.maker_of_request.ensures h is i) (told h).actions ++ newest (closes (is_reply_of c.args.request)) (told h).actions) c.in_err-hand_latest.ensures.part

pub returns-clause-whole : goal.returns-clause-whole
returns-clause-whole c = whole_then (IsPage c.args.page.now) (λ h. latest_of c.maker_of_request.result (told h).actions) (λ h. latest_of c.last_reply_close.result (told h).actions) (λ h. reply_handed (told h) c.args.request)
    c.args.out.now.items c.hand_latest.new.out.items c.hand_latest-2.new.out.items c.hand_latest-2.result
    (λ h is. both_are_due h c.args.request c.maker_of_request.result c.last_reply_close.result (c.maker_of_request.ensures h is) (c.last_reply_close.ensures h is))
    c.in_ok-hand_latest.ensures.whole c.hand_latest-2.ensures.whole

pub returns-clause-part : goal.returns-clause-part
returns-clause-part c = part_then (IsPage c.args.page.now) (λ h. latest_of c.maker_of_request.result (told h).actions) (λ h. latest_of c.last_reply_close.result (told h).actions) (λ h. reply_handed (told h) c.args.request)
    c.args.out.now.items c.hand_latest.new.out.items c.hand_latest-2.new.out.items c.hand_latest-2.result
    (λ h is. both_are_due h c.args.request c.maker_of_request.result c.last_reply_close.result (c.maker_of_request.ensures h is) (c.last_reply_close.ensures h is))
    c.in_ok-hand_latest.ensures.whole c.hand_latest-2.ensures.part
