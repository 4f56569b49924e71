use Rattle.std.proofs.Common.{◌++◌}
use Rattle.std.specs.Prelude.{nat_lt}
use Rattle.er_history.specs.History.{told}
use Rattle.er_history.specs.Latest.{latest_of}
use Rattle.er_page.specs.Page.{IsPage}
use Rattle.er_page.proofs.HandingLemmas.{made_events}
use Rattle.er_history.specs.History.{declares_handler}
use Rattle.er_pieces.specs.HandedPieces.{runs_or_begin, group_handed}
use Rattle.er_pieces.proofs.SequenceLemmas.{whole_then, part_then, part_first}
use Rattle.er_rules.specs.dispatch.Due.{before_run}
use Rattle.er_rules.proofs.dispatch.DueLemmas.{run_is_due}
use Rattle.er_rules.proofs.dispatch.groups.hand_for_run.Goals as goal

pub hand_latest-requires : goal.hand_latest-requires
hand_latest-requires c = record { events = made_events c.args.page.now (declares_handler c.args.handler) c.maker_of_handler.result c.requires.some c.maker_of_handler.ensures }

pub returns-in_err-hand_latest-clause-part : goal.returns-in_err-hand_latest-clause-part
returns-in_err-hand_latest-clause-part c = part_first (IsPage c.args.page.now) (λ h. latest_of c.maker_of_handler.result (told h).actions) (λ h. group_handed c.args.dispatch (λ k. nat_lt k c.args.group) (told h).actions) (λ h. before_run h c.args.dispatch c.args.group c.args.handler) c.args.out.now.items c.hand_latest.new.out.items c.from_residual.result
    (λ h is i. latest_of (c.maker_of_handler.ensures h is i) (told h).actions ++ group_handed c.args.dispatch (λ k. nat_lt k c.args.group) (told h).actions) c.in_err-hand_latest.ensures.part

pub returns-clause-whole : goal.returns-clause-whole
returns-clause-whole c = whole_then (IsPage c.args.page.now) (λ h. latest_of c.maker_of_handler.result (told h).actions) (λ h. runs_or_begin c.args.dispatch (told h).actions c.group_below.result) (λ h. before_run h c.args.dispatch c.args.group c.args.handler) c.args.out.now.items c.hand_latest.new.out.items c.hand_group.new.out.items c.hand_group.result
    (λ h is. run_is_due h c.args.dispatch c.args.group c.args.handler c.maker_of_handler.result c.group_below.result (c.maker_of_handler.ensures h is) (c.group_below.ensures h is)) c.in_ok-hand_latest.ensures.whole c.hand_group.ensures.whole

pub returns-clause-part : goal.returns-clause-part
returns-clause-part c = part_then (IsPage c.args.page.now) (λ h. latest_of c.maker_of_handler.result (told h).actions) (λ h. runs_or_begin c.args.dispatch (told h).actions c.group_below.result) (λ h. before_run h c.args.dispatch c.args.group c.args.handler) c.args.out.now.items c.hand_latest.new.out.items c.hand_group.new.out.items c.hand_group.result
    (λ h is. run_is_due h c.args.dispatch c.args.group c.args.handler c.maker_of_handler.result c.group_below.result (c.maker_of_handler.ensures h is) (c.group_below.ensures h is)) c.in_ok-hand_latest.ensures.whole c.hand_group.ensures.part
