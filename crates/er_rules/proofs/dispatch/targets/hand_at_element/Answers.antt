use Rattle.std.proofs.Common.{◌++◌}
use Rattle.er_history.specs.History.{told}
use Rattle.er_history.specs.Latest.{latest_of}
use Rattle.er_page.specs.Page.{IsPage}
use Rattle.er_page.proofs.HandingLemmas.{element_events}
use Rattle.er_pieces.specs.Contract.{listed}
use Rattle.er_pieces.proofs.SequenceLemmas.{whole_then, part_then, part_first}
use Rattle.er_rules.specs.dispatch.Due.{closed_at, at_element}
use Rattle.er_rules.proofs.dispatch.DueLemmas.{element_is_due, each_whole, each_part}
use Rattle.er_rules.proofs.dispatch.targets.hand_at_element.Goals as goal

pub hand_latest-requires : goal.hand_latest-requires
hand_latest-requires c = record { events = element_events c.args.page.now c.args.element c.maker_of_element.result c.requires.some c.maker_of_element.ensures }

pub returns-in_err-hand_latest-clause-part : goal.returns-in_err-hand_latest-clause-part
returns-in_err-hand_latest-clause-part c = part_first (IsPage c.args.page.now) (λ h. latest_of c.maker_of_element.result (told h).actions) (λ h. closed_at h c.args.element c.args.name.now) (λ h. at_element h c.args.element c.args.name.now) c.args.out.now.items c.hand_latest.new.out.items c.from_residual.result
    (λ h is i. latest_of (c.maker_of_element.ensures h is i) (told h).actions ++ closed_at h c.args.element c.args.name.now) c.in_err-hand_latest.ensures.part

pub returns-clause-whole : goal.returns-clause-whole
returns-clause-whole c = whole_then (IsPage c.args.page.now) (λ h. latest_of c.maker_of_element.result (told h).actions) (λ h. listed c.last_element_close.result) (λ h. at_element h c.args.element c.args.name.now) c.args.out.now.items c.hand_latest.new.out.items c.hand_some.new.out.items c.hand_some.result
    (λ h is. element_is_due h c.args.element c.args.name.now c.maker_of_element.result c.last_element_close.result (c.maker_of_element.ensures h is) (c.last_element_close.ensures h is)) c.in_ok-hand_latest.ensures.whole (each_whole (IsPage c.args.page.now) (listed c.last_element_close.result) c.hand_latest.new.out.items c.hand_some.new.out.items c.hand_some.result c.hand_some.ensures.whole)

pub returns-clause-part : goal.returns-clause-part
returns-clause-part c = part_then (IsPage c.args.page.now) (λ h. latest_of c.maker_of_element.result (told h).actions) (λ h. listed c.last_element_close.result) (λ h. at_element h c.args.element c.args.name.now) c.args.out.now.items c.hand_latest.new.out.items c.hand_some.new.out.items c.hand_some.result
    (λ h is. element_is_due h c.args.element c.args.name.now c.maker_of_element.result c.last_element_close.result (c.maker_of_element.ensures h is) (c.last_element_close.ensures h is)) c.in_ok-hand_latest.ensures.whole (each_part (IsPage c.args.page.now) (listed c.last_element_close.result) c.hand_latest.new.out.items c.hand_some.new.out.items c.hand_some.result c.hand_some.ensures.part)
