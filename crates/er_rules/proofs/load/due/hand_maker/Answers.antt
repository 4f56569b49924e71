use Rattle.er_history.specs.History.{History}
use Rattle.er_history.specs.History.{element_maker}
use Rattle.er_page.proofs.HandingLemmas.{latest_in, look_up_is, element_events, on_ok_as, on_err_as}
use Rattle.er_rules.specs.load.Loads.{maker_part}
use Rattle.er_rules.proofs.load.due.hand_maker.Goals as goal

pub hand_latest-requires : goal.hand_latest-requires
hand_latest-requires c = record { events = element_events c.args.page.now c.args.element c.maker_of_element.result c.requires.some c.maker_of_element.ensures }

pub returns-clause-whole : goal.returns-clause-whole
returns-clause-whole c = on_ok_as c.hand_latest.result c.args.page.now (latest_in c.maker_of_element.result) (maker_part c.args.element) c.args.out.now.items c.hand_latest.new.out.items (look_up_is c.args.page.now (λ (t : History). element_maker t.entries c.args.element) c.maker_of_element.result c.maker_of_element.ensures) c.hand_latest.ensures.whole

pub returns-clause-part : goal.returns-clause-part
returns-clause-part c = on_err_as c.hand_latest.result c.args.page.now (latest_in c.maker_of_element.result) (maker_part c.args.element) c.args.out.now.items c.hand_latest.new.out.items (look_up_is c.args.page.now (λ (t : History). element_maker t.entries c.args.element) c.maker_of_element.result c.maker_of_element.ensures) c.hand_latest.ensures.part
