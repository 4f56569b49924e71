use Rattle.std.proofs.Common.{◌++◌, reverse, Some}
use Rattle.std.specs.Prelude.{map}
use Rattle.er_history.specs.History.{told}
use Rattle.er_history.specs.Latest.{latest_of_event}
use Rattle.er_claims.specs.Fired.{number_of, sets}
use Rattle.er_page.proofs.HandingLemmas.{named_list}
use Rattle.er_path_rules.specs.timer.Fired.{handed_for_each, fired_handed}
use Rattle.er_path_rules.proofs.timer.GrownLemmas.{grew_all, grew_front, enough_then, some_then, some_at_first}
use Rattle.er_path_rules.proofs.timer.TimersLemmas.{latest_stand}
use Rattle.er_path_rules.proofs.timer.WalkLemmas.{are_joined}
use Rattle.er_path_rules.proofs.timer.predecessors.hand_set_by.Goals as goal

pub hand_latest-requires : goal.hand_latest-requires
hand_latest-requires c = record { events = c.requires.events }

pub hand_fired-requires : goal.hand_fired-requires
hand_fired-requires c = record {
  page = c.requires.some;
  next = c.requires.next;
  fired = c.fired_before-fired.ensures.fired;
  joined = λ h timed. are_joined c.args.version c.args.page.now.claimed h c.args.next.maker c.fired_before-fired.result.now (named_list h timed.page.accepted) (c.fired_before-fired.ensures.numbers h timed.page);
}

pub returns-in_err-hand_latest-clause-part : goal.returns-in_err-hand_latest-clause-part
returns-in_err-hand_latest-clause-part c = some_at_first c.args.version c.args.page.now c.args.clocks.now (λ h. latest_of_event c.args.next.maker (told h).actions) (λ h. fired_handed c.args.version h c.args.next.timeout c.args.next.maker)
    (λ h. latest_of_event c.args.next.maker (told h).actions ++ fired_handed c.args.version h c.args.next.timeout c.args.next.maker)
    c.from_residual.result c.args.out.now.items c.hand_latest.new.out.items (λ h timed i. latest_of_event c.args.next.maker (told h).actions ++ fired_handed c.args.version h c.args.next.timeout c.args.next.maker)
    (λ h timed. grew_front (latest_of_event c.args.next.maker (told h).actions) c.args.out.now.items c.hand_latest.new.out.items (c.in_err-hand_latest.ensures.part h timed.page))

pub returns-clause-whole : goal.returns-clause-whole
returns-clause-whole c = enough_then c.args.version c.args.page.now c.args.clocks.now (λ h. latest_of_event c.args.next.maker (told h).actions)
    (λ h. handed_for_each c.args.version h c.args.next.timeout (reverse (map number_of (sets c.fired_before-fired.result.now))))
    (λ h. latest_of_event c.args.next.maker (told h).actions ++ fired_handed c.args.version h c.args.next.timeout c.args.next.maker)
    c.hand_fired.result c.args.out.now.items c.hand_latest.new.out.items c.hand_fired.new.out.items
    (λ h timed i. latest_of_event c.args.next.maker (told h).actions ++ handed_for_each c.args.version h c.args.next.timeout (reverse (c.fired_before-fired.ensures.numbers h timed.page i)))
    (λ h timed. grew_all _ (latest_of_event c.args.next.maker (told h).actions) c.args.out.now.items c.hand_latest.new.out.items (latest_stand c.args.version h (Some c.args.next.maker)) (c.in_ok-hand_latest.ensures.whole h timed.page))
    c.hand_fired.ensures.whole

pub returns-clause-part : goal.returns-clause-part
returns-clause-part c = some_then c.args.version c.args.page.now c.args.clocks.now (λ h. latest_of_event c.args.next.maker (told h).actions)
    (λ h. handed_for_each c.args.version h c.args.next.timeout (reverse (map number_of (sets c.fired_before-fired.result.now))))
    (λ h. latest_of_event c.args.next.maker (told h).actions ++ fired_handed c.args.version h c.args.next.timeout c.args.next.maker)
    c.hand_fired.result c.args.out.now.items c.hand_latest.new.out.items c.hand_fired.new.out.items
    (λ h timed i. latest_of_event c.args.next.maker (told h).actions ++ handed_for_each c.args.version h c.args.next.timeout (reverse (c.fired_before-fired.ensures.numbers h timed.page i)))
    (λ h timed. grew_all _ (latest_of_event c.args.next.maker (told h).actions) c.args.out.now.items c.hand_latest.new.out.items (latest_stand c.args.version h (Some c.args.next.maker)) (c.in_ok-hand_latest.ensures.whole h timed.page))
    c.hand_fired.ensures.part
