use Rattle.std.proofs.Common.{◌++◌}
use Rattle.er_history.specs.History.{told, declares_interval}
use Rattle.er_history.specs.Latest.{newest, latest_of}
use Rattle.er_history.specs.Kinds.{is_tick_of}
use Rattle.er_page.specs.Page.{IsPage}
use Rattle.er_page.proofs.HandingLemmas.{newest_events, made_events}
use Rattle.er_pieces.proofs.SequenceLemmas.{whole_then, part_then, part_first}
use Rattle.er_path_rules.specs.timer.Fired.{tick_handed}
use Rattle.er_path_rules.proofs.timer.TimersLemmas.{tick_is_due}
use Rattle.er_path_rules.proofs.timer.predecessors.hand_for_tick.Goals as goal

pub hand_latest-requires : goal.hand_latest-requires
hand_latest-requires c = record { events = made_events c.args.page.now (declares_interval c.args.interval) c.maker_of_interval.result c.requires.some c.maker_of_interval.ensures }

pub hand_latest-requires-2 : goal.hand_latest-requires-2
hand_latest-requires-2 c = record { events = newest_events c.args.page.now (is_tick_of c.args.interval) c.last_tick.result c.requires.some c.last_tick.ensures }

pub returns-in_err-hand_latest-clause-part : goal.returns-in_err-hand_latest-clause-part
returns-in_err-hand_latest-clause-part c = part_first (IsPage c.args.page.now) (λ h. latest_of c.maker_of_interval.result (told h).actions) (λ h. newest (is_tick_of c.args.interval) (told h).actions) (λ h. tick_handed h c.args.interval)
    c.args.out.now.items c.hand_latest.new.out.items c.from_residual.result
    (λ h is i. latest_of (c.maker_of_interval.ensures h is i) (told h).actions ++ newest (is_tick_of c.args.interval) (told h).actions) c.in_err-hand_latest.ensures.part

pub returns-clause-whole : goal.returns-clause-whole
returns-clause-whole c = whole_then (IsPage c.args.page.now) (λ h. latest_of c.maker_of_interval.result (told h).actions) (λ h. latest_of c.last_tick.result (told h).actions) (λ h. tick_handed h c.args.interval)
    c.args.out.now.items c.hand_latest.new.out.items c.hand_latest-2.new.out.items c.hand_latest-2.result
    (λ h is. tick_is_due h c.args.interval c.maker_of_interval.result c.last_tick.result (c.maker_of_interval.ensures h is) (c.last_tick.ensures h is))
    c.in_ok-hand_latest.ensures.whole c.hand_latest-2.ensures.whole

pub returns-clause-part : goal.returns-clause-part
returns-clause-part c = part_then (IsPage c.args.page.now) (λ h. latest_of c.maker_of_interval.result (told h).actions) (λ h. latest_of c.last_tick.result (told h).actions) (λ h. tick_handed h c.args.interval)
    c.args.out.now.items c.hand_latest.new.out.items c.hand_latest-2.new.out.items c.hand_latest-2.result
    (λ h is. tick_is_due h c.args.interval c.maker_of_interval.result c.last_tick.result (c.maker_of_interval.ensures h is) (c.last_tick.ensures h is))
    c.in_ok-hand_latest.ensures.whole c.hand_latest-2.ensures.part
