use Rattle.std.specs.Prelude.{reverse}
use Rattle.er_history.specs.History.{told}
use Rattle.er_history.specs.Latest.{latest_of}
use Rattle.er_page.specs.Page.{IsPage}
use Rattle.er_page.proofs.HandingLemmas.{made_events, slice_events, named_list}
use Rattle.er_history.specs.Naming.{begins_dispatch}
use Rattle.er_history.specs.Kinds.{is_handler_of}
use Rattle.std.specs.Prelude.{◌==◌}
use Rattle.er_pieces.specs.Contract.{latest_of_all}
use Rattle.er_pieces.specs.HandedPieces.{runs_or_begin}
use Rattle.er_pieces.proofs.SequenceLemmas.{whole_of, part_of}
use Rattle.er_rules.proofs.dispatch.DueLemmas.{group_is_due, begin_is_due}
use Rattle.er_rules.proofs.dispatch.groups.hand_group.Goals as goal

pub hand_each-requires : goal.hand_each-requires
hand_each-requires c = record { events = slice_events c.args.page.now (is_handler_of c.args.dispatch (λ k. k == c.in-Some.group)) c.runs_in.result.now c.requires.some c.runs_in.ensures }

pub hand_latest-requires : goal.hand_latest-requires
hand_latest-requires c = record { events = made_events c.args.page.now (begins_dispatch c.args.dispatch) c.begin_event.result c.requires.some c.begin_event.ensures }

pub returns-in-Some-clause-whole : goal.returns-in-Some-clause-whole
returns-in-Some-clause-whole c = whole_of (IsPage c.args.page.now) (λ h. latest_of_all (reverse c.runs_in.result.now) (told h).actions) (λ h. runs_or_begin c.args.dispatch (told h).actions c.args.group) c.args.out.now.items c.hand_each.new.out.items c.hand_each.result
    (λ h is. group_is_due h c.args.dispatch c.in-Some.group c.runs_in.result.now c.args.group c.in-Some.is (c.runs_in.ensures h is)) c.hand_each.ensures.whole

pub returns-in-Some-clause-part : goal.returns-in-Some-clause-part
returns-in-Some-clause-part c = part_of (IsPage c.args.page.now) (λ h. latest_of_all (reverse c.runs_in.result.now) (told h).actions) (λ h. runs_or_begin c.args.dispatch (told h).actions c.args.group) c.args.out.now.items c.hand_each.new.out.items c.hand_each.result
    (λ h is. group_is_due h c.args.dispatch c.in-Some.group c.runs_in.result.now c.args.group c.in-Some.is (c.runs_in.ensures h is)) c.hand_each.ensures.part

pub returns-in-None-clause-whole : goal.returns-in-None-clause-whole
returns-in-None-clause-whole c = whole_of (IsPage c.args.page.now) (λ h. latest_of c.begin_event.result (told h).actions) (λ h. runs_or_begin c.args.dispatch (told h).actions c.args.group) c.args.out.now.items c.hand_latest.new.out.items c.hand_latest.result
    (λ h is. begin_is_due h c.args.dispatch c.begin_event.result c.args.group (named_list h is.accepted) c.in-None.is (c.begin_event.ensures h is)) c.hand_latest.ensures.whole

pub returns-in-None-clause-part : goal.returns-in-None-clause-part
returns-in-None-clause-part c = part_of (IsPage c.args.page.now) (λ h. latest_of c.begin_event.result (told h).actions) (λ h. runs_or_begin c.args.dispatch (told h).actions c.args.group) c.args.out.now.items c.hand_latest.new.out.items c.hand_latest.result
    (λ h is. begin_is_due h c.args.dispatch c.begin_event.result c.args.group (named_list h is.accepted) c.in-None.is (c.begin_event.ensures h is)) c.hand_latest.ensures.part
