use Rattle.std.proofs.Common.{◌++◌}
use Rattle.er_trace.proofs.ResultLaws.{on_err}
use Rattle.er_history.specs.History.{History, told, element_maker, first_to, makes_element}
use Rattle.er_history.specs.Latest.{latest_of}
use Rattle.er_pieces.specs.HandedPieces.{run_handed}
use Rattle.er_page.proofs.HandingLemmas.{latest_in, element_events, look_up_is, grew_as, part_as, part_first, on_ok_as, on_err_as, on_ok_then, on_err_then}
use Rattle.er_rules.specs.script.Scripts.{before_deferred}
use Rattle.er_rules.proofs.script.DueLemmas.{run_parts}
use Rattle.er_rules.proofs.script.due.hand_before_run.Goals as goal

pub hand_latest-requires : goal.hand_latest-requires
hand_latest-requires c = record { events = element_events c.args.page.now c.args.element c.maker_of_element.result c.requires.some c.maker_of_element.ensures }

pub returns-in_err-hand_latest-clause-part : goal.returns-in_err-hand_latest-clause-part
returns-in_err-hand_latest-clause-part c = on_err c.from_residual.result _
    (part_as c.args.page.now (λ (t : History). latest_of (element_maker t.entries c.args.element) t.actions ++ before_deferred t (first_to (makes_element c.args.element) t.entries)) (λ (t : History). run_handed t (first_to (makes_element c.args.element) t.entries)) c.args.out.now.items c.hand_latest.new.out.items (λ h stands. run_parts (told h) c.args.element)
    (part_first c.args.page.now (λ (t : History). latest_of (element_maker t.entries c.args.element) t.actions) (λ (t : History). before_deferred t (first_to (makes_element c.args.element) t.entries)) c.args.out.now.items c.hand_latest.new.out.items
    (part_as c.args.page.now (latest_in c.maker_of_element.result) (λ (t : History). latest_of (element_maker t.entries c.args.element) t.actions) c.args.out.now.items c.hand_latest.new.out.items (look_up_is c.args.page.now (λ (t : History). element_maker t.entries c.args.element) c.maker_of_element.result c.maker_of_element.ensures) c.in_err-hand_latest.ensures.part)))

pub returns-clause-whole : goal.returns-clause-whole
returns-clause-whole c =
    on_ok_as c.hand_before_deferred.result c.args.page.now (λ (t : History). latest_of (element_maker t.entries c.args.element) t.actions ++ before_deferred t (first_to (makes_element c.args.element) t.entries)) (λ (t : History). run_handed t (first_to (makes_element c.args.element) t.entries)) c.args.out.now.items c.hand_before_deferred.new.out.items (λ h stands. run_parts (told h) c.args.element)
    (on_ok_then c.hand_before_deferred.result c.args.page.now (λ (t : History). latest_of (element_maker t.entries c.args.element) t.actions) (λ (t : History). before_deferred t (first_to (makes_element c.args.element) t.entries)) c.args.out.now.items c.hand_latest.new.out.items c.hand_before_deferred.new.out.items
    (grew_as c.args.page.now (latest_in c.maker_of_element.result) (λ (t : History). latest_of (element_maker t.entries c.args.element) t.actions) c.args.out.now.items c.hand_latest.new.out.items (look_up_is c.args.page.now (λ (t : History). element_maker t.entries c.args.element) c.maker_of_element.result c.maker_of_element.ensures) c.in_ok-hand_latest.ensures.whole) c.hand_before_deferred.ensures.whole)

pub returns-clause-part : goal.returns-clause-part
returns-clause-part c =
    on_err_as c.hand_before_deferred.result c.args.page.now (λ (t : History). latest_of (element_maker t.entries c.args.element) t.actions ++ before_deferred t (first_to (makes_element c.args.element) t.entries)) (λ (t : History). run_handed t (first_to (makes_element c.args.element) t.entries)) c.args.out.now.items c.hand_before_deferred.new.out.items (λ h stands. run_parts (told h) c.args.element)
    (on_err_then c.hand_before_deferred.result c.args.page.now (λ (t : History). latest_of (element_maker t.entries c.args.element) t.actions) (λ (t : History). before_deferred t (first_to (makes_element c.args.element) t.entries)) c.args.out.now.items c.hand_latest.new.out.items c.hand_before_deferred.new.out.items
    (grew_as c.args.page.now (latest_in c.maker_of_element.result) (λ (t : History). latest_of (element_maker t.entries c.args.element) t.actions) c.args.out.now.items c.hand_latest.new.out.items (look_up_is c.args.page.now (λ (t : History). element_maker t.entries c.args.element) c.maker_of_element.result c.maker_of_element.ensures) c.in_ok-hand_latest.ensures.whole) c.hand_before_deferred.ensures.part)
