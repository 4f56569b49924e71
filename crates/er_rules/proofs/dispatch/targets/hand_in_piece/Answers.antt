use Rattle.std.proofs.Common.{refl}
use Rattle.er_history.specs.History.{told, running}
use Rattle.er_history.specs.Latest.{number_of}
use Rattle.er_page.specs.Page.{IsPage}
use Rattle.er_pieces.specs.Contract.{listed}
use Rattle.er_pieces.proofs.SequenceLemmas.{whole_then, part_then, part_first}
use Rattle.er_rules.specs.dispatch.Due.{at_element, in_piece}
use Rattle.er_rules.proofs.dispatch.DueLemmas.{piece_is_due, each_whole, each_part}
use Rattle.er_rules.proofs.dispatch.targets.hand_in_piece.Goals as goal

pub returns-in_err-hand_at_element-clause-part : goal.returns-in_err-hand_at_element-clause-part
returns-in_err-hand_at_element-clause-part c = part_first (IsPage c.args.page.now) (λ h. at_element h c.args.element c.args.name.now) (λ h. number_of (running (told h).actions)) (λ h. in_piece h c.args.element c.args.name.now) c.args.out.now.items c.hand_at_element.new.out.items c.from_residual.result
    (λ h is. refl) c.in_err-hand_at_element.ensures.part

pub returns-clause-whole : goal.returns-clause-whole
returns-clause-whole c = whole_then (IsPage c.args.page.now) (λ h. at_element h c.args.element c.args.name.now) (λ h. listed c.running.result) (λ h. in_piece h c.args.element c.args.name.now) c.args.out.now.items c.hand_at_element.new.out.items c.hand_some.new.out.items c.hand_some.result
    (λ h is. piece_is_due h c.args.element c.args.name.now c.running.result (c.running.ensures h is)) c.in_ok-hand_at_element.ensures.whole (each_whole (IsPage c.args.page.now) (listed c.running.result) c.hand_at_element.new.out.items c.hand_some.new.out.items c.hand_some.result c.hand_some.ensures.whole)

pub returns-clause-part : goal.returns-clause-part
returns-clause-part c = part_then (IsPage c.args.page.now) (λ h. at_element h c.args.element c.args.name.now) (λ h. listed c.running.result) (λ h. in_piece h c.args.element c.args.name.now) c.args.out.now.items c.hand_at_element.new.out.items c.hand_some.new.out.items c.hand_some.result
    (λ h is. piece_is_due h c.args.element c.args.name.now c.running.result (c.running.ensures h is)) c.in_ok-hand_at_element.ensures.whole (each_part (IsPage c.args.page.now) (listed c.running.result) c.hand_at_element.new.out.items c.hand_some.new.out.items c.hand_some.result c.hand_some.ensures.part)
