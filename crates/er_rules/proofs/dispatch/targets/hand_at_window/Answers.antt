use Rattle.std.proofs.Common.{refl}
use Rattle.er_history.specs.History.{told}
use Rattle.er_history.specs.Latest.{latest_of}
use Rattle.er_history.specs.LookUps.{maker_of_document}
use Rattle.er_page.specs.Page.{IsPage}
use Rattle.er_pieces.specs.Contract.{listed}
use Rattle.er_pieces.proofs.SequenceLemmas.{whole_then, part_then, part_first}
use Rattle.er_rules.specs.dispatch.Due.{closed_in, at_window}
use Rattle.er_rules.proofs.dispatch.DueLemmas.{window_is_due, each_whole, each_part}
use Rattle.er_rules.proofs.dispatch.targets.hand_at_window.Goals as goal

pub returns-in_err-hand_document-clause-part : goal.returns-in_err-hand_document-clause-part
returns-in_err-hand_document-clause-part c = part_first (IsPage c.args.page.now) (λ h. latest_of (maker_of_document h c.args.doc) (told h).actions) (λ h. closed_in h c.args.doc c.args.name.now) (λ h. at_window h c.args.doc c.args.name.now) c.args.out.now.items c.hand_document.new.out.items c.from_residual.result
    (λ h is. refl) c.in_err-hand_document.ensures.part

pub returns-clause-whole : goal.returns-clause-whole
returns-clause-whole c = whole_then (IsPage c.args.page.now) (λ h. latest_of (maker_of_document h c.args.doc) (told h).actions) (λ h. listed c.last_window_close.result) (λ h. at_window h c.args.doc c.args.name.now) c.args.out.now.items c.hand_document.new.out.items c.hand_some.new.out.items c.hand_some.result
    (λ h is. window_is_due h c.args.doc c.args.name.now c.last_window_close.result (c.last_window_close.ensures h is)) c.in_ok-hand_document.ensures.whole (each_whole (IsPage c.args.page.now) (listed c.last_window_close.result) c.hand_document.new.out.items c.hand_some.new.out.items c.hand_some.result c.hand_some.ensures.whole)

pub returns-clause-part : goal.returns-clause-part
returns-clause-part c = part_then (IsPage c.args.page.now) (λ h. latest_of (maker_of_document h c.args.doc) (told h).actions) (λ h. listed c.last_window_close.result) (λ h. at_window h c.args.doc c.args.name.now) c.args.out.now.items c.hand_document.new.out.items c.hand_some.new.out.items c.hand_some.result
    (λ h is. window_is_due h c.args.doc c.args.name.now c.last_window_close.result (c.last_window_close.ensures h is)) c.in_ok-hand_document.ensures.whole (each_part (IsPage c.args.page.now) (listed c.last_window_close.result) c.hand_document.new.out.items c.hand_some.new.out.items c.hand_some.result c.hand_some.ensures.part)
