use Rattle.er_history.specs.History.{told}
use Rattle.er_history.specs.Latest.{latest_of}
use Rattle.er_history.specs.LookUps.{maker_of_document}
use Rattle.er_page.specs.Page.{IsPage}
use Rattle.er_page.proofs.HandingLemmas.{made_events}
use Rattle.er_history.specs.History.{declares_document}
use Rattle.er_pieces.proofs.SequenceLemmas.{whole_of, part_of}
use Rattle.er_rules.proofs.dispatch.targets.hand_document.Goals as goal

pub hand_latest-requires : goal.hand_latest-requires
hand_latest-requires c = record { events = made_events c.args.page.now (declares_document c.args.doc) c.maker_of_document.result c.requires.some c.maker_of_document.ensures.maker }

pub returns-clause-whole : goal.returns-clause-whole
returns-clause-whole c = whole_of (IsPage c.args.page.now) (λ h. latest_of c.maker_of_document.result (told h).actions) (λ h. latest_of (maker_of_document h c.args.doc) (told h).actions) c.args.out.now.items c.hand_latest.new.out.items c.hand_latest.result
    (λ h is i. latest_of (c.maker_of_document.ensures.maker h is i) (told h).actions) c.hand_latest.ensures.whole

pub returns-clause-part : goal.returns-clause-part
returns-clause-part c = part_of (IsPage c.args.page.now) (λ h. latest_of c.maker_of_document.result (told h).actions) (λ h. latest_of (maker_of_document h c.args.doc) (told h).actions) c.args.out.now.items c.hand_latest.new.out.items c.hand_latest.result
    (λ h is i. latest_of (c.maker_of_document.ensures.maker h is i) (told h).actions) c.hand_latest.ensures.part
