use Rattle.std.proofs.Common.{sym, ap, ◌∙◌}
use Rattle.er_history.specs.History.{History, told}
use Rattle.er_pieces.specs.HandedPieces.{load_handed}
use Rattle.er_page.proofs.HandingLemmas.{on_ok_as, on_err_as}
use Rattle.er_rules.specs.load.Loads.{window_parts, eload_parts}
use Rattle.er_rules.proofs.load.DueLemmas.{eload_parts_are}
use Rattle.er_rules.proofs.load.due.hand_due.Goals as goal

pub returns-in-Load-clause-whole : goal.returns-in-Load-clause-whole
returns-in-Load-clause-whole c = on_ok_as c.hand_before_load.result c.args.page.now (window_parts c.in-Load.doc) (λ (t : History). load_handed t c.args.rec.now) c.args.out.now.items c.hand_before_load.new.out.items (λ h stands. ap (load_handed (told h)) (sym c.in-Load.is)) c.hand_before_load.ensures.whole

pub returns-in-Load-clause-part : goal.returns-in-Load-clause-part
returns-in-Load-clause-part c = on_err_as c.hand_before_load.result c.args.page.now (window_parts c.in-Load.doc) (λ (t : History). load_handed t c.args.rec.now) c.args.out.now.items c.hand_before_load.new.out.items (λ h stands. ap (load_handed (told h)) (sym c.in-Load.is)) c.hand_before_load.ensures.part

pub returns-in-Eload-clause-whole : goal.returns-in-Eload-clause-whole
returns-in-Eload-clause-whole c = on_ok_as c.hand_before_eload.result c.args.page.now (eload_parts c.in-Eload.element) (λ (t : History). load_handed t c.args.rec.now) c.args.out.now.items c.hand_before_eload.new.out.items (λ h stands. eload_parts_are (told h) c.in-Eload.element ∙ ap (load_handed (told h)) (sym c.in-Eload.is)) c.hand_before_eload.ensures.whole

pub returns-in-Eload-clause-part : goal.returns-in-Eload-clause-part
returns-in-Eload-clause-part c = on_err_as c.hand_before_eload.result c.args.page.now (eload_parts c.in-Eload.element) (λ (t : History). load_handed t c.args.rec.now) c.args.out.now.items c.hand_before_eload.new.out.items (λ h stands. eload_parts_are (told h) c.in-Eload.element ∙ ap (load_handed (told h)) (sym c.in-Eload.is)) c.hand_before_eload.ensures.part
