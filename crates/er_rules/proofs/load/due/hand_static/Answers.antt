use Rattle.std.proofs.Common.{reverse}
use Rattle.er_history.specs.History.{History}
use Rattle.er_history.specs.Kinds.{closes, is_static_load_of}
use Rattle.er_pieces.specs.Contract.{latest_of_all}
use Rattle.er_pieces.proofs.LookUpLemmas.{slice_handed}
use Rattle.er_page.proofs.HandingLemmas.{slice_events, on_ok_as, on_err_as}
use Rattle.er_rules.specs.load.Loads.{static_part}
use Rattle.er_rules.proofs.load.due.hand_static.Goals as goal

pub hand_each-requires : goal.hand_each-requires
hand_each-requires c = record { events = slice_events c.args.page.now (closes (is_static_load_of c.args.doc)) c.static_closes.result.now c.requires.some c.static_closes.ensures }

pub returns-clause-whole : goal.returns-clause-whole
returns-clause-whole c = on_ok_as c.hand_each.result c.args.page.now (λ (t : History). latest_of_all (reverse c.static_closes.result.now) t.actions) (static_part c.args.doc) c.args.out.now.items c.hand_each.new.out.items (λ h stands. slice_handed h (closes (is_static_load_of c.args.doc)) c.static_closes.result.now (c.static_closes.ensures h stands)) c.hand_each.ensures.whole

pub returns-clause-part : goal.returns-clause-part
returns-clause-part c = on_err_as c.hand_each.result c.args.page.now (λ (t : History). latest_of_all (reverse c.static_closes.result.now) t.actions) (static_part c.args.doc) c.args.out.now.items c.hand_each.new.out.items (λ h stands. slice_handed h (closes (is_static_load_of c.args.doc)) c.static_closes.result.now (c.static_closes.ensures h stands)) c.hand_each.ensures.part
