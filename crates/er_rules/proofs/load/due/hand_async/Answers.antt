use Rattle.std.proofs.Common.{reverse}
use Rattle.er_history.specs.History.{History}
use Rattle.er_history.specs.Kinds.{is_run_of, is_static_async}
use Rattle.er_pieces.specs.Contract.{latest_of_all}
use Rattle.er_pieces.proofs.LookUpLemmas.{slice_handed}
use Rattle.er_page.proofs.HandingLemmas.{slice_events, on_ok_as, on_err_as}
use Rattle.er_rules.specs.load.Loads.{async_part}
use Rattle.er_rules.proofs.load.due.hand_async.Goals as goal

pub hand_each-requires : goal.hand_each-requires
hand_each-requires c = record { events = slice_events c.args.page.now (is_run_of is_static_async c.args.doc) c.async_runs.result.now c.requires.some c.async_runs.ensures }

pub returns-clause-whole : goal.returns-clause-whole
returns-clause-whole c = on_ok_as c.hand_each.result c.args.page.now (λ (t : History). latest_of_all (reverse c.async_runs.result.now) t.actions) (async_part c.args.doc) c.args.out.now.items c.hand_each.new.out.items (λ h stands. slice_handed h (is_run_of is_static_async c.args.doc) c.async_runs.result.now (c.async_runs.ensures h stands)) c.hand_each.ensures.whole

pub returns-clause-part : goal.returns-clause-part
returns-clause-part c = on_err_as c.hand_each.result c.args.page.now (λ (t : History). latest_of_all (reverse c.async_runs.result.now) t.actions) (async_part c.args.doc) c.args.out.now.items c.hand_each.new.out.items (λ h stands. slice_handed h (is_run_of is_static_async c.args.doc) c.async_runs.result.now (c.async_runs.ensures h stands)) c.hand_each.ensures.part
