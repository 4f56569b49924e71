use Rattle.std.proofs.Common.{◌-◌, ◌<◌, arith, length}
use Rattle.std.proofs.lemmas.Result.{IfOk-weaker}
use Rattle.er_races.specs.declared.race.Race.{Race}
use Rattle.er_run.proofs.JudgedLemmas.{access_begun, ordered, race_by_clocks, race_within}
use Rattle.er_run.proofs.end.orders_of.Goals as goal

pub access-first-requires : goal.access-first-requires
access-first-requires c =
    let d : Race = record { first = 0; second = 0 } in
    let some = c.requires.some in
    (race_within c.args.session.now some.list c.args.races.now (c.args.race - 1) d some.stands (c.requires.listed some.list some.stands) (omega (arith, c.requires.first, c.requires.within))).0

pub access-second-requires : goal.access-second-requires
access-second-requires c =
    let d : Race = record { first = 0; second = 0 } in
    let some = c.requires.some in
    (race_within c.args.session.now some.list c.args.races.now (c.args.race - 1) d some.stands (c.requires.listed some.list some.stands) (omega (arith, c.requires.first, c.requires.within))).1

pub make_schedules-requires-clause-earlier : goal.make_schedules-requires-clause-earlier
make_schedules-requires-clause-earlier c =
    let d : Race = record { first = 0; second = 0 } in
    let some = c.requires.some in
    let below : c.args.race - 1 < length c.args.races.now = omega (arith, c.requires.first, c.requires.within) in
    (race_by_clocks c.args.session.now c.clocks.result.now some.list c.args.races.now (c.args.race - 1) d c.access-first.result c.access-second.result c.clocks.ensures some.stands (c.requires.listed some.list some.stands) below
    c.access-first.ensures.known c.access-second.ensures.known c.access-first.ensures.kept c.access-second.ensures.kept).earlier

pub make_schedules-requires-clause-begun : goal.make_schedules-requires-clause-begun
make_schedules-requires-clause-begun c =
    let some = c.requires.some in
    access_begun c.args.session.now c.clocks.result.now some.list _ c.access-second.result c.clocks.ensures some.stands c.access-second.ensures.known c.access-second.ensures.kept

pub make_schedules-requires-clause-apart : goal.make_schedules-requires-clause-apart
make_schedules-requires-clause-apart c =
    let d : Race = record { first = 0; second = 0 } in
    let some = c.requires.some in
    let below : c.args.race - 1 < length c.args.races.now = omega (arith, c.requires.first, c.requires.within) in
    (race_by_clocks c.args.session.now c.clocks.result.now some.list c.args.races.now (c.args.race - 1) d c.access-first.result c.access-second.result c.clocks.ensures some.stands (c.requires.listed some.list some.stands) below
    c.access-first.ensures.known c.access-second.ensures.known c.access-first.ensures.kept c.access-second.ensures.kept).apart

pub returns : goal.returns
returns c =
    let d : Race = record { first = 0; second = 0 } in
    let s = c.args.session.now in
    let links = c.clocks.result.now in
    let found = c.args.races.now in
    let below : c.args.race - 1 < length found = omega (arith, c.requires.first, c.requires.within) in
    IfOk-weaker c.make_schedules.result _ _ (λ orders tells h stands.
    ordered s links h found c.args.race orders c.access-first.result.action c.access-second.result.action c.clocks.ensures stands (c.requires.listed h stands) c.requires.first c.requires.within
    (race_by_clocks s links h found (c.args.race - 1) d c.access-first.result c.access-second.result c.clocks.ensures stands (c.requires.listed h stands) below
    c.access-first.ensures.known c.access-second.ensures.known c.access-first.ensures.kept c.access-second.ensures.kept) tells) c.make_schedules.ensures.orders
