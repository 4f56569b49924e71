use Rattle.std.proofs.Common.{◌≡◌, ◌<◌, ◌+◌, length, refl, arith}
use Rattle.er_clocks.specs.Asked.{asked}
use Rattle.er_races.specs.Races.{most_races}
use Rattle.er_races.specs.Fronts.{unjoined}
use Rattle.er_races.proofs.FrontLemmas.{front_end, front_many, front_next, rest, rest_len, rest_next, rest_none, rest_past}
use Rattle.er_races.proofs.location.list_front.Goals as goal

pub loop-from-init : goal.loop-from-init
loop-from-init g c = record { within = omega arith; listed = refl; counted = omega arith; few = c.requires.few }

pub first_apart-requires-clause-room : goal.first_apart-requires-clause-room
first_apart-requires-clause-room g c = let l = rest_len c.loop-from.from c.args.actions.now in omega (arith, l, c.loop-from.invariant.counted, c.loop-from.invariant.within, c.requires.room)

pub returns-then-at-actions-clause-found : goal.returns-then-at-actions-clause-found
returns-then-at-actions-clause-found g c =
    front_end c.args.second c.loop-from.found.items _ _
    (rest_none (g.P.Paths.joins c.args.paths.now) c.args.action c.args.numbers.now c.args.actions.now c.loop-from.from c.first_apart.result c.requires.paired c.first_apart.ensures.answer c.if-at-actions.true)
    c.loop-from.invariant.listed

pub returns-then-at-actions-clause-once : goal.returns-then-at-actions-clause-once
returns-then-at-actions-clause-once g c =
    let l = rest_len c.loop-from.from c.args.actions.now in
    omega (arith, l, c.loop-from.invariant.counted, c.first_apart.ensures.once, c.if-at-actions.true)

pub returns-then-at-actions-clause-few : goal.returns-then-at-actions-clause-few
returns-then-at-actions-clause-few g c = c.loop-from.invariant.few

pub returns-then-at-actions-clause-at_most : goal.returns-then-at-actions-clause-at_most
returns-then-at-actions-clause-at_most g c =
    let l = rest_len c.loop-from.from c.args.actions.now in
    omega (arith, l, c.loop-from.invariant.counted, c.first_apart.ensures.once, c.if-at-actions.true)

pub returns-then-at-actions-clause-rises : goal.returns-then-at-actions-clause-rises
returns-then-at-actions-clause-rises g c = omega (arith, c.loop-from.invariant.counted, c.first_apart.ensures.once)

pub keep-requires : goal.keep-requires
keep-requires g c = record { few = c.loop-from.invariant.few }

pub returns-in-Err-clause-many : goal.returns-in-Err-clause-many
returns-in-Err-clause-many g c = λ e.
    let l = rest_len c.loop-from.from c.args.actions.now in
    let within : c.loop-from.from + c.first_apart.result < length c.args.actions.now = omega (arith, l, c.loop-from.invariant.within, c.first_apart.ensures.within, c.if-at-actions.false) in
    front_many c.args.second _ most_races c.loop-from.found.items c.args.found.now.items _ _ _
    (rest_next (g.P.Paths.joins c.args.paths.now) c.args.action c.args.numbers.now c.args.actions.now c.loop-from.from c.first_apart.result c.requires.paired c.first_apart.ensures.answer within)
    (c.in-Err.ensures.many e) c.loop-from.invariant.listed

pub returns-in-Err-clause-at_most : goal.returns-in-Err-clause-at_most
returns-in-Err-clause-at_most g c =
    let l = rest_len c.loop-from.from c.args.actions.now in
    omega (arith, l, c.loop-from.invariant.counted, c.loop-from.invariant.within, c.first_apart.ensures.once)

pub returns-in-Err-clause-rises : goal.returns-in-Err-clause-rises
returns-in-Err-clause-rises g c = omega (arith, c.loop-from.invariant.counted, c.first_apart.ensures.once)

pub loop-from-preserved : goal.loop-from-preserved
loop-from-preserved g c =
    let l = rest_len c.loop-from.from c.args.actions.now in
    let within : c.loop-from.from + c.first_apart.result < length c.args.actions.now = omega (arith, l, c.loop-from.invariant.within, c.first_apart.ensures.within, c.if-at-actions.false) in
    record {
      within = omega (arith, within);
      listed = front_next c.args.second _ c.loop-from.found.items _ _ _ _
          (rest_next (g.P.Paths.joins c.args.paths.now) c.args.action c.args.numbers.now c.args.actions.now c.loop-from.from c.first_apart.result c.requires.paired c.first_apart.ensures.answer within)
          c.in_default.ensures.found c.loop-from.invariant.listed;
      counted = omega (arith, l, within, c.loop-from.invariant.counted, c.first_apart.ensures.once);
      few = c.in_default.ensures.few;
    }

pub returns-clause-found : goal.returns-clause-found
returns-clause-found g c =
    front_end c.args.second c.loop-from.found.items _ _ (rest_past (g.P.Paths.joins c.args.paths.now) c.args.action c.args.numbers.now c.args.actions.now c.loop-from.from c.requires.paired c.loop-from-test.false) c.loop-from.invariant.listed

pub returns-clause-once : goal.returns-clause-once
returns-clause-once g c = omega (arith, c.loop-from.invariant.counted, c.loop-from.invariant.within, c.loop-from-test.false)

pub returns-clause-few : goal.returns-clause-few
returns-clause-few g c = c.loop-from.invariant.few

pub returns-clause-at_most : goal.returns-clause-at_most
returns-clause-at_most g c = omega (arith, c.loop-from.invariant.counted, c.loop-from.invariant.within)

pub returns-clause-rises : goal.returns-clause-rises
returns-clause-rises g c = omega (arith, c.loop-from.invariant.counted)
