use Rattle.std.proofs.Common.{◌<◌, ◌+◌, ℕ, length, ap, sym, subst, All, arith}
use Rattle.er_paths.specs.Paths.{joins}
use Rattle.er_cover.proofs.HeadLemmas.{firsts_known, gathered_all, gathered_more, heads_few, rest_known, rest_len}
use Rattle.er_cover.proofs.heads.gather.Goals as goal

pub first_led-requires-clause-seconds : goal.first_led-requires-clause-seconds
first_led-requires-clause-seconds c =
    let known : ℕ → Type 0 = λ j. j < length c.args.clocks.now in
    rest_known known c.as_slice-firsts.result.now c.loop-from.from (subst (All known) (sym c.as_slice-firsts.ensures.value) (firsts_known (length c.args.clocks.now) c.args.found.now c.args.heads.now c.requires.heads c.requires.known))

pub first_led-requires-clause-room : goal.first_led-requires-clause-room
first_led-requires-clause-room c =
    let l = rest_len c.loop-from.from c.as_slice-firsts.result.now in
    let long = ap length c.as_slice-firsts.ensures.value in
    let few = heads_few c.args.found.now c.args.heads.now c.requires.heads in
    omega (arith, l, long, few, c.loop-from.invariant.counted, c.loop-from.invariant.within, c.requires.room)

pub returns-then-at-firsts-clause-seconds : goal.returns-then-at-firsts-clause-seconds
returns-then-at-firsts-clause-seconds c =
    gathered_all (joins c.args.clocks.now) c.args.first c.args.found.now c.args.heads.now c.loop-from.from c.first_led.result c.as_slice-firsts.result.now c.loop-from.seconds.items _
    c.requires.heads c.as_slice-firsts.ensures.value c.first_led.ensures.answer c.if-at-firsts.true c.loop-from.invariant.gathered

pub returns-then-at-firsts-clause-bound : goal.returns-then-at-firsts-clause-bound
returns-then-at-firsts-clause-bound c =
    let l = rest_len c.loop-from.from c.as_slice-firsts.result.now in
    let long = ap length c.as_slice-firsts.ensures.value in
    let few = heads_few c.args.found.now c.args.heads.now c.requires.heads in
    omega (arith, l, long, few, c.loop-from.invariant.counted, c.loop-from.invariant.within, c.first_led.ensures.once)

pub returns-in_err-add_seconds-clause-bound : goal.returns-in_err-add_seconds-clause-bound
returns-in_err-add_seconds-clause-bound c =
    let l = rest_len c.loop-from.from c.as_slice-firsts.result.now in
    let long = ap length c.as_slice-firsts.ensures.value in
    let few = heads_few c.args.found.now c.args.heads.now c.requires.heads in
    omega (arith, l, long, few, c.loop-from.invariant.counted, c.loop-from.invariant.within, c.first_led.ensures.once)

pub loop-from-preserved : goal.loop-from-preserved
loop-from-preserved c =
    let l = rest_len c.loop-from.from c.as_slice-firsts.result.now in
    let long = ap length c.as_slice-firsts.ensures.value in
    let within : c.loop-from.from + c.first_led.result < length c.as_slice-firsts.result.now = omega (arith, l, long, c.loop-from.invariant.within, c.first_led.ensures.within, c.if-at-firsts.false) in
    record {
      within = omega (arith, within, long);
      gathered = gathered_more (joins c.args.clocks.now) c.args.first c.args.found.now c.args.heads.now c.loop-from.from c.first_led.result c.as_slice-firsts.result.now c.loop-from.seconds.items c.add_seconds.new.seconds.items _ c.groups.result.now
          c.requires.heads c.as_slice-firsts.ensures.value c.first_led.ensures.answer within c.groups.ensures c.in_ok-add_seconds.ensures c.loop-from.invariant.gathered;
      counted = omega (arith, l, within, c.loop-from.invariant.counted, c.first_led.ensures.once);
    }

pub returns-clause-bound : goal.returns-clause-bound
returns-clause-bound c =
    let few = heads_few c.args.found.now c.args.heads.now c.requires.heads in
    omega (arith, few, c.loop-from.invariant.counted, c.loop-from.invariant.within)
