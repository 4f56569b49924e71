use Rattle.std.proofs.Common.{◌-◌, sym, subst, arith}
use Rattle.er_claims.specs.Fired.{IsNoEarlier}
use Rattle.er_claims.proofs.CountedLemmas.{AllFrom, more_from, no_earlier}
use Rattle.er_claims.proofs.counted.later_before.Goals as goal

pub loop-left-preserved : goal.loop-left-preserved
loop-left-preserved c = record {
  within = omega (arith, c.loop-left.invariant.within, c.saturating_sub-left.ensures);
  from = λ are. subst (λ n. AllFrom IsNoEarlier c.args.fired.now n c.args.set) (sym c.saturating_sub-left.ensures)
      (more_from IsNoEarlier no_earlier c.args.fired.now c.loop-left.left _ c.args.set _ (omega (arith, c.loop-left-test.true)) c.loop-left.invariant.within
      (are.each (c.loop-left.left - 1) _ (omega (arith, c.loop-left-test.true, c.loop-left.invariant.within))).later (omega (arith, c.if-last-set.false)) (c.loop-left.invariant.from are));
}
