use Rattle.std.proofs.Common.{◌-◌, sym, subst, arith}
use Rattle.er_claims.specs.Fired.{IsNoShorter}
use Rattle.er_claims.proofs.CountedLemmas.{AllFrom, more_from, no_shorter}
use Rattle.er_claims.proofs.counted.longer_before.Goals as goal

pub loop-left-preserved : goal.loop-left-preserved
loop-left-preserved c = record {
  within = omega (arith, c.loop-left.invariant.within, c.saturating_sub-left.ensures);
  from = λ are. subst (λ n. AllFrom IsNoShorter c.args.fired.now n c.args.set) (sym c.saturating_sub-left.ensures)
      (more_from IsNoShorter no_shorter c.args.fired.now c.loop-left.left _ c.args.set _ (omega (arith, c.loop-left-test.true)) c.loop-left.invariant.within
      (are.each (c.loop-left.left - 1) _ (omega (arith, c.loop-left-test.true, c.loop-left.invariant.within))).longer (omega (arith, c.if-last-set.false)) (c.loop-left.invariant.from are));
}
