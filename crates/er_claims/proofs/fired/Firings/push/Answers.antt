use Rattle.std.proofs.Common.{length, sym, subst}
use Rattle.er_claims.specs.Fired.{AreCounted, IsCounted}
use Rattle.er_claims.proofs.CountedLemmas.{counted_more}
use Rattle.er_claims.proofs.fired.Firings.push.Goals as goal

pub returns-clause-counted : goal.returns-clause-counted
returns-clause-counted c = λ are.
    let new = subst (λ xs. IsCounted xs (length xs) c.counted-timeout.result) c.deref.ensures.value (c.counted-timeout.ensures.counted (subst AreCounted (sym c.deref.ensures.value) are)) in
    subst AreCounted (sym c.in-Ok-push.ensures.items) (counted_more c.args.self.now.timeouts.items c.counted-timeout.result are new)
