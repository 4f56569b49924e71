use Rattle.er_claims.proofs.claimed.Claimed.fired_timeouts.Goals as goal

pub returns-clause-set : goal.returns-clause-set
returns-clause-set c = λ h stands. c.all_timeouts.ensures.found _ stands.found

pub returns-clause-counted : goal.returns-clause-counted
returns-clause-counted c = λ h stands. c.all_timeouts.ensures.counted _ stands.found
