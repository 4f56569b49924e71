use Rattle.er_page.proofs.page.Page.fired_timeouts_with.Goals as goal

pub returns-clause-set : goal.returns-clause-set
returns-clause-set c = λ h stands. c.fired_timeouts_with.ensures.set h stands.claimed

pub returns-clause-counted : goal.returns-clause-counted
returns-clause-counted c = λ h stands. c.fired_timeouts_with.ensures.counted h stands.claimed
