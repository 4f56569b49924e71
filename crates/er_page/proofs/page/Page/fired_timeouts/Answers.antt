use Rattle.er_page.proofs.page.Page.fired_timeouts.Goals as goal

pub returns-clause-set : goal.returns-clause-set
returns-clause-set c = λ h stands. c.fired_timeouts.ensures.set h stands.claimed

pub returns-clause-counted : goal.returns-clause-counted
returns-clause-counted c = λ h stands. c.fired_timeouts.ensures.counted h stands.claimed
