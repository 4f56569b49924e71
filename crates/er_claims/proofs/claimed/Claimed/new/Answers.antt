use Rattle.er_claims.proofs.claimed.Claimed.new.Goals as goal

pub returns : goal.returns
returns c = record { tables = c.new.ensures; fired = c.new-2.ensures.fired; found = c.new-2.ensures.found _ }
