use Rattle.er_clocks.proofs.LookUps.{as_seen}
use Rattle.er_clocks.proofs.clocks.Clocks.covers.Goals as goal

pub returns-clause-few : goal.returns-clause-few
returns-clause-few c = (as_seen c.self.inside c.args.self.now c.self.invariant c.self.view_is).clock.few
