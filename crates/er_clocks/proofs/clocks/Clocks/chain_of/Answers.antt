use Rattle.std.proofs.Common.{◌∙◌}
use Rattle.er_clocks.proofs.LookUps.{as_seen, chain_seen}
use Rattle.er_clocks.proofs.Pushes.{stands_chain}
use Rattle.er_clocks.proofs.clocks.Clocks.chain_of.Goals as goal

pub returns : goal.returns
returns c = λ lists stands. chain_seen c.self.inside c.args.self.now c.args.j c.index.result.now (as_seen c.self.inside c.args.self.now c.self.invariant c.self.view_is) c.requires c.index.ensures ∙ stands_chain c.args.self.now lists c.args.j stands
