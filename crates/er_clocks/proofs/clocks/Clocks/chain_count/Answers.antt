use Rattle.std.proofs.Common.{◌∙◌, ap, length}
use Rattle.er_clocks.proofs.LookUps.{as_seen, chains_seen}
use Rattle.er_clocks.proofs.Pushes.{stands_chains}
use Rattle.er_clocks.proofs.clocks.Clocks.chain_count.Goals as goal

pub returns : goal.returns
returns c = λ lists stands. c.count.ensures ∙ chains_seen c.self.inside c.args.self.now (as_seen c.self.inside c.args.self.now c.self.invariant c.self.view_is) ∙ ap length (stands_chains c.args.self.now lists stands)
