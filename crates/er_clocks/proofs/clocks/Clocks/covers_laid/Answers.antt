use Rattle.std.proofs.Common.{arith}
use Rattle.er_paths.proofs.links.Fits.{chain_number_short}
use Rattle.er_clocks.proofs.LookUps.{as_seen, chain_seen}
use Rattle.er_clocks.proofs.clocks.Clocks.covers_laid.Goals as goal

pub bounds-laid-index : goal.bounds-laid-index
bounds-laid-index c =
    let is = chain_seen c.self.inside c.args.self.now c.args.i c.index-2.result.now (as_seen c.self.inside c.args.self.now c.self.invariant c.self.view_is) c.requires.known c.index-2.ensures in
    let short = chain_number_short c.args.self.now c.args.i c.requires.known in omega (arith, is, short, c.requires.long)
