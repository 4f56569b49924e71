use Rattle.std.proofs.Common.{arith}
use Rattle.er_paths.proofs.links.Fits.{chain_number_short}
use Rattle.er_clocks.proofs.LookUps.{as_seen, chain_seen, place_few}
use Rattle.er_clocks.proofs.clocks.Clocks.target.Goals as goal

pub overflow_add-result : goal.overflow_add-result
overflow_add-result c =
    let few = place_few c.self.inside c.args.self.now c.args.j c.index-place.result.now (as_seen c.self.inside c.args.self.now c.self.invariant c.self.view_is) c.requires c.index-place.ensures in omega (arith, few)

pub returns-clause-there : goal.returns-clause-there
returns-clause-there c =
    let is = chain_seen c.self.inside c.args.self.now c.args.j c.index.result.now (as_seen c.self.inside c.args.self.now c.self.invariant c.self.view_is) c.requires c.index.ensures in
    let short = chain_number_short c.args.self.now c.args.j c.requires in omega (arith, is, short)

pub returns-clause-few : goal.returns-clause-few
returns-clause-few c =
    let few = place_few c.self.inside c.args.self.now c.args.j c.index-place.result.now (as_seen c.self.inside c.args.self.now c.self.invariant c.self.view_is) c.requires c.index-place.ensures in omega (arith, few)
