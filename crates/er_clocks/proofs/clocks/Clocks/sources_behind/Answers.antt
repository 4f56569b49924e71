use Rattle.std.proofs.Common.{◌≡◌, ◌+◌, ◌∙◌, suc, arith}
use Rattle.er_paths.specs.links.Chains.{place_of}
use Rattle.er_clocks.proofs.Again.{only_links, only_reached}
use Rattle.er_clocks.proofs.LookUps.{as_seen, place_few, place_seen}
use Rattle.er_clocks.proofs.clocks.Clocks.sources_behind.Goals as goal

pub overflow_add-number : goal.overflow_add-number
overflow_add-number c = let few = place_few c.self.inside c.args.self.now c.args.link c.index.result.now (as_seen c.self.inside c.args.self.now c.self.invariant c.self.view_is) c.requires c.index.ensures in omega (arith, few)

pub returns-clause-links : goal.returns-clause-links
returns-clause-links c = λ p is. c.one.ensures ∙ only_links c.args.self.now p c.args.link c.requires is

pub returns-clause-reach : goal.returns-clause-reach
returns-clause-reach c = λ p is d.
    let there = place_seen c.self.inside c.args.self.now c.args.link c.index.result.now (as_seen c.self.inside c.args.self.now c.self.invariant c.self.view_is) c.requires c.index.ensures in
    let next : c.index.result.now + 1 ≡ suc (place_of c.args.self.now c.args.link) = omega (arith, there) in
    only_reached c.args.self.now p c.args.link (c.index.result.now + 1) d c.requires next is

pub returns-clause-known : goal.returns-clause-known
returns-clause-known c =
    let few = place_few c.self.inside c.args.self.now c.args.link c.index.result.now (as_seen c.self.inside c.args.self.now c.self.invariant c.self.view_is) c.requires c.index.ensures in (tt, (c.requires, omega (arith, few)))
