use Rattle.std.proofs.Common.{◌≡◌, ◌+◌, ◌-◌, ℕ, length, refl, ap, arith}
use Rattle.er_paths.specs.links.Links.{links_of}
use Rattle.er_clocks.proofs.Again.{links_repeated, reach_repeated}
use Rattle.er_clocks.proofs.LookUps.{as_seen, place_few, place_seen}
use Rattle.er_clocks.proofs.clocks.Clocks.sources_of_newest.Goals as goal

pub returns-clause-newest : goal.returns-clause-newest
returns-clause-newest c =
    let s = as_seen c.self.inside c.args.self.now c.self.invariant c.self.view_is in
    let last : c.len.result - 1 ≡ length c.args.self.now - 1 = omega (arith, c.len.ensures, c.self.inside.numbers.ok.0, s.clock.numbers_long) in
    ap (links_of c.args.self.now) last

pub returns-clause-links : goal.returns-clause-links
returns-clause-links c = λ p is.
    let s = as_seen c.self.inside c.args.self.now c.self.invariant c.self.view_is in
    let n : ℕ = c.len.result - 1 in
    let newest : n + 1 ≡ length c.args.self.now = omega (arith, c.len.ensures, c.self.inside.numbers.ok.0, s.clock.numbers_long, c.requires) in
    links_repeated c.args.self.now n (links_of c.args.self.now n) p newest refl is

pub returns-clause-reach : goal.returns-clause-reach
returns-clause-reach c = λ p is.
    let s = as_seen c.self.inside c.args.self.now c.self.invariant c.self.view_is in
    let n : ℕ = c.len.result - 1 in
    let newest : n + 1 ≡ length c.args.self.now = omega (arith, c.len.ensures, c.self.inside.numbers.ok.0, s.clock.numbers_long, c.requires) in
    reach_repeated c.args.self.now n c.index.result.now p newest (place_seen c.self.inside c.args.self.now n c.index.result.now s (omega (arith, newest)) c.index.ensures) is

pub returns-clause-known : goal.returns-clause-known
returns-clause-known c =
    let s = as_seen c.self.inside c.args.self.now c.self.invariant c.self.view_is in
    let n : ℕ = c.len.result - 1 in
    let newest : n + 1 ≡ length c.args.self.now = omega (arith, c.len.ensures, c.self.inside.numbers.ok.0, s.clock.numbers_long, c.requires) in
    let few = place_few c.self.inside c.args.self.now n c.index.result.now s (omega (arith, newest)) c.index.ensures in
    (omega (arith, newest), (omega (arith, newest), omega (arith, few)))
