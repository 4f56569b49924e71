use Rattle.std.proofs.Common.{◌≡◌, length, rules, arith}
use Rattle.er_cover.specs.Passes.{start_of}
use Rattle.er_cover.proofs.HeadLemmas.{start_within}
use Rattle.er_cover.proofs.heads.Heads.start.Goals as goal

pub returns-in-Some-clause-within : goal.returns-in-Some-clause-within
returns-in-Some-clause-within c =
    let within = start_within c.args.found.now c.args.self.now c.args.n c.requires.heads c.requires.place in
    let read : c.in-Some.start.now ≡ start_of (length c.args.found.now) c.args.self.now c.args.n = search rules in
    omega (arith, within, read)
