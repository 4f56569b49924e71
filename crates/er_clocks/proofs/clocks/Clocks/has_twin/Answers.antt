use Rattle.std.proofs.Common.{[], ◌-◌, ◌<◌, ◌∙◌, ℕ, length, get_or, sym, arith}
use Rattle.std.proofs.lemmas.Bool.Decides.{nat_tests}
use Rattle.std.proofs.lemmas.List.Elements.{All-get_or}
use Rattle.er_clocks.proofs.LookUps.{as_seen, links_seen, stands_itself}
use Rattle.er_clocks.proofs.clocks.Clocks.has_twin.Goals as goal

pub returns : goal.returns
returns c = λ e.
    let s = as_seen c.self.inside c.args.self.now c.self.invariant c.self.view_is in
    let itself = stands_itself c.self.inside c.args.self.now s in
    let n : ℕ = length c.args.links.now - 1 in
    let within : n < length c.args.links.now = let z = c.if-count-eq0.false in grind (arith, nat_tests) in
    let known = All-get_or (λ k. k < length c.args.self.now) c.args.links.now n 0 within c.requires.taken in (
      n,
      within,
      sym (links_seen c.self.inside c.args.self.now c.args.self.now c.args.i s c.requires.known itself) ∙ sym (rw c.from.ensures at c.is_one.ensures e [])
          ∙ links_seen c.self.inside c.args.self.now c.args.self.now (get_or c.args.links.now n 0) s known itself,
    )
