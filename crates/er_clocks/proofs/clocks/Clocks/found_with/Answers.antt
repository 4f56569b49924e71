use Rattle.std.proofs.Common.{◌≡◌, ◌∙◌, ℕ, true, slice_index, sym, ap, inr, arith}
use Rattle.er_paths.specs.Paths.{is_among}
use Rattle.er_paths.specs.links.Links.{links_of}
use Rattle.er_clocks.proofs.Again.{link_before, number_stands}
use Rattle.er_clocks.proofs.clocks.Clocks.found_with.Goals as goal

pub returns-then-from-k : goal.returns-then-from-k
returns-then-from-k c =
    let h = c.if-found-links.true in
    let is : slice_index c.args.links.now c.args.found ≡ c.args.k = sym c.from.ensures ∙ c.if-from-k.true in
    let among : is_among c.args.k (links_of c.args.self.now c.args.j) ≡ true =
    ap (is_among c.args.k) (sym c.requires.links) ∙ ap (λ (x : ℕ). is_among x c.args.links.now) (sym is) ∙ number_stands c.args.links.now c.args.found h in
    (link_before c.args.self.now c.args.j c.args.k among, omega (arith, h), inr (omega arith, is))
