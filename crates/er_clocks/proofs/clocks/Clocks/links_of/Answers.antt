use Rattle.std.proofs.Common.{[], ◌∙◌}
use Rattle.er_clocks.proofs.LookUps.{as_seen, links_seen}
use Rattle.er_clocks.proofs.clocks.Clocks.links_of.Goals as goal

pub returns : goal.returns
returns c = λ lists stands. c.numbers.ensures ∙ c.list.ensures [] ∙ links_seen c.self.inside c.args.self.now lists c.args.j (as_seen c.self.inside c.args.self.now c.self.invariant c.self.view_is) c.requires stands
