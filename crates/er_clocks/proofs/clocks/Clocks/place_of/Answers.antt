use Rattle.std.proofs.Common.{◌∙◌}
use Rattle.er_clocks.proofs.LookUps.{as_seen, place_seen}
use Rattle.er_clocks.proofs.Pushes.{stands_place}
use Rattle.er_clocks.proofs.clocks.Clocks.place_of.Goals as goal

pub returns : goal.returns
returns c = λ lists stands. place_seen c.self.inside c.args.self.now c.args.j c.index.result.now (as_seen c.self.inside c.args.self.now c.self.invariant c.self.view_is) c.requires c.index.ensures ∙ stands_place c.args.self.now lists c.args.j stands
