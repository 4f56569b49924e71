use Rattle.std.proofs.Common.{◌∙◌}
use Rattle.er_clocks.proofs.Pushes.{stands_entry}
use Rattle.er_clocks.proofs.clocks.Clocks.entry.Goals as goal

pub returns : goal.returns
returns c = λ lists stands. c.own_entry.ensures ∙ stands_entry c.args.self.now lists c.args.j c.args.chain stands
