use Rattle.std.proofs.Common.{◌<◌, length}
use Rattle.std.proofs.lemmas.List.Elements.{recursion_from_All}
use Rattle.er_clocks.proofs.Uncovered.{below_listed}
use Rattle.er_clocks.proofs.clocks.Clocks.sources_of.Goals as goal

pub sources_behind-requires : goal.sources_behind-requires
sources_behind-requires c = below_listed (length c.args.self.now) c.args.preds.now c.in-Some.link (recursion_from_All (λ k. k < length c.args.self.now) c.args.preds.now c.requires) c.in-Some.ensures.0
