use Rattle.std.proofs.Common.{arith}
use Rattle.er_cover.proofs.heads.Heads.groups.Goals as goal

pub slice_bounds-result-end : goal.slice_bounds-result-end
slice_bounds-result-end c = let less = c.requires.heads.rising c.args.n c.requires.within in omega (arith, less, c.start-start.ensures.start, c.start-end.ensures.start, c.start-end.ensures.within)
