use Rattle.std.proofs.Common.{arith}
use Rattle.er_clocks.proofs.Entries.{taken_none}
use Rattle.er_clocks.proofs.clocks.Clocks.take_all.Goals as goal

pub loop-n-init : goal.loop-n-init
loop-n-init c = record {
  within = omega arith;
  known = rw c.requires.none (λ k d h. absurd (omega arith));
  taken = rw (c.requires.zero, c.requires.none) (taken_none c.args.self.now c.args.sorted.now);
}
