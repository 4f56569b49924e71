use Rattle.std.proofs.Common.{◌∙◌, arith}
use Rattle.er_clocks.proofs.Pushes.{clocks_tell_paths, none_back, none_past}
use Rattle.er_clocks.proofs.clocks.Clocks.joined.Goals as goal

pub returns-then-i-j : goal.returns-then-i-j
returns-then-i-j c = λ lists stands. none_back lists c.args.i c.args.j c.if-i-j.true

pub returns-then-j-len : goal.returns-then-j-len
returns-then-j-len c = λ lists stands. none_past c.args.self.now lists c.args.i c.args.j stands (omega (arith, c.len.ensures, c.if-j-len.true))

pub returns : goal.returns
returns c = λ lists stands. c.has_path.ensures ∙ (clocks_tell_paths c.args.self.now lists stands).1 c.args.i c.args.j
