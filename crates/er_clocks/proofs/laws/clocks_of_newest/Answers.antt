use Rattle.er_clocks.proofs.Pushes as push
use Rattle.er_clocks.proofs.laws.clocks_of_newest.Goals as goal

pub returns : goal.returns
returns c = push.clocks_of_newest
