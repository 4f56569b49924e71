use Rattle.er_run.proofs.RunLemmas.{never_rose, reads_surely}
use Rattle.er_run.proofs.sure.run_surely.Goals as goal

pub returns : goal.returns
returns g c = λ asked asks bytes held. (c.run.ensures.ran.served asked asks).complete (reads_surely asked.command) never_rose bytes held
