use Rattle.er_reasons.proofs.TaskLemmas.{declarer_some, declarer_none}
use Rattle.er_reasons.proofs.task.is_declarer.Goals as goal

pub returns-in-Some : goal.returns-in-Some
returns-in-Some c = λ kind number h stands at. declarer_some c.args.page.now kind number h c.args.task c.in-Some.task c.args.event stands c.in-Some.is at

pub returns-in-None : goal.returns-in-None
returns-in-None c = λ kind number h stands at. declarer_none c.args.page.now kind number h c.args.task c.args.event stands c.in-None.is at
