use Rattle.er_page.proofs.StartLemmas.{back_start}
use Rattle.er_page.proofs.starts.start_of.Goals as goal

pub returns-in-Back : goal.returns-in-Back
returns-in-Back c = λ h is are named. back_start c.args.stack.now c.args.pieces.now h c.args.rec.now c.in-Back.dispatch c.resumed.result c.in-Back.is is are named c.resumed.ensures
