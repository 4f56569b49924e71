use Rattle.er_reasons.proofs.ReadLemmas.{begin_begun}
use Rattle.er_reasons.proofs.read.dispatch_at.Goals as goal

pub begin_of-rec-requires : goal.begin_of-rec-requires
begin_of-rec-requires c = record { begun = begin_begun c.args.page.now c.args.number c.in_ok-begin.begin c.requires.some c.in_ok-begin.ensures }
