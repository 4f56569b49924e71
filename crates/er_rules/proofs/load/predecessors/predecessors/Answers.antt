use Rattle.er_history.specs.Rules.{load_rules}
use Rattle.er_page.specs.Page.{IsPage}
use Rattle.er_pieces.specs.Counts.{most_load}
use Rattle.er_pieces.specs.HandedPieces.{load_handed}
use Rattle.er_pieces.proofs.ContractLemmas.{enough_by, sources_by, few_by}
use Rattle.er_pieces.proofs.CountLaws.{load_hands_at_most}
use Rattle.er_pieces.proofs.HandsLoad.{hands_load}
use Rattle.er_page.proofs.HandingLemmas.{stays_in_front}
use Rattle.er_rules.proofs.load.predecessors.predecessors.Goals as goal

pub returns-clause-enough : goal.returns-clause-enough
returns-clause-enough c = enough_by (IsPage c.args.page.now) load_rules load_handed hands_load c.hand_due.result c.args.rec.now c.args.out.now.items c.hand_due.new.out.items c.hand_due.ensures.whole

pub returns-clause-sources : goal.returns-clause-sources
returns-clause-sources c = sources_by (IsPage c.args.page.now) load_rules load_handed hands_load c.hand_due.result c.args.rec.now c.args.out.now.items c.hand_due.new.out.items c.hand_due.ensures.part

pub returns-clause-few : goal.returns-clause-few
returns-clause-few c = few_by (IsPage c.args.page.now) load_handed most_load load_hands_at_most c.hand_due.result c.args.rec.now c.args.out.now.items c.hand_due.new.out.items c.hand_due.ensures.whole c.hand_due.ensures.part

pub returns-clause-kept : goal.returns-clause-kept
returns-clause-kept c = stays_in_front c.args.page.now load_handed c.hand_due.result c.args.rec.now c.args.out.now.items c.hand_due.new.out.items c.requires.some c.hand_due.ensures.whole c.hand_due.ensures.part
