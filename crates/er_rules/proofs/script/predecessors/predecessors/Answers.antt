use Rattle.er_history.specs.Rules.{script_rules}
use Rattle.er_page.specs.Page.{IsPage}
use Rattle.er_pieces.specs.Counts.{most_script}
use Rattle.er_pieces.specs.HandedPieces.{script_handed}
use Rattle.er_pieces.proofs.ContractLemmas.{enough_by, sources_by, few_by}
use Rattle.er_pieces.proofs.CountLaws.{script_hands_at_most}
use Rattle.er_pieces.proofs.HandsScript.{hands_script}
use Rattle.er_page.proofs.HandingLemmas.{stays_in_front}
use Rattle.er_rules.proofs.script.predecessors.predecessors.Goals as goal

pub returns-clause-enough : goal.returns-clause-enough
returns-clause-enough c = enough_by (IsPage c.args.page.now) script_rules script_handed hands_script c.hand_due.result c.args.rec.now c.args.out.now.items c.hand_due.new.out.items c.hand_due.ensures.whole

pub returns-clause-sources : goal.returns-clause-sources
returns-clause-sources c = sources_by (IsPage c.args.page.now) script_rules script_handed hands_script c.hand_due.result c.args.rec.now c.args.out.now.items c.hand_due.new.out.items c.hand_due.ensures.part

pub returns-clause-few : goal.returns-clause-few
returns-clause-few c = few_by (IsPage c.args.page.now) script_handed most_script script_hands_at_most c.hand_due.result c.args.rec.now c.args.out.now.items c.hand_due.new.out.items c.hand_due.ensures.whole c.hand_due.ensures.part

pub returns-clause-kept : goal.returns-clause-kept
returns-clause-kept c = stays_in_front c.args.page.now script_handed c.hand_due.result c.args.rec.now c.args.out.now.items c.hand_due.new.out.items c.requires.some c.hand_due.ensures.whole c.hand_due.ensures.part
