use Rattle.std.proofs.Math.Logic.{∥∥₁_elim}
use Rattle.std.proofs.Props.{props}
use Rattle.er_page.specs.Page.{IsPage, IsSomePage}
use Rattle.er_history.specs.Rules.{request_rules}
use Rattle.er_pieces.specs.Counts.{most_request}
use Rattle.er_pieces.specs.HandedPieces.{request_handed}
use Rattle.er_pieces.proofs.ContractLemmas.{enough_by, sources_by, few_by, kept_by}
use Rattle.er_pieces.proofs.CountLaws.{request_hands_at_most}
use Rattle.er_pieces.proofs.HandsTimer.{hands_request}
use Rattle.er_rules.proofs.request.predecessors.predecessors.Goals as goal

pub returns-clause-enough : goal.returns-clause-enough
returns-clause-enough c = enough_by (IsPage c.args.page.now) request_rules request_handed hands_request c.hand.result c.args.rec.now c.args.out.now.items c.hand.new.out.items c.hand.ensures.exact

pub returns-clause-sources : goal.returns-clause-sources
returns-clause-sources c = sources_by (IsPage c.args.page.now) request_rules request_handed hands_request c.hand.result c.args.rec.now c.args.out.now.items c.hand.new.out.items c.hand.ensures.front

pub returns-clause-few : goal.returns-clause-few
returns-clause-few c = few_by (IsPage c.args.page.now) request_handed most_request request_hands_at_most c.hand.result c.args.rec.now c.args.out.now.items c.hand.new.out.items c.hand.ensures.exact c.hand.ensures.front

pub returns-clause-kept : goal.returns-clause-kept
returns-clause-kept c = ∥∥₁_elim c.requires.some (hlevel props) (λ (is : IsSomePage c.args.page.now).
    kept_by (IsPage c.args.page.now) request_handed c.hand.result c.args.rec.now c.args.out.now.items c.hand.new.out.items c.hand.ensures.exact c.hand.ensures.front is.list is.stands)
