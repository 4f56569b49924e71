use Rattle.std.proofs.Math.Logic.{∥∥₁_elim}
use Rattle.std.proofs.Props.{props}
use Rattle.er_page.specs.Page.{IsPage, IsSomePage}
use Rattle.er_pieces.specs.Counts.{most_dispatch}
use Rattle.er_pieces.specs.HandedPieces.{dispatch_handed}
use Rattle.er_pieces.proofs.ContractLemmas.{few_by, kept_by}
use Rattle.er_pieces.proofs.CountLaws.{dispatch_hands_at_most}
use Rattle.er_pieces.proofs.TogetherLemmas.{enough_pieces_of, source_pieces_of}
use Rattle.er_rules.proofs.dispatch.predecessors.predecessors.Goals as goal

pub returns-clause-enough : goal.returns-clause-enough
returns-clause-enough c = enough_pieces_of (IsPage c.args.page.now) c.args.rec.now c.args.out.now.items c.hand.new.out.items c.hand.result c.hand.ensures.exact

pub returns-clause-sources : goal.returns-clause-sources
returns-clause-sources c = source_pieces_of (IsPage c.args.page.now) c.args.rec.now c.args.out.now.items c.hand.new.out.items c.hand.result c.hand.ensures.front

pub returns-clause-few : goal.returns-clause-few
returns-clause-few c = few_by (IsPage c.args.page.now) dispatch_handed most_dispatch dispatch_hands_at_most c.hand.result c.args.rec.now c.args.out.now.items c.hand.new.out.items c.hand.ensures.exact c.hand.ensures.front

pub returns-clause-kept : goal.returns-clause-kept
returns-clause-kept c = ∥∥₁_elim c.requires.some (hlevel props) (λ (is : IsSomePage c.args.page.now).
    kept_by (IsPage c.args.page.now) dispatch_handed c.hand.result c.args.rec.now c.args.out.now.items c.hand.new.out.items c.hand.ensures.exact c.hand.ensures.front is.list is.stands)
