use Rattle.er_order_tests.proofs.StandingLemmas.{has_begun}
use Rattle.er_order_tests.proofs.worked.write.Goals as goal

pub explain-requires : goal.explain-requires
explain-requires c = record {
  first = has_begun c.args.graph.now _ c.args.from c.actions-count.result c.page.ensures c.actions-count.ensures c.if-from-count.false;
  second = has_begun c.args.graph.now _ c.args.to c.actions-count.result c.page.ensures c.actions-count.ensures c.if-to-count.false;
  whole = λ failed. let w = c.requires.whole in cc;
}
