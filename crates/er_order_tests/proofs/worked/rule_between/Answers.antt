use Rattle.er_order_tests.proofs.StandingLemmas.{has_begun}
use Rattle.er_order_tests.proofs.worked.rule_between.Goals as goal

pub rule_of-requires : goal.rule_of-requires
rule_of-requires c = record {
  first = has_begun c.args.graph.now _ c.args.from c.actions-count.result c.page.ensures c.actions-count.ensures c.if-from-count.false;
  second = has_begun c.args.graph.now _ c.args.to c.actions-count.result c.page.ensures c.actions-count.ensures c.if-to-count.false;
}
