use Rattle.std.proofs.Common.{rules}
use Rattle.std.proofs.lemmas.List.Sorted.{IsNonDecreasingBy-from_sort_by_key}
use Rattle.er_cover.specs.Passes.{rank}
use Rattle.er_cover.proofs.OrderLemmas.{rising_sorted}
use Rattle.er_cover.proofs.maximal.by_rank.Goals as goal

pub returns-clause-rising : goal.returns-clause-rising
returns-clause-rising c = rising_sorted c.args.actions _ (IsNonDecreasingBy-from_sort_by_key (λ p. rank c.args.actions p) _ c.in-Ok-sort_by_key.ensures.sorted (λ a r q k. search rules))
