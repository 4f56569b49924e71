use Rattle.std.proofs.Common.{sym, ap, ◌∙◌, ℕ, List}
use Rattle.std.specs.Prelude.{◌==◌}
use Rattle.std.proofs.lemmas.List.Filters.{dedup_is}
use Rattle.std.proofs.lemmas.List.Sorted.{list_any-IsPermutation}
use Rattle.std.proofs.lemmas.Map.Keys.{IsStrictlyIncreasing-dedup}
use Rattle.er_paths.specs.Paths.{is_among}
use Rattle.er_clocks.proofs.Uncovered.{member_dedup}
use Rattle.er_clocks.proofs.sources.sorted_once.Goals as goal

pub returns-clause-sorted : goal.returns-clause-sorted
returns-clause-sorted c = let is = dedup_is _ _ _ c.dedup.ensures.filtered in rw is (IsStrictlyIncreasing-dedup _ c.sort_unstable.ensures.sorted)

pub returns-clause-same : goal.returns-clause-same
returns-clause-same c = λ i.
    let is = dedup_is _ _ _ c.dedup.ensures.filtered in
    rw is (member_dedup _ i ∙ sym (list_any-IsPermutation (λ m. m == i) _ _ c.sort_unstable.ensures.permutation) ∙ ap (λ (xs : List ℕ). is_among i xs) c.in-Ok.ensures.items)
