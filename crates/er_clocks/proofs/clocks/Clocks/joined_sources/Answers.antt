use Rattle.std.proofs.Common.{length, ◌∙◌, ap, List, ℕ}
use Rattle.std.specs.Prelude.{slice_index}
use Rattle.er_clocks.proofs.Uncovered.{known_same}
use Rattle.er_clocks.proofs.Entries.{links_made, reach_same}
use Rattle.er_clocks.proofs.clocks.Clocks.joined_sources.Goals as goal

pub take_all-requires-clause-known : goal.take_all-requires-clause-known
take_all-requires-clause-known c =
    rw c.deref.ensures.value (known_same (length c.args.self.now) c.in_ok-sorted.sorted.items c.args.preds.now c.in_ok-sorted.ensures.same c.requires)

pub returns-clause-links : goal.returns-clause-links
returns-clause-links c =
    let taken = rw c.deref.ensures.value at c.in_ok-take_all.ensures.taken in
    c.in_ok-links.ensures ∙ c.deref-2.ensures.value ∙ c.reverse.ensures.items
    ∙ links_made c.args.self.now c.args.preds.now c.in_ok-sorted.sorted.items c.take_all.new.row c.take_all.new.links.items c.in_ok-sorted.ensures.sorted c.in_ok-sorted.ensures.same c.requires taken

pub returns-clause-reach : goal.returns-clause-reach
returns-clause-reach c =
    let taken = rw c.deref.ensures.value at c.in_ok-take_all.ensures.taken in
    λ d. ap (λ (row : List ℕ). slice_index row d) (c.in_ok-row.ensures ∙ c.numbers.ensures)
    ∙ reach_same c.args.self.now c.take_all.new.row c.args.preds.now c.in_ok-sorted.sorted.items c.in_ok-sorted.ensures.same taken.0 d
