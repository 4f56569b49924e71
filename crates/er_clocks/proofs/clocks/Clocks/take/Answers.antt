use Rattle.std.proofs.Common.{sym, ◌∙◌, ap, List, ℕ}
use Rattle.er_clocks.specs.Rows.{is_covered}
use Rattle.er_clocks.proofs.Entries.{taken_covered, taken_kept}
use Rattle.er_clocks.proofs.clocks.Clocks.take.Goals as goal

pub returns-then-covers-clause-taken : goal.returns-then-covers-clause-taken
returns-then-covers-clause-taken c =
    taken_covered c.args.self.now c.args.row.now c.args.links.now.items c.args.i c.requires.known
    (ap (λ (row : List ℕ). is_covered c.args.self.now row c.args.i) (sym c.numbers.ensures) ∙ sym c.covers.ensures.covered ∙ c.if-covers.true)

pub returns-clause-taken : goal.returns-clause-taken
returns-clause-taken c =
    rw c.in-Ok.ensures.items (taken_kept c.args.self.now c.args.row.now c.join.new.row c.args.links.now.items c.args.i c.requires.known
    (ap (λ (row : List ℕ). is_covered c.args.self.now row c.args.i) (sym c.numbers.ensures) ∙ sym c.covers.ensures.covered ∙ c.if-covers.false)
    (rw c.deref.ensures.value at c.in_ok-join.ensures))
