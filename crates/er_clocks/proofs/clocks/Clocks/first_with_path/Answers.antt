use Rattle.std.proofs.Common.{ℕ, ◌<◌, ◌∙◌, length, slice_index, sym}
use Rattle.std.proofs.lemmas.List.Elements.{All-get_or}
use Rattle.er_paths.specs.Paths.{joins}
use Rattle.er_clocks.specs.Asked.{entry_at}
use Rattle.er_clocks.proofs.AskedLemmas.{fails_more, found_first, joined_by, none_first}
use Rattle.er_clocks.proofs.clocks.Clocks.first_with_path.Goals as goal

pub returns-then-has_path_to-clause-answer : goal.returns-then-has_path_to-clause-answer
returns-then-has_path_to-clause-answer c =
    let n : ℕ = c.loop-n.n in
    let target = c.target-target.result in
    let known = All-get_or (λ i. i < length c.args.self.now) c.args.firsts.now n 0 c.loop-n-test.true c.requires.firsts in
    let joined = joined_by c.args.self.now (slice_index c.args.firsts.now n) c.args.j (entry_at target.chain target.number target.row.now) known c.target-target.ensures.entries in
    found_first (λ i. joins c.args.self.now i c.args.j) c.args.firsts.now n c.loop-n-test.true c.loop-n.invariant (sym joined ∙ sym c.has_path_to.ensures ∙ c.if-has_path_to.true)

pub loop-n-preserved : goal.loop-n-preserved
loop-n-preserved c =
    let n : ℕ = c.loop-n.n in
    let target = c.target-target.result in
    let known = All-get_or (λ i. i < length c.args.self.now) c.args.firsts.now n 0 c.loop-n-test.true c.requires.firsts in
    let joined = joined_by c.args.self.now (slice_index c.args.firsts.now n) c.args.j (entry_at target.chain target.number target.row.now) known c.target-target.ensures.entries in
    fails_more (λ i. joins c.args.self.now i c.args.j) c.args.firsts.now n c.loop-n.invariant (sym joined ∙ sym c.has_path_to.ensures ∙ c.if-has_path_to.false)

pub returns-clause-answer : goal.returns-clause-answer
returns-clause-answer c = none_first (λ i. joins c.args.self.now i c.args.j) c.args.firsts.now c.loop-n.n c.loop-n-test.false c.loop-n.invariant
